use Rattle.std.proofs.Common.{ℕ, List, length, subst}
use Rattle.std.proofs.lemmas.Result.{IfOk-weaker}
use Rattle.lr_check.specs.declared.sample.Outcome.{Outcome}
use Rattle.lr_check.specs.Steps.{first_config}
use Rattle.lr_check.specs.Running.{Halts, Computes, too_long, by_steps}
use Rattle.lr_check.proofs.replaying.computed.Goals as goal

pub returns-in-None : goal.returns-in-None
returns-in-None c = too_long (rw c.in-None.is at c.in_ok-order.ensures)

pub returns-in-Some : goal.returns-in-Some
returns-in-Some c =
    let is = rw c.in-Some.is at c.in_ok-order.ensures in
    let t = c.args.tables.now in
    IfOk-weaker c.run.result
    (λ (o : Outcome). Halts t c.args.nodes.now c.as_slice.result.now (first_config (length t.content.classes)) o)
    (λ (o : Outcome). Computes t c.args.nodes.now o)
    (λ o h. by_steps c.in-Some.order.items is (subst (λ (x : List ℕ). Halts t c.args.nodes.now x (first_config (length t.content.classes)) o) c.as_slice.ensures.value h))
    c.run.ensures
