use Rattle.std.proofs.Common.{arith, refl, ◌≡◌, []}
use Rattle.std.proofs.lemmas.Result.{IfOk-weaker}
use Rattle.c_meaning.proofs.Steps.{over}
use Rattle.std.proofs.lemmas.List.{nil_from_length, append-nil}
use Rattle.c_meaning.proofs.machine.Machine.argue.Goals as goal

pub returns-in-None : goal.returns-in-None
returns-in-None c = let none : c.args.rest.now ≡ [] = nil_from_length _ c.in-None.ensures.cases in
    IfOk-weaker _ _ _ (λ event w. over w (rw (none, append-nil c.args.done.items) refl) (rw none (omega arith))) c.call.ensures

pub returns-in-Some : goal.returns-in-Some
returns-in-Some c = let more = c.in-Some.ensures.cases.0 in IfOk-weaker _ _ _ (λ event w. over w (rw (more) refl) (rw (more) (omega arith))) c.watch.ensures
