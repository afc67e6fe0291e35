use Rattle.std.proofs.Common.{◌≡◌, List, subst}
use Rattle.std.proofs.lemmas.Result.{IfOk-weaker}
use Rattle.md_reader.specs.Valid.{IsValid}
use Rattle.lr_check.specs.declared.sample.Outcome.{Outcome}
use Rattle.lr_check.specs.Tree.{Node}
use Rattle.lr_check.specs.Running.{Computes}
use Rattle.lr_check.specs.Parse.{Replays}
use Rattle.lr_check.proofs.Law.{replays}
use Rattle.lr_check.proofs.Only.{replays_same}
use Rattle.lr_check.proofs.replaying.replay.Goals as goal

pub returns : goal.returns
returns c =
    let t = c.args.tables.now in
    let of = λ (x : List Node) (o : Outcome). Computes t x o in
    let law = λ (o : Outcome) (h : Computes t c.nodes.result.now o). replays t c.args.sample.now o (subst IsValid c.description.ensures c.is_valid.ensures) c.is_numbered.ensures
    (subst (λ (x : List Node). Computes t x o) c.nodes.ensures h) in
    record {
      parse = IfOk-weaker c.computed.result (of c.nodes.result.now) (λ (o : Outcome). Replays t.content c.args.sample.now o) law c.computed.ensures;
      only = IfOk-weaker c.computed.result (of c.nodes.result.now) (λ (o : Outcome). (p : Outcome) → Replays t.content c.args.sample.now p → p ≡ o)
          (λ o h p r. replays_same t.content c.args.sample.now o p (law o h) r)
          c.computed.ensures;
      steps = IfOk-weaker c.computed.result (of c.nodes.result.now) (of c.args.sample.now)
          (λ o h. subst (λ (x : List Node). Computes t x o) c.nodes.ensures h)
          c.computed.ensures;
    }
