use Rattle.std.proofs.Common.{rules, length, subst}
use Rattle.std.specs.Bool.{⊤, MatchBool}
use Rattle.std.specs.List.{AllWithin, HoldsAt}
use Rattle.std.specs.Prelude.{ℕ, ◌<◌, Bool}
use Rattle.std.proofs.lemmas.Iterator.{YieldsList-from_slice, cases_from_all}
use borrow.Author.Tests.{tests}
use Rattle.lr_check.proofs.Typed.{IsTyped, all_typed}
use Rattle.lr_check.proofs.typing.are_typed.Goals as goal

pub returns : goal.returns
returns c = λ yes.
    let nodes = c.args.nodes.now in
    all_typed nodes
    (subst (λ (b : Bool). MatchBool b (AllWithin (IsTyped nodes) nodes 0 (length nodes)) ((k : ℕ) × (k < length nodes) × HoldsAt (λ _. ⊤) nodes k)) yes
    (cases_from_all _ _ _ (IsTyped nodes) (λ _. ⊤) c.all.ensures.ran (YieldsList-from_slice nodes cc) (λ x q k. search (rules, tests)) (λ x q k. tt)))
