use Rattle.std.proofs.Common.{◌+◌, ◌/◌, length, refl, rules, tests, arith}
use Rattle.std.proofs.lemmas.Iterator.{YieldsList-from_range, cases_from_all}
use Rattle.tree_core.proofs.Naming.{all_settled}
use Rattle.tree_core.specs.Hashes.{AreSettled}
use Rattle.tree_core.specs.Valid.{NamesDiffer}
use Rattle.tree_core.proofs.names.names_differ.Goals as goal

pub returns : goal.returns
returns c =
    let fs = c.args.functions.now in
    let parts = length fs / 512 + 1 in
    all_settled fs parts (omega arith) c.all.result
    (cases_from_all _ _ c.all.result (λ p. AreSettled parts p fs) (λ _. NamesDiffer fs → ⊥) c.all.ensures.ran (YieldsList-from_range 0 parts parts refl (omega arith))
    (λ p q k. search (rules, tests)) (λ p q k. search (rules, tests)))
