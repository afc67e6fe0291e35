use Rattle.std.proofs.Common.{◌≡◌, true, rules, tests}
use Rattle.std.proofs.lemmas.Iterator.{YieldsList-from_slice, cases_from_all}
use Rattle.tree_core.specs.declared.tree.Leaf.{Leaf}
use Rattle.tree_core.specs.Valid.{leaf_names}
use Rattle.tree_core.proofs.Elements.{all_decided}
use Rattle.tree_core.proofs.valid.leaves_name.Goals as goal

pub returns : goal.returns
returns c =
    let P : Leaf → Type 0 = λ l. leaf_names c.args.functions.now c.args.objects c.args.function.now l ≡ true in
    all_decided P c.all.result c.args.leaves.now
    (cases_from_all _ _ c.all.result P (λ x. P x → ⊥) c.all.ensures.ran (YieldsList-from_slice c.args.leaves.now cc)
    (λ x q k. search (rules, tests)) (λ x q k. search (rules, tests)))
