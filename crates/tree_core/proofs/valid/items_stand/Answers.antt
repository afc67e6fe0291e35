use Rattle.std.proofs.Common.{rules, tests}
use Rattle.std.proofs.lemmas.Iterator.{YieldsList-from_slice, cases_from_all}
use Rattle.tree_core.specs.declared.program.TreeItem.{TreeItem}
use Rattle.tree_core.specs.Valid.{ItemStands}
use Rattle.tree_core.proofs.Elements.{all_decided}
use Rattle.tree_core.proofs.valid.items_stand.Goals as goal

pub returns : goal.returns
returns c =
    let P : TreeItem → Type 0 = ItemStands c.args.functions.now c.args.objects c.args.function.now in
    all_decided P c.all.result c.args.function.now.items
    (cases_from_all _ _ c.all.result P (λ x. P x → ⊥) c.all.ensures.ran (YieldsList-from_slice c.args.function.now.items cc)
    (λ x q k. search (rules, tests)) (λ x q k. search (rules, tests)))
