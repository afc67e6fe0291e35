use Rattle.std.proofs.Common.{rules, tests}
use Rattle.std.proofs.lemmas.Iterator.{YieldsList-from_slice, cases_from_all}
use Rattle.tree_core.specs.declared.program.TreeFn.{TreeFn}
use Rattle.tree_core.specs.Valid.{WantedStand}
use Rattle.tree_core.proofs.Elements.{all_decided}
use Rattle.tree_core.proofs.valid.wanted_stand.Goals as goal

pub returns : goal.returns
returns c =
    let P : TreeFn → Type 0 = WantedStand in
    all_decided P c.all.result c.args.functions.now
    (cases_from_all _ _ c.all.result P (λ x. P x → ⊥) c.all.ensures.ran (YieldsList-from_slice c.args.functions.now cc)
    (λ x q k. search (rules, tests)) (λ x q k. search (rules, tests)))
