use Rattle.std.proofs.Common.{length, rules, tests}
use Rattle.std.proofs.lemmas.Iterator.{YieldsList-from_slice, cases_from_all}
use Rattle.tree_core.specs.declared.program.Object.{Object}
use Rattle.tree_core.specs.Valid.{LinksLie}
use Rattle.tree_core.proofs.Elements.{all_decided}
use Rattle.tree_core.proofs.objects.links_lie.Goals as goal

pub returns : goal.returns
returns c =
    let P : Object → Type 0 = LinksLie (length c.args.objects.now) in
    all_decided P c.all.result c.args.objects.now
    (cases_from_all _ _ c.all.result P (λ x. P x → ⊥) c.all.ensures.ran (YieldsList-from_slice c.args.objects.now cc)
    (λ x q k. search (rules, tests)) (λ x q k. search (rules, tests)))
