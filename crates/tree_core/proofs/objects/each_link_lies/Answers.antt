use Rattle.std.proofs.Common.{◌≡◌, true, rules, tests}
use Rattle.std.proofs.lemmas.Iterator.{YieldsList-from_slice, cases_from_all}
use Rattle.tree_core.specs.declared.program.Link.{Link}
use Rattle.tree_core.specs.Valid.{link_lies}
use Rattle.tree_core.proofs.Elements.{all_decided}
use Rattle.tree_core.proofs.objects.each_link_lies.Goals as goal

pub returns : goal.returns
returns c =
    let P : Link → Type 0 = λ l. link_lies c.args.objects c.args.size l ≡ true in
    all_decided P c.all.result c.args.links.now
    (cases_from_all _ _ c.all.result P (λ x. P x → ⊥) c.all.ensures.ran (YieldsList-from_slice c.args.links.now cc)
    (λ x q k. search (rules, tests)) (λ x q k. search (rules, tests)))
