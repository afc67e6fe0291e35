use Rattle.std.proofs.Common.{◌≡◌, List, [], ◌∷◌, refl, ap, ◌∙◌, rules, tests}
use Rattle.std.proofs.lemmas.Iterator.{YieldsList-from_slice}
use Rattle.std.specs.Option.{option_or}
use Rattle.vax_core.specs.declared.code.AreaItem.{AreaItem}
use Rattle.l32_core.specs.declared.code.Item32.{Item32}
use Rattle.l32_machine.specs.Labels.{undefined_at, undefined_label}
use Rattle.gg_base.proofs.Mapping.{first_given}
use Rattle.vax_machine.proofs.Mapping.{mapped}
use Rattle.l32_machine.proofs.label.Names.undefined_label.Goals as goal

first_item : (items : List Item32) (layout : List AreaItem) (all : List Item32) → first_given (undefined_at layout all) items ≡ undefined_label items layout all
first_item [] layout all = refl
first_item (item ∷ items) layout all = ap (option_or (undefined_at layout all item)) (first_item items layout all)

pub returns : goal.returns
returns c =
    let layout = c.args.self.now.layout.now in
    let items = c.args.self.now.items.now in
    mapped _ _ _ _ (undefined_at layout items) (λ x r q k. search (rules, tests)) c.find_map.result _ _ items (YieldsList-from_slice items cc).runs c.find_map.ensures.ran c.find_map.ensures.runs
    ∙ first_item items layout items
