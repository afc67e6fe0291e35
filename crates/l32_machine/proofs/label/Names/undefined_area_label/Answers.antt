use Rattle.std.proofs.Common.{◌≡◌, List, [], ◌∷◌, refl, ap, ◌∙◌, rules, tests}
use Rattle.std.proofs.lemmas.Iterator.{YieldsList-from_slice}
use Rattle.std.specs.Option.{option_or}
use Rattle.vax_core.specs.declared.code.AreaItem.{AreaItem}
use Rattle.vax_machine.specs.Labels.{undefined_area_at, undefined_area_label}
use Rattle.gg_base.proofs.Mapping.{first_given}
use Rattle.vax_machine.proofs.Mapping.{mapped}
use Rattle.l32_machine.proofs.label.Names.undefined_area_label.Goals as goal

first_item : (items layout : List AreaItem) → first_given (undefined_area_at layout) items ≡ undefined_area_label items layout
first_item [] layout = refl
first_item (item ∷ items) layout = ap (option_or (undefined_area_at layout item)) (first_item items layout)

pub returns : goal.returns
returns c =
    let layout = c.args.self.now.layout.now in
    mapped _ _ _ _ (undefined_area_at layout) (λ x r q k. search (rules, tests)) c.find_map.result _ _ layout (YieldsList-from_slice layout cc).runs c.find_map.ensures.ran c.find_map.ensures.runs
    ∙ first_item layout layout
