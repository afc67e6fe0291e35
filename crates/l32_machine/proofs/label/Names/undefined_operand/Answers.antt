use Rattle.std.proofs.Common.{◌≡◌, List, [], ◌∷◌, refl, ap, ◌∙◌, rules, tests}
use Rattle.std.proofs.lemmas.Iterator.{YieldsList-from_slice}
use Rattle.std.specs.Option.{option_or}
use Rattle.vax_core.specs.declared.code.AreaItem.{AreaItem}
use Rattle.l32_core.specs.declared.operand.Operand32.{Operand32}
use Rattle.vax_machine.specs.Labels.{undefined_name}
use Rattle.l32_machine.specs.Labels.{name_in, undefined_operand}
use Rattle.gg_base.proofs.Mapping.{first_given}
use Rattle.vax_machine.proofs.Mapping.{mapped}
use Rattle.l32_machine.proofs.label.Names.undefined_operand.Goals as goal

first_operand : (layout : List AreaItem) (os : List Operand32) → first_given (λ o. undefined_name layout (name_in o)) os ≡ undefined_operand layout os
first_operand layout [] = refl
first_operand layout (o ∷ os) = ap (option_or (undefined_name layout (name_in o))) (first_operand layout os)

pub returns : goal.returns
returns c =
    let layout = c.args.self.now.layout.now in
    let operands = c.args.operands.now in
    mapped _ _ _ _ (λ o. undefined_name layout (name_in o)) (λ x r q k. search (rules, tests)) c.find_map.result _ _ operands (YieldsList-from_slice operands cc).runs c.find_map.ensures.ran
    c.find_map.ensures.runs
    ∙ first_operand layout operands
