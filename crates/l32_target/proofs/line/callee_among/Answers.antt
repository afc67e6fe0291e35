use Rattle.std.proofs.Common.{◌≡◌, List, [], ◌∷◌, refl, ap, ◌∙◌, rules, tests}
use Rattle.std.proofs.lemmas.Iterator.{YieldsList-from_slice}
use Rattle.std.specs.Option.{option_or}
use Rattle.gg_base.proofs.Mapping.{first_given, found_first}
use Rattle.sel_target.specs.declared.attr.Attr.{Attr}
use Rattle.l32_core.specs.declared.operand.Operand32.{Operand32}
use Rattle.l32_templates.specs.FilledLines.{callee_in, callee_among}
use Rattle.l32_target.proofs.line.callee_among.Goals as goal

callee_given : (holes : List (Attr Operand32)) → first_given callee_in holes ≡ callee_among holes
callee_given [] = refl
callee_given (a ∷ rest) = ap (option_or (callee_in a)) (callee_given rest)

pub returns : goal.returns
returns c =
    let holes = c.args.holes.now in
    found_first _ _ _ _ callee_in (λ x r q k. search (rules, tests)) c.find_map.result _ _ holes (YieldsList-from_slice holes cc).runs c.find_map.ensures.ran c.find_map.ensures.runs
    ∙ callee_given holes
