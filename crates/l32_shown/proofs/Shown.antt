-- The effects of the shipped description's rules and lines, computed and compared with what their patterns want; and wrong templates.
use Rattle.std.specs.Prelude.{map}
use Rattle.std.proofs.Common.{◌≡◌, None, refl}
use Rattle.sel_parse.specs.Shown.{lines_refused, rules_refused, saved_kinds}
use Rattle.l32_templates.specs.vax_templates.specs.Marks.{signed_front, at_front}
use Rattle.l32_templates.specs.vax_templates.specs.Forms.{number_spelled}
use Rattle.l32_templates.specs.vax_templates.specs.Taking.{fetched}
use Rattle.l32_templates.specs.l32_core.specs.Mnemonics.{op_of}
use Rattle.l32_templates.specs.Forms.{immediate_front, form_front}
use Rattle.l32_templates.specs.Standing.{form_where}
use Rattle.l32_templates.specs.Taking.{taken, evaluated}
use Rattle.l32_templates.specs.Judging.{operated, branches, line_did}
use Rattle.l32_templates.specs.GiveLines.{shape_given}
use Rattle.l32_templates.specs.Found.{found, saved_found}
use Rattle.l32_templates.specs.template_judging.specs.Found.{ended, template_found, found as any_found, saved_found as any_saved}
use Rattle.l32_shown.specs.Shipped.{classes, spills, rules}
use Rattle.l32_shown.specs.Wrong.{templates, found_in, told_of}

pub lines_are_shown : lines_refused saved_found saved_kinds spills ≡ None
unfolding signed_front at_front number_spelled op_of fetched immediate_front form_front form_where taken evaluated operated branches line_did
    shape_given ended template_found any_saved
lines_are_shown = refl

pub rules_are_shown : rules_refused found classes 1 rules ≡ None
unfolding signed_front at_front number_spelled op_of fetched immediate_front form_front form_where taken evaluated operated branches line_did
    shape_given ended template_found any_found
rules_are_shown = refl

pub wrong_ones_are_told : map found_in templates ≡ map told_of templates
unfolding signed_front at_front number_spelled op_of fetched immediate_front form_front form_where taken evaluated operated branches line_did
    shape_given ended template_found any_found
wrong_ones_are_told = refl
