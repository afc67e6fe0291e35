use Rattle.gg_compile_codes.proofs.Selected.{computed_codes_are_selected}
use Rattle.gg_compile_codes.proofs.selection.computed_codes_are_selected.Goals as goal

pub returns : goal.returns
returns c = computed_codes_are_selected
