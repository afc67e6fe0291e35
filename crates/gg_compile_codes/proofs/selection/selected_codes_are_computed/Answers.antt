use Rattle.gg_compile_codes.proofs.Selected.{selected_codes_are_computed}
use Rattle.gg_compile_codes.proofs.selection.selected_codes_are_computed.Goals as goal

pub returns : goal.returns
returns c = selected_codes_are_computed
