use Rattle.gg_compile_codes.proofs.Frames as laws
use Rattle.gg_compile_codes.proofs.calls.selected_codes_are_frames.Goals as goal

pub returns : goal.returns
returns c = laws.selected_codes_are_frames
