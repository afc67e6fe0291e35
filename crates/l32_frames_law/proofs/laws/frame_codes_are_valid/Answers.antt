use Rattle.l32_frames_law.proofs.Writing.{frame_codes_are_valid}
use Rattle.l32_frames_law.proofs.laws.frame_codes_are_valid.Goals as goal

pub returns : goal.returns
returns c = frame_codes_are_valid
