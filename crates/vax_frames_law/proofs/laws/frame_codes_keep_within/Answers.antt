use Rattle.vax_frames_law.proofs.Masks.{frame_codes_keep_within}
use Rattle.vax_frames_law.proofs.laws.frame_codes_keep_within.Goals as goal

pub returns : goal.returns
returns c = frame_codes_keep_within
