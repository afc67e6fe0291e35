use Rattle.l32_frames_law.proofs.Returning.{ends_return_zero}
use Rattle.l32_frames_law.proofs.laws.ends_return_zero.Goals as goal

pub returns : goal.returns
returns c = ends_return_zero
