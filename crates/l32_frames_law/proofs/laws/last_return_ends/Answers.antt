use Rattle.l32_frames_law.proofs.Returning.{last_return_ends}
use Rattle.l32_frames_law.proofs.laws.last_return_ends.Goals as goal

pub returns : goal.returns
returns c = last_return_ends
