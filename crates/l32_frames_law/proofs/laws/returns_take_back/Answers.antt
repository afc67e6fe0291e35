use Rattle.l32_frames_law.proofs.Returning.{returns_take_back}
use Rattle.l32_frames_law.proofs.laws.returns_take_back.Goals as goal

pub returns : goal.returns
returns c = returns_take_back
