use Rattle.l32_frames_law.proofs.Returning.{returns_agree}
use Rattle.l32_frames_law.proofs.laws.returns_agree.Goals as goal

pub returns : goal.returns
returns c = returns_agree
