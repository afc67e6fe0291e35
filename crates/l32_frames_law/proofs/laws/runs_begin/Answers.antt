use Rattle.l32_frames_law.proofs.Entering.{runs_begin}
use Rattle.l32_frames_law.proofs.laws.runs_begin.Goals as goal

pub returns : goal.returns
returns c = runs_begin
