use Rattle.l32_frames_law.proofs.Entering.{calls_begin}
use Rattle.l32_frames_law.proofs.laws.calls_begin.Goals as goal

pub returns : goal.returns
returns c = calls_begin
