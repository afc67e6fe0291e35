use Rattle.vax_frames_law.proofs.Undoing.{returns_undo}
use Rattle.vax_frames_law.proofs.laws.returns_undo.Goals as goal

pub returns : goal.returns
returns c = returns_undo
