use Rattle.l32_frames_law.proofs.Returning.{calls_note}
use Rattle.l32_frames_law.proofs.laws.calls_note.Goals as goal

pub returns : goal.returns
returns c = calls_note
