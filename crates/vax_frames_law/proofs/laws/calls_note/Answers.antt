use Rattle.vax_frames_law.proofs.Undoing.{calls_note}
use Rattle.vax_frames_law.proofs.laws.calls_note.Goals as goal

pub returns : goal.returns
returns c = calls_note
