use Rattle.l32_frames_law.proofs.Rooms.{stack_has_room}
use Rattle.l32_frames_law.proofs.laws.stack_has_room.Goals as goal

pub returns : goal.returns
returns c = stack_has_room
