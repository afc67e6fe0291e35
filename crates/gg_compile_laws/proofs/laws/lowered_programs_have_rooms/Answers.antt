use Rattle.gg_compile_laws.proofs.Rooms as law
use Rattle.gg_compile_laws.proofs.laws.lowered_programs_have_rooms.Goals as goal

pub returns : goal.returns
returns c = law.lowered_programs_have_rooms
