use Rattle.vax_homes_items.proofs.Writing as law
use Rattle.vax_homes_items.proofs.laws.homed_bodies_can_be_written.Goals as goal

pub returns : goal.returns
returns c = law.homed_bodies_can_be_written
