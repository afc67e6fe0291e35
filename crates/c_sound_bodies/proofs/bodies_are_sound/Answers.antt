use Rattle.c_sound_bodies.proofs.Law.{bodies_are_sound}
use Rattle.c_sound_bodies.proofs.bodies_are_sound.Goals as goal

pub returns : goal.returns
returns c = bodies_are_sound
