use Rattle.c_sound_bodies.proofs.Objects.{objects_are_sound}
use Rattle.c_sound_bodies.proofs.objects_are_sound.Goals as goal

pub returns : goal.returns
returns c = objects_are_sound
