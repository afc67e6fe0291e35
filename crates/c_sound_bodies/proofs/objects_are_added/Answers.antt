use Rattle.c_sound_bodies.proofs.Adding.{bodies_add, objects_add, lengths_add}
use Rattle.c_sound_bodies.proofs.objects_are_added.Goals as goal

pub returns : goal.returns
returns c = record { bodies = bodies_add; objects = objects_add; lengths = lengths_add }
