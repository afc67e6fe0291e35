use Rattle.c_sound_texts.proofs.Law.{typed_is_sound}
use Rattle.c_sound_texts.proofs.typed_is_sound.Goals as goal

pub returns : goal.returns
returns c = typed_is_sound
