use Rattle.c_sound_sources.proofs.sources_are_sound.Goals as goal
use Rattle.c_sound_sources.proofs.Law.{sources_are_sound as law}

pub returns : goal.returns
returns c = law
