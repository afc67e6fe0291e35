use Rattle.c_lowered.proofs.Lowered.{sound_programs_are_lowered}
use Rattle.c_lowered.proofs.sound_programs_are_lowered.Goals as goal

pub returns : goal.returns
returns c = sound_programs_are_lowered
