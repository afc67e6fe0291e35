use Rattle.c_lowered.proofs.Lowered.{sources_are_lowered}
use Rattle.c_lowered.proofs.sources_are_lowered.Goals as goal

pub returns : goal.returns
returns c = sources_are_lowered
