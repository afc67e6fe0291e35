use Rattle.c_lowered.proofs.Lowered.{typed_programs_are_lowered}
use Rattle.c_lowered.proofs.typed_programs_are_lowered.Goals as goal

pub returns : goal.returns
returns c = typed_programs_are_lowered
