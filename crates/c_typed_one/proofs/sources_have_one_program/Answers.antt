use Rattle.c_typed_one.proofs.Law.{sources_have_one_program}
use Rattle.c_typed_one.proofs.sources_have_one_program.Goals as goal

pub returns : goal.returns
returns c = sources_have_one_program
