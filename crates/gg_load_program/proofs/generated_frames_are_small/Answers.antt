use Rattle.gg_load_program.proofs.Law.{program_small}
use Rattle.gg_load_program.proofs.generated_frames_are_small.Goals as goal

pub returns : goal.returns
returns c = program_small
