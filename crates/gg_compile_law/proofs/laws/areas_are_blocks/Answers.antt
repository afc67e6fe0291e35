use Rattle.gg_compile_law.proofs.Spelling.{areas_are_blocks}
use Rattle.gg_compile_law.proofs.laws.areas_are_blocks.Goals as goal

pub returns : goal.returns
returns c = areas_are_blocks
