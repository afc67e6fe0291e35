use Rattle.cmd_compile.proofs.Exactly.{exactly}
use Rattle.cmd_compile.proofs.compile.compile_source.Goals as goal

pub returns-clause-exact : goal.returns-clause-exact
returns-clause-exact g c = exactly _ _ _ _ c.read_and_write.ensures.leaves
