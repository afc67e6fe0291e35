use Rattle.cmd_load.proofs.Coming.{may_come}
use Rattle.cmd_load.proofs.Exactly.{exactly}
use Rattle.cmd_load.proofs.load.load_generated.Goals as goal

pub returns-clause-comes : goal.returns-clause-comes
returns-clause-comes g c = may_come _ _ _ _ _ c.read_and_load.ensures.leaves

pub returns-clause-exact : goal.returns-clause-exact
returns-clause-exact g c = exactly _ _ _ _ _ c.read_and_load.ensures.leaves
