use Rattle.cmd_descriptions.specs.Machines.{machine_of}
use Rattle.cmd_descriptions.proofs.Exactly.{exactly}
use Rattle.cmd_descriptions.proofs.check.check_for.Goals as goal

pub returns-clause-exact : goal.returns-clause-exact
returns-clause-exact g c =
    exactly (machine_of g.W.TargetWord.target_word g.T.Templates.meaning) _ _ _ c.read_and_tell.ensures.leaves
