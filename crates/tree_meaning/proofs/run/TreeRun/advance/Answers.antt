use Rattle.tree_meaning.proofs.Advancing.{stepped}
use Rattle.tree_meaning.proofs.run.TreeRun.advance.Goals as goal

pub returns-clause-run : goal.returns-clause-run
returns-clause-run c =
    (stepped c.args.self.now c.self.inside.stage c.follow.new.self c.in-Going.machine c.arrive.new.self c.step.new.self c.in-Ok.leaves.now
    c.self.inside.left c.self.inside.taken c.in-Ok-step.done c.turn-2.result
    c.self.view_is c.in-Going.is c.in-Ok.ensures.tree c.if-self-eq0.false c.in-Ok-step.ensures c.follow.ensures c.turn-2.ensures).1
