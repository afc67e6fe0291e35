use Rattle.c_meaning.proofs.Steps.{counts}
use Rattle.c_meaning.proofs.machine.Machine.count.Goals as goal

pub returns : goal.returns
returns c = rw c.of-self.ensures (counts c.args.self.now c.args.frame c.args.control c.push.new.self c.in_ok-push.ensures.items)
