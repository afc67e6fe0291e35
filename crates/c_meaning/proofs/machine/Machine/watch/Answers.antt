use Rattle.c_meaning.specs.declared.frame.Control.TheVariants.{Evaluate}
use Rattle.c_meaning.proofs.Steps.{waits_for}
use Rattle.c_meaning.proofs.machine.Machine.watch.Goals as goal

pub returns : goal.returns
returns c = rw c.of-self.ensures (waits_for c.args.self.now c.args.frame (Evaluate c.args.e) c.push.new.self c.in_ok-push.ensures.items)
