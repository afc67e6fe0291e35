use Rattle.c_meaning.proofs.Steps.{reaches}
use Rattle.c_meaning.proofs.machine.Machine.advance.Goals as goal

pub returns-in_default : goal.returns-in_default
returns-in_default c = reaches c.args.self.now c.loop-event.self c.step.new.self c.in_ok-event.event c.in_default.not-Quiet c.loop-event.invariant c.in_ok-event.ensures
