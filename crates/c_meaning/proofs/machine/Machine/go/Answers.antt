use Rattle.c_meaning.proofs.Steps.{goes}
use Rattle.c_meaning.proofs.machine.Machine.go.Goals as goal

pub returns : goal.returns
returns c = rw c.of-self.ensures (goes c.args.self.now c.args.control)
