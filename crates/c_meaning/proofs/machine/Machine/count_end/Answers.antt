use Rattle.std.proofs.Common.{refl}
use Rattle.c_meaning.proofs.machine.Machine.count_end.Goals as goal

pub returns : goal.returns
returns c = rw c.of-self.ensures (record { progress = refl })
