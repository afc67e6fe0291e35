use Rattle.std.proofs.Common.{refl}
use Rattle.c_meaning.proofs.machine.Machine.write.Goals as goal

pub returns : goal.returns
returns c = rw (c.of-self.ensures, c.from.ensures) (record { progress = refl })
