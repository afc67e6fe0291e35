use Rattle.std.proofs.Common.{arith, refl}
use Rattle.c_meaning.proofs.Steps.{over}
use Rattle.c_meaning.proofs.machine.Machine.put_char.Goals as goal

pub returns-in-Some : goal.returns-in-Some
returns-in-Some c = let more = c.in-Some.ensures.cases.0 in over c.write.ensures (rw more refl) (omega arith)
