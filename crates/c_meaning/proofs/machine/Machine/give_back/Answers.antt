use Rattle.std.proofs.Common.{arith, refl}
use Rattle.std.proofs.lemmas.Result.{IfOk-weaker}
use Rattle.c_meaning.proofs.Steps.{over}
use Rattle.c_meaning.proofs.machine.Machine.give_back.Goals as goal

pub returns-in-None : goal.returns-in-None
returns-in-None c = over c.quit.ensures (rw (c.in-None.is) refl) (rw (c.in-None.is) (omega arith))

pub returns-in-Some : goal.returns-in-Some
returns-in-Some c = IfOk-weaker _ _ _ (λ event w. over w (rw (c.in-Some.is) refl) (rw (c.in-Some.is) (omega arith))) c.wait.ensures
