use Rattle.std.proofs.Common.{arith, refl}
use Rattle.std.proofs.lemmas.Result.{IfOk-weaker}
use Rattle.c_meaning.proofs.Steps.{over}
use Rattle.c_meaning.proofs.machine.Machine.look.Goals as goal

pub returns-in-None : goal.returns-in-None
returns-in-None c = IfOk-weaker _ _ _ (λ event w. over w (rw (c.in-None.is) refl) (omega arith)) c.turn.ensures

pub returns-in-Some : goal.returns-in-Some
returns-in-Some c = IfOk-weaker _ _ _ (λ event w. over w (rw (c.in-Some.is) refl) (rw (c.in-Some.is) (omega arith))) c.wait.ensures
