use Rattle.std.proofs.Common.{arith, refl}
use Rattle.std.proofs.lemmas.Result.{IfOk-weaker}
use Rattle.c_meaning.proofs.Steps.{over}
use Rattle.c_meaning.proofs.machine.Machine.operands.Goals as goal

pub returns : goal.returns
returns c = IfOk-weaker _ _ _ (λ event w. over w (rw (c.deref.ensures) refl) (rw (c.deref.ensures) (omega arith))) c.wait.ensures
