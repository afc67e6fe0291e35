use Rattle.std.proofs.Common.{arith, refl}
use Rattle.std.proofs.lemmas.Result.{IfOk-weaker}
use Rattle.c_meaning.proofs.Steps.{over}
use Rattle.c_meaning.proofs.machine.Machine.at.Goals as goal

pub returns-in-Assign : goal.returns-in-Assign
returns-in-Assign c = IfOk-weaker _ _ _ (λ event w. over w (rw (c.in-Assign.is, c.deref.ensures) refl) (rw (c.in-Assign.is, c.deref.ensures) (omega arith))) c.wait.ensures

pub returns-in-Step : goal.returns-in-Step
returns-in-Step c = over c.step_at.ensures (rw c.in-Step.is refl) (rw c.in-Step.is (omega arith))
