use Rattle.std.proofs.Common.{arith, refl}
use Rattle.std.proofs.lemmas.Result.{IfOk-weaker}
use Rattle.c_meaning.proofs.Steps.{over}
use Rattle.c_meaning.proofs.machine.Machine.go_on.Goals as goal

pub returns-in-Onward : goal.returns-in-Onward
returns-in-Onward c = IfOk-weaker _ _ _ (λ event w. over w (rw (c.in-Statements.is, c.in-Onward.is) refl) (rw (c.in-Statements.is) (omega arith))) c.block.ensures

pub returns-in-Onward-flow : goal.returns-in-Onward-flow
returns-in-Onward-flow c = IfOk-weaker _ _ _ (λ event w. over w (rw (c.in-Turn.is, c.in-Onward-flow.is) refl) (rw (c.in-Turn.is) (omega arith))) c.again.ensures

pub returns-in-Continued-flow : goal.returns-in-Continued-flow
returns-in-Continued-flow c = IfOk-weaker _ _ _ (λ event w. over w (rw (c.in-Turn.is, c.in-Continued-flow.is) refl) (rw (c.in-Turn.is) (omega arith))) c.again-in-Continued-flow.ensures
