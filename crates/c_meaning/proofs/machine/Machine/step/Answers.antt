use Rattle.std.proofs.Common.{arith, refl, sym, ◌∙◌}
use Rattle.std.proofs.lemmas.Result.{IfOk-weaker}
use Rattle.c_meaning.proofs.Steps.{over}
use Rattle.c_meaning.proofs.machine.Machine.step.Goals as goal

pub returns-in-Evaluate : goal.returns-in-Evaluate
returns-in-Evaluate c = let is = sym c.get.ensures ∙ c.in-Evaluate.is in IfOk-weaker _ _ _ (λ event w. over w (rw is refl) (rw is (omega arith))) c.evaluate.ensures

pub returns-in-Perform : goal.returns-in-Perform
returns-in-Perform c = let is = sym c.get.ensures ∙ c.in-Perform.is in
    IfOk-weaker _ _ _ (λ event w. over w (rw (is, c.deref.ensures) refl) (rw (is, c.deref.ensures) (omega arith))) c.perform.ensures

pub returns-in-Block : goal.returns-in-Block
returns-in-Block c = let is = sym c.get.ensures ∙ c.in-Block.is in
    IfOk-weaker _ _ _ (λ event w. over w (rw (is, c.deref-in-Block.ensures.value) refl) (rw (is, c.deref-in-Block.ensures.value) (omega arith))) c.block.ensures

pub returns-in-Declare : goal.returns-in-Declare
returns-in-Declare c = let is = sym c.get.ensures ∙ c.in-Declare.is in IfOk-weaker _ _ _ (λ event w. over w (rw is refl) (rw is (omega arith))) c.declare.ensures

pub returns-in-Value : goal.returns-in-Value
returns-in-Value c = let is = sym c.get.ensures ∙ c.in-Value.is in IfOk-weaker _ _ _ (λ event w. over w (rw is refl) (rw is (omega arith))) c.receive.ensures

pub returns-in-Left : goal.returns-in-Left
returns-in-Left c = let is = sym c.get.ensures ∙ c.in-Left.is in IfOk-weaker _ _ _ (λ event w. over w (rw is refl) (rw is (omega arith))) c.leave.ensures
