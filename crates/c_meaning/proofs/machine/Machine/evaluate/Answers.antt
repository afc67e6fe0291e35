use Rattle.std.proofs.Common.{arith, refl, ap, ◌∙◌}
use Rattle.std.proofs.lemmas.Result.{IfOk-weaker}
use Rattle.c_meaning.proofs.Steps.{over}
use Rattle.c_types.specs.Typed.{expression_of}
use Rattle.c_types.proofs.Rows.{call_expression}
use Rattle.c_meaning.proofs.machine.Machine.evaluate.Goals as goal

pub returns-in-Number : goal.returns-in-Number
returns-in-Number c = over c.give.ensures (rw (c.in-Number.is) refl) (rw (c.in-Number.is) (omega arith))

pub returns-in-Read : goal.returns-in-Read
returns-in-Read c = IfOk-weaker _ _ _ (λ event w. over w (rw (c.in-Read.is) refl) (rw (c.in-Read.is) (omega arith))) c.find.ensures

pub returns-in-SizeofExpression : goal.returns-in-SizeofExpression
returns-in-SizeofExpression c = over c.give-in-SizeofExpression.ensures (rw (c.in-SizeofExpression.is) refl) (rw (c.in-SizeofExpression.is) (omega arith))

pub returns-in-SizeofType : goal.returns-in-SizeofType
returns-in-SizeofType c = over c.give-in-SizeofType.ensures (rw (c.in-SizeofType.is) refl) (rw (c.in-SizeofType.is) (omega arith))

pub returns-in-Address : goal.returns-in-Address
returns-in-Address c = IfOk-weaker _ _ _ (λ event w. over w (rw (c.in-Address.is) refl) (rw (c.in-Address.is) (omega arith))) c.find-in-Address.ensures

pub returns-in-Call : goal.returns-in-Call
returns-in-Call c = let is = ap expression_of c.in-Call.is ∙ call_expression _ _ _ c.in-Call.arguments in
    IfOk-weaker _ _ _ (λ event w. over w (rw (is, c.deref.ensures.value, c.as_slice.ensures, c.new.ensures.items) refl) (rw (is, c.deref.ensures.value) (omega arith))) c.argue.ensures

pub returns-in-Step : goal.returns-in-Step
returns-in-Step c = IfOk-weaker _ _ _ (λ event w. over w (rw (c.in-Step.is) refl) (rw (c.in-Step.is) (omega arith))) c.find-in-Step.ensures

pub returns-in-Unary : goal.returns-in-Unary
returns-in-Unary c = IfOk-weaker _ _ _ (λ event w. over w (rw (c.in-Unary.is, c.deref-in-Unary.ensures) refl) (rw (c.in-Unary.is, c.deref-in-Unary.ensures) (omega arith))) c.wait.ensures

pub returns-in-Cast : goal.returns-in-Cast
returns-in-Cast c = IfOk-weaker _ _ _ (λ event w. over w (rw (c.in-Cast.is, c.deref-in-Cast.ensures) refl) (rw (c.in-Cast.is, c.deref-in-Cast.ensures) (omega arith))) c.wait-in-Cast.ensures

pub returns-in-Convert : goal.returns-in-Convert
returns-in-Convert c = IfOk-weaker _ _ _ (λ event w. over w (rw (c.in-Convert.is, c.deref-in-Convert.ensures) refl) (rw (c.in-Convert.is, c.deref-in-Convert.ensures) (omega arith)))
    c.wait-in-Convert.ensures

pub returns-in-Arithmetic : goal.returns-in-Arithmetic
returns-in-Arithmetic c = IfOk-weaker _ _ _ (λ event w. over w (rw (c.in-Arithmetic.is) refl) (rw (c.in-Arithmetic.is) (omega arith))) c.operands.ensures

pub returns-in-Compare : goal.returns-in-Compare
returns-in-Compare c = IfOk-weaker _ _ _ (λ event w. over w (rw (c.in-Compare.is) refl) (rw (c.in-Compare.is) (omega arith))) c.operands-in-Compare.ensures

pub returns-in-AndAnd : goal.returns-in-AndAnd
returns-in-AndAnd c = IfOk-weaker _ _ _ (λ event w. over w (rw (c.in-AndAnd.is, c.deref-in-AndAnd.ensures) refl) (rw (c.in-AndAnd.is, c.deref-in-AndAnd.ensures) (omega arith)))
    c.wait-in-AndAnd.ensures

pub returns-in-OrOr : goal.returns-in-OrOr
returns-in-OrOr c = IfOk-weaker _ _ _ (λ event w. over w (rw (c.in-OrOr.is, c.deref-in-OrOr.ensures) refl) (rw (c.in-OrOr.is, c.deref-in-OrOr.ensures) (omega arith))) c.wait-in-OrOr.ensures

pub returns-in-Advance : goal.returns-in-Advance
returns-in-Advance c = IfOk-weaker _ _ _ (λ event w. over w (rw (c.in-Advance.is) refl) (rw (c.in-Advance.is) (omega arith))) c.operands-in-Advance.ensures

pub returns-in-AdvanceBy : goal.returns-in-AdvanceBy
returns-in-AdvanceBy c = IfOk-weaker _ _ _ (λ event w. over w (rw (c.in-AdvanceBy.is) refl) (rw (c.in-AdvanceBy.is) (omega arith))) c.operands-in-AdvanceBy.ensures

pub returns-in-Retreat : goal.returns-in-Retreat
returns-in-Retreat c = IfOk-weaker _ _ _ (λ event w. over w (rw (c.in-Retreat.is) refl) (rw (c.in-Retreat.is) (omega arith))) c.operands-in-Retreat.ensures

pub returns-in-Distance : goal.returns-in-Distance
returns-in-Distance c = IfOk-weaker _ _ _ (λ event w. over w (rw (c.in-Distance.is) refl) (rw (c.in-Distance.is) (omega arith))) c.operands-in-Distance.ensures

pub returns-in-Choice : goal.returns-in-Choice
returns-in-Choice c = IfOk-weaker _ _ _ (λ event w. over w (rw (c.in-Choice.is, c.deref-in-Choice.ensures) refl) (rw (c.in-Choice.is, c.deref-in-Choice.ensures) (omega arith)))
    c.wait-in-Choice.ensures

pub returns-in-Assign : goal.returns-in-Assign
returns-in-Assign c = IfOk-weaker _ _ _ (λ event w. over w (rw (c.in-Assign.is) refl) (rw (c.in-Assign.is) (omega arith))) c.find-in-Assign.ensures

pub returns-in-ArithmeticAssign : goal.returns-in-ArithmeticAssign
returns-in-ArithmeticAssign c = IfOk-weaker _ _ _ (λ event w. over w (rw (c.in-ArithmeticAssign.is) refl) (rw (c.in-ArithmeticAssign.is) (omega arith))) c.find-in-ArithmeticAssign.ensures

pub returns-in-AdvanceAssign : goal.returns-in-AdvanceAssign
returns-in-AdvanceAssign c = IfOk-weaker _ _ _ (λ event w. over w (rw (c.in-AdvanceAssign.is) refl) (rw (c.in-AdvanceAssign.is) (omega arith))) c.find-in-AdvanceAssign.ensures

pub returns-in-RetreatAssign : goal.returns-in-RetreatAssign
returns-in-RetreatAssign c = IfOk-weaker _ _ _ (λ event w. over w (rw (c.in-RetreatAssign.is) refl) (rw (c.in-RetreatAssign.is) (omega arith))) c.find-in-RetreatAssign.ensures

pub returns-in-Comma : goal.returns-in-Comma
returns-in-Comma c = IfOk-weaker _ _ _ (λ event w. over w (rw (c.in-Comma.is, c.deref-in-Comma.ensures) refl) (rw (c.in-Comma.is, c.deref-in-Comma.ensures) (omega arith))) c.wait-in-Comma.ensures
