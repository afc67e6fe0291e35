use Rattle.std.proofs.Common.{arith, refl}
use Rattle.std.proofs.lemmas.Result.{IfOk-weaker}
use Rattle.c_meaning.proofs.Steps.{over}
use Rattle.c_meaning.proofs.Steps.{chosen_some, turns}
use Rattle.c_meaning.proofs.machine.Machine.resume.Goals as goal

pub returns-in-Unary : goal.returns-in-Unary
returns-in-Unary c = over c.give.ensures (rw (c.in-Unary.is, c.apply_unary.ensures) refl) (rw (c.in-Unary.is) (omega arith))

pub returns-in-Convert : goal.returns-in-Convert
returns-in-Convert c = over c.give-in-Convert.ensures (rw (c.in-Convert.is, c.convert.ensures) refl) (rw (c.in-Convert.is) (omega arith))

pub returns-in-Right : goal.returns-in-Right
returns-in-Right c = IfOk-weaker _ _ _ (λ event w. over w (rw (c.in-Right.is, c.deref.ensures) refl) (rw (c.in-Right.is, c.deref.ensures) (omega arith))) c.wait.ensures

pub returns-else-value-eq0 : goal.returns-else-value-eq0
returns-else-value-eq0 c = IfOk-weaker _ _ _ (λ event w. over w (rw (c.in-AndRight.is, c.deref-else-value-eq0.ensures, chosen_some _ _ _ c.if-value-eq0.false) refl)
    (rw (c.in-AndRight.is, c.deref-else-value-eq0.ensures) (omega arith))) c.wait-else-value-eq0.ensures

pub returns-then-value-eq0-2 : goal.returns-then-value-eq0-2
returns-then-value-eq0-2 c = IfOk-weaker _ _ _ (λ event w. over w (rw (c.in-OrRight.is, c.deref-then-value-eq0-2.ensures, c.if-value-eq0-2.true) refl)
    (rw (c.in-OrRight.is, c.deref-then-value-eq0-2.ensures) (omega arith))) c.wait-then-value-eq0-2.ensures

pub returns-in-Truth : goal.returns-in-Truth
returns-in-Truth c = over c.give-in-Truth.ensures (rw (c.in-Truth.is, c.logical.ensures) refl) (rw (c.in-Truth.is) (omega arith))

pub returns-in-Found : goal.returns-in-Found
returns-in-Found c = IfOk-weaker _ _ _ (λ event w. over w (rw (c.in-Found.is) refl) (rw (c.in-Found.is) (omega arith))) c.at.ensures

pub returns-in-Change : goal.returns-in-Change
returns-in-Change c = over c.change.ensures (rw (c.in-Change.is) refl) (rw (c.in-Change.is) (omega arith))

pub returns-in-Forget : goal.returns-in-Forget
returns-in-Forget c = over c.quit.ensures (rw (c.in-Forget.is) refl) (rw (c.in-Forget.is) (omega arith))

pub returns-in-IfElse : goal.returns-in-IfElse
returns-in-IfElse c = over c.choose-in-IfElse.ensures (rw (c.in-IfElse.is) refl) (rw (c.in-IfElse.is) (omega arith))

pub returns-in-Return : goal.returns-in-Return
returns-in-Return c = over c.quit-in-Return.ensures (rw (c.in-Return.is) refl) (rw (c.in-Return.is) (omega arith))

pub returns-else-value-eq0-4 : goal.returns-else-value-eq0-4
returns-else-value-eq0-4 c = IfOk-weaker _ _ _ (λ event w. over (turns c.args.self.now c.in-Test.of c.args.value c.if-value-eq0-4.false w) (rw (c.in-Test.is) refl)
    (rw (c.in-Test.is) (omega arith))) c.turn.ensures

pub returns-in-Look : goal.returns-in-Look
returns-in-Look c = IfOk-weaker _ _ _ (λ event w. over w (rw (c.in-Look.is) refl) (rw (c.in-Look.is) (omega arith))) c.look.ensures
