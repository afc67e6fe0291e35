use Rattle.std.proofs.Common.{arith, refl}
use Rattle.std.proofs.lemmas.Result.{IfOk-weaker}
use Rattle.c_meaning.proofs.Steps.{over, part_is}
use Rattle.c_program.proofs.Rows.{block_is}
use Rattle.c_meaning.proofs.machine.Machine.perform.Goals as goal

pub returns-in-Block : goal.returns-in-Block
returns-in-Block c = let is = block_is c.args.action.now c.in-Block.actions c.in-Block.actions.items c.in-Block.is refl in
    over c.go-in-Block.ensures (rw (is) refl) (rw (is) (omega arith))

pub returns-in-Evaluate : goal.returns-in-Evaluate
returns-in-Evaluate c = IfOk-weaker _ _ _ (λ event w. over w (rw (c.in-Evaluate.is) refl) (rw (c.in-Evaluate.is) (omega arith))) c.wait.ensures

pub returns-in-Break : goal.returns-in-Break
returns-in-Break c = over c.quit.ensures (rw (c.in-Break.is) refl) (rw (c.in-Break.is) (omega arith))

pub returns-in-Continue : goal.returns-in-Continue
returns-in-Continue c = over c.quit-in-Continue.ensures (rw (c.in-Continue.is) refl) (rw (c.in-Continue.is) (omega arith))

pub returns-in-Return : goal.returns-in-Return
returns-in-Return c = IfOk-weaker _ _ _ (λ event w. over w (rw (c.in-Return.is) refl) (rw (c.in-Return.is) (omega arith))) c.give_back.ensures

pub returns-in-If : goal.returns-in-If
returns-in-If c = IfOk-weaker _ _ _ (λ event w. over w (rw (c.in-If.is) refl) (rw (c.in-If.is) (omega arith))) c.wait-in-If.ensures

pub returns-in-IfElse : goal.returns-in-IfElse
returns-in-IfElse c = IfOk-weaker _ _ _ (λ event w. over w (rw (c.in-IfElse.is) refl) (rw (c.in-IfElse.is) (omega arith))) c.wait-in-IfElse.ensures

pub returns-in-While : goal.returns-in-While
returns-in-While c = IfOk-weaker _ _ _ (λ event w. over w (rw (c.in-While.is) refl) (rw (c.in-While.is) (omega arith))) c.look.ensures

pub returns-in-Do : goal.returns-in-Do
returns-in-Do c = IfOk-weaker _ _ _ (λ event w. over w (rw (c.in-Do.is) refl) (rw (c.in-Do.is) (omega arith))) c.turn.ensures

pub returns-in-None : goal.returns-in-None
returns-in-None c =
    let condition = part_is _ _ c.as_ref.ensures.value in
    let step = part_is _ _ c.as_ref-in-For.ensures.value in
    IfOk-weaker _ _ _ (λ event w. over w (rw (c.in-For.is, c.in-None.is, condition, step) refl)
    (rw (c.in-For.is, c.in-None.is, condition) (omega arith))) c.look-in-None.ensures

pub returns-in-Some : goal.returns-in-Some
returns-in-Some c =
    let condition = part_is _ _ c.as_ref.ensures.value in
    let step = part_is _ _ c.as_ref-in-For.ensures.value in
    IfOk-weaker _ _ _ (λ event w. over w (rw (c.in-For.is, c.in-Some.is, ← condition, ← step) refl)
    (rw (c.in-For.is, c.in-Some.is, ← condition) (omega arith))) c.wait-in-Some.ensures
