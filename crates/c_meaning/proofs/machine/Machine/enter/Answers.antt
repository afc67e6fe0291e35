use Rattle.std.proofs.Common.{◌≡◌, List, refl, subst}
use Rattle.std.proofs.lemmas.Result.{IfOk-weaker}
use Rattle.gg_base.specs.Runs.{Runs, stop}
use Rattle.gg_base.specs.Turns.{end_of}
use Rattle.tree_core.specs.declared.program.Object.{Object}
use Rattle.c_meaning.specs.State.{State}
use Rattle.c_meaning.specs.Blocks.{claimed}
use Rattle.c_meaning.specs.Parts.{state}
use Rattle.c_meaning.proofs.Steps.{call_begins, call_refused, call_deep}
use Rattle.c_meaning.proofs.machine.Machine.enter.Goals as goal

pub returns-in-Ok : goal.returns-in-Ok
returns-in-Ok c =
    let zeros = rw c.as_slice.ensures at c.in_ok-locals.ensures in
    let claims = subst (λ (os : List Object). (κ : State → Runs) → claimed os c.args.function.now.block κ (state c.enter-caller.new.self) ≡ κ (state c.claim.new.self))
    c.as_slice-then-active-lt-ACTIVE_CALL_LIMIT.ensures c.in-Ok.ensures in
    IfOk-weaker c.count.result _ _ (λ event w. call_begins c.args.function.now.body c.args.self.now c.enter-caller.new.self c.claim.new.self c.args.function.now c.args.values.items
    c.in_ok-locals.locals.items c.enter-caller.result c.if-active-lt-ACTIVE_CALL_LIMIT.true refl c.enter-caller.ensures.new zeros c.enter-caller.ensures.caller claims w) c.count.ensures

pub returns-in-Err : goal.returns-in-Err
returns-in-Err c =
    let zeros = rw c.as_slice.ensures at c.in_ok-locals.ensures in
    let claims = subst (λ (os : List Object). (κ : State → Runs) → claimed os c.args.function.now.block κ (state c.enter-caller.new.self) ≡ stop (end_of c.in-Err.finish))
    c.as_slice-then-active-lt-ACTIVE_CALL_LIMIT.ensures c.in-Err.ensures in
    call_refused c.args.self.now c.enter-caller.new.self c.args.function.now c.args.values.items c.in_ok-locals.locals.items c.in-Err.finish c.claim.new.self
    c.if-active-lt-ACTIVE_CALL_LIMIT.true c.enter-caller.ensures.new zeros claims c.count_end.ensures

pub returns-else-active-lt-ACTIVE_CALL_LIMIT : goal.returns-else-active-lt-ACTIVE_CALL_LIMIT
returns-else-active-lt-ACTIVE_CALL_LIMIT c =
    call_deep c.args.self.now c.args.function.now c.args.values.items c.if-active-lt-ACTIVE_CALL_LIMIT.false c.count_end-else-active-lt-ACTIVE_CALL_LIMIT.ensures
