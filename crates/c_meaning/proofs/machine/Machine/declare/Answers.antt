use Rattle.std.proofs.Common.{◌≡◌, [], arith, refl}
use Rattle.std.proofs.lemmas.List.{nil_from_length}
use Rattle.std.proofs.lemmas.Result.{IfOk-weaker}
use Rattle.c_meaning.proofs.Steps.{over, state_some}
use Rattle.c_meaning.proofs.machine.Machine.declare.Goals as goal

pub returns-in-None : goal.returns-in-None
returns-in-None c = let none : c.args.declarations.now ≡ [] = nil_from_length _ c.in-None.ensures.cases in over c.quit.ensures (rw none refl) (rw none (omega arith))

pub returns-then-put_local : goal.returns-then-put_local
returns-then-put_local c =
    let more = c.in-Some-Begin-default.ensures.cases.0 in
    let first = c.in-Some-Begin-default.field-0-0-is in
    let put = state_some _ _ _ c.if-put_local.ensures.done c.if-put_local.ensures.new in
    IfOk-weaker _ _ _ (λ event w. over w (rw (more, first, put) refl) (rw (more, first) (omega arith))) c.wait.ensures

pub returns-in-Some-Store-default : goal.returns-in-Some-Store-default
returns-in-Some-Store-default c =
    let more = c.in-Some-Store-default.ensures.cases.0 in
    let first = c.in-Some-Store-default.field-0-0-is in
    IfOk-weaker _ _ _ (λ event w. over w (rw (more, first) refl) (rw (more, first) (omega arith))) c.wait-in-Some-Store-default.ensures
