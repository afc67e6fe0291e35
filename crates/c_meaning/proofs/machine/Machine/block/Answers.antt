use Rattle.std.proofs.Common.{arith, refl, ◌≡◌, []}
use Rattle.std.proofs.lemmas.List.{nil_from_length}
use Rattle.std.proofs.lemmas.Result.{IfOk-weaker}
use Rattle.c_meaning.specs.declared.frame.FlowFrame.TheVariants.{Statements}
use Rattle.c_meaning.specs.declared.frame.Frame.TheVariants.{ForFlow}
use Rattle.c_meaning.proofs.Steps.{over, behind}
use Rattle.c_meaning.proofs.machine.Machine.block.Goals as goal

pub returns-in-None : goal.returns-in-None
returns-in-None c = let none : c.args.actions.now ≡ [] = nil_from_length _ c.in-None.ensures.cases in over c.quit.ensures (rw (none) refl) (rw (none) (omega arith))

pub returns-in_ok-push-in-Some : goal.returns-in_ok-push-in-Some
returns-in_ok-push-in-Some c =
    let more = c.in-Some.ensures.cases.0 in
    IfOk-weaker _ _ _ (λ event w. over (behind c.args.self.now c.push.new.self (ForFlow (Statements c.in-Some.rest)) c.in_ok-push-in-Some.ensures.items w)
    (rw more refl) (rw more (omega arith))) c.perform.ensures
