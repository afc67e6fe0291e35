use Rattle.std.proofs.Common.{arith, refl}
use Rattle.std.proofs.lemmas.Result.{IfOk-weaker}
use Rattle.c_meaning.specs.declared.frame.Frame.TheVariants.{ForValue, ForArgument, ForFlow, ForCall}
use Rattle.c_meaning.proofs.Steps.{over, popped_value, passed_value}
use Rattle.c_meaning.proofs.machine.Machine.receive.Goals as goal

pub returns-in-Some-ForValue : goal.returns-in-Some-ForValue
returns-in-Some-ForValue c =
    let pop = rw c.in-Some-ForValue.field-0-is at c.in-Some-ForValue.ensures.items in
    IfOk-weaker _ _ _ (λ event w. popped_value c.args.self.now c.pop.new.self (ForValue c.in-Some-ForValue.frame) c.args.value pop w) c.resume.ensures

pub returns-in-Some-ForArgument : goal.returns-in-Some-ForArgument
returns-in-Some-ForArgument c =
    let pop = rw c.in-Some-ForArgument.field-0-is at c.in-Some-ForArgument.ensures.items in
    let of = ForArgument c.in-Some-ForArgument.callee c.in-Some-ForArgument.done c.in-Some-ForArgument.to c.in-Some-ForArgument.rest in
    IfOk-weaker _ _ _ (λ event w. popped_value c.args.self.now c.pop.new.self of c.args.value pop (over w refl (omega arith))) c.pass.ensures

pub returns-in-Some-ForFlow : goal.returns-in-Some-ForFlow
returns-in-Some-ForFlow c = passed_value c.args.self.now c.pop.new.self (ForFlow c.in-Some-ForFlow.field-0-0) c.args.value
    (rw c.in-Some-ForFlow.field-0-is at c.in-Some-ForFlow.ensures.items) refl c.give.ensures

pub returns : goal.returns
returns c = passed_value c.args.self.now c.pop.new.self (ForCall c.in-Some-ForCall.field-0-0 c.in-Some-ForCall.field-0-1 c.in-Some-ForCall.field-0-2) c.args.value
    (rw c.in-Some-ForCall.field-0-is at c.in-Some-ForCall.ensures.items) refl c.give-in-Some-ForCall.ensures
