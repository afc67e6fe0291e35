use Rattle.std.proofs.Common.{arith, refl}
use Rattle.std.proofs.lemmas.Result.{IfOk-weaker}
use Rattle.c_meaning.specs.declared.frame.Frame.TheVariants.{ForValue, ForArgument, ForFlow, ForCall}
use Rattle.c_meaning.proofs.Steps.{over, popped_flow, passed_flow}
use Rattle.c_meaning.proofs.machine.Machine.leave.Goals as goal

pub returns-in-Some-ForFlow : goal.returns-in-Some-ForFlow
returns-in-Some-ForFlow c =
    let pop = rw c.in-Some-ForFlow.field-0-is at c.in-Some-ForFlow.ensures.items in
    IfOk-weaker _ _ _ (λ event w. popped_flow c.args.self.now c.pop.new.self (ForFlow c.in-Some-ForFlow.frame) c.args.flow pop w) c.go_on.ensures

pub returns-in-Some-ForValue : goal.returns-in-Some-ForValue
returns-in-Some-ForValue c = passed_flow c.args.self.now c.pop.new.self (ForValue c.in-Some-ForValue.field-0-0) c.args.flow
    (rw c.in-Some-ForValue.field-0-is at c.in-Some-ForValue.ensures.items) refl c.quit.ensures

pub returns : goal.returns
returns c =
    let it = c.in-Some-ForArgument in
    passed_flow c.args.self.now c.pop.new.self (ForArgument it.field-0-0 it.field-0-1 it.field-0-2 it.field-0-3) c.args.flow
    (rw it.field-0-is at it.ensures.items) refl c.quit-in-Some-ForArgument.ensures

pub returns-in-Some-ForCall : goal.returns-in-Some-ForCall
returns-in-Some-ForCall c =
    let pop = rw c.in-Some-ForCall.field-0-is at c.in-Some-ForCall.ensures.items in
    popped_flow c.args.self.now c.pop.new.self (ForCall c.in-Some-ForCall.caller c.in-Some-ForCall.active c.in-Some-ForCall.block) c.args.flow pop
    (over c.end_call.ensures refl (omega arith))
