use Rattle.c_meaning.proofs.Steps.{call_ends}
use Rattle.c_meaning.proofs.machine.Machine.end_call.Goals as goal

pub returns-then-release : goal.returns-then-release
returns-then-release c =
    call_ends c.args.self.now c.release.new.self c.leave.new.self c.args.caller c.args.active c.args.block c.answer.result c.args.flow c.as_slice.result.now c.as_slice.ensures c.if-release.ensures
    c.leave.ensures c.answer.ensures c.give.ensures
