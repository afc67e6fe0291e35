use Rattle.std.proofs.Common.{arith}
use Rattle.std.proofs.lemmas.Result.{IfOk-weaker}
use Rattle.c_meaning.proofs.Steps.{over}
use Rattle.c_meaning.proofs.Steps.{look_is, look_behind}
use Rattle.c_meaning.proofs.machine.Machine.again.Goals as goal

pub returns-in-None : goal.returns-in-None
returns-in-None c = IfOk-weaker _ _ _ (λ event w. over w (look_is c.args.self.now c.args.of c.in-None.is) (omega arith)) c.look.ensures

pub returns-in-Some : goal.returns-in-Some
returns-in-Some c = IfOk-weaker _ _ _ (λ event w. over w (look_behind c.args.self.now c.args.of c.in-Some.e c.in-Some.is) (rw (c.in-Some.is) (omega arith))) c.wait.ensures
