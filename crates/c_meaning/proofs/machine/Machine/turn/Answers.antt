use Rattle.std.proofs.Common.{arith, refl}
use Rattle.std.proofs.lemmas.Result.{IfOk-weaker}
use Rattle.c_meaning.proofs.Steps.{over}
use Rattle.c_meaning.proofs.machine.Machine.turn.Goals as goal

pub returns : goal.returns
returns c = IfOk-weaker _ _ _ (λ event w. over w refl (omega arith)) c.count.ensures
