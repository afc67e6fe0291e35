use Rattle.std.proofs.Common.{arith}
use Rattle.lr_check_closed.specs.Looks.{automaton}
use Rattle.lr_check_closed.proofs.Ending.{calm_put}
use Rattle.lr_check_closed.proofs.look.Look.calm_class.Goals as goal

pub returns : goal.returns
returns c = λ are. calm_put (automaton c.args.self.now) c.args.state c.args.calm.now c.args.class c.calm_by-set.result (omega arith) are (c.calm_by-set.ensures are)
