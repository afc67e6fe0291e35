use Rattle.c_typed_scope.proofs.Written.{near}
use Rattle.c_typed_scope.proofs.data.aligned.Goals as goal

pub returns-clause-near : goal.returns-clause-near
returns-clause-near c = near c.args.end c.args.align _ _ _ _ c.from.ensures c.from-2.ensures c.from-3.ensures c.from-4.ensures c.requires.0 c.requires.1
