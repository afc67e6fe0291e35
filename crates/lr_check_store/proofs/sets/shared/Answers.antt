use Rattle.lr_tables.specs.Symbols.{number}
use Rattle.lr_check_store.proofs.Bits.{in_left, in_right}
use Rattle.lr_check_store.proofs.sets.shared.Goals as goal

pub returns-clause-left : goal.returns-clause-left
returns-clause-left c = λ k x. in_left c.args.left c.args.right (number k) x

pub returns-clause-right : goal.returns-clause-right
returns-clause-right c = λ k x. in_right c.args.left c.args.right (number k) x
