use Rattle.lr_tables.specs.Symbols.{number}
use Rattle.lr_check_store.proofs.Bits.{in_either}
use Rattle.lr_check_store.proofs.sets.union.Goals as goal

pub returns : goal.returns
returns c = λ k x. in_either c.args.left c.args.right (number k) x
