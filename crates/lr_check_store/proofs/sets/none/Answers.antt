use Rattle.lr_tables.specs.Symbols.{number}
use Rattle.lr_check_store.proofs.Bits.{in_none}
use Rattle.lr_check_store.proofs.sets.none.Goals as goal

pub returns : goal.returns
returns c = λ k x. in_none (number k) x
