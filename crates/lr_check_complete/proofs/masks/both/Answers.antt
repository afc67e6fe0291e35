use Rattle.lr_tables.specs.Symbols.{number}
use Rattle.lr_check_complete.proofs.Marking.{in_both}
use Rattle.lr_check_complete.proofs.masks.both.Goals as goal

pub returns : goal.returns
returns c = λ k x y. in_both c.args.left c.args.right (number k) x y
