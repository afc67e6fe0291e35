use Rattle.lr_tables.specs.Symbols.{number}
use Rattle.lr_check_ways.proofs.Marking.{in_both}
use Rattle.lr_check_ways.proofs.sets.both.Goals as goal

pub returns : goal.returns
returns c = λ k x y. in_both c.args.left c.args.right (number k) x y
