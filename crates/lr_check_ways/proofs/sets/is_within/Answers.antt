use Rattle.std.proofs.lemmas.Bool.{eqb-true}
use Rattle.lr_tables.specs.Symbols.{number}
use Rattle.lr_check_ways.proofs.Marking.{in_within}
use Rattle.lr_check_ways.proofs.sets.is_within.Goals as goal

pub returns : goal.returns
returns c = λ u k x. in_within c.args.left c.args.right (number k) (eqb-true _ _ u) x
