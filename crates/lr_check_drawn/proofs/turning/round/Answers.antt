use Rattle.lr_check_found.specs.lr_check_sets.specs.Table.{automaton_of}
use Rattle.lr_check_drawn.proofs.Turns.{round_turned}
use Rattle.lr_check_drawn.proofs.turning.round.Goals as goal

pub returns : goal.returns
returns c = round_turned (automaton_of c.args.tables.now) c.args.place.now c.turns.result c.last_of.result c.args.classes.now c.last_of.ensures c.turns.ensures
