use Rattle.std.proofs.Common.{arith}
use Rattle.lr_check_found.specs.lr_check_sets.specs.Table.{automaton_of}
use Rattle.lr_check_complete.proofs.rounds.by_plan.Goals as goal

pub loop-item-init : goal.loop-item-init
loop-item-init c = record { found = c.in_ok-found.ensures.found (automaton_of c.args.tables.now); room = let z = c.in_ok-found.ensures.none in omega (arith, z) }
