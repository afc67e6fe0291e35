use Rattle.std.proofs.Common.{◌≤◌}
use Rattle.lr_check_found.specs.lr_check_sets.specs.Table.{automaton_of}
use Rattle.lr_check_found.specs.Sound.{IsFound}
use Rattle.lr_check_complete.proofs.rounds.by_plan.Given as goal

abbrev pub invariant-loop-item : goal.invariant-loop-item
invariant-loop-item l = record { found : IsFound (automaton_of l.tables) l.found; room : l.found.tuples ≤ 4000000 }
