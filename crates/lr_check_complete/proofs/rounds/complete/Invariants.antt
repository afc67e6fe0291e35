use Rattle.std.proofs.Common.{◌≤◌}
use Rattle.lr_check_found.specs.lr_check_sets.specs.Table.{automaton_of}
use Rattle.lr_check_found.specs.Sound.{IsFound}
use Rattle.lr_check_complete.proofs.rounds.complete.Given as goal

abbrev pub invariant-loop-round : goal.invariant-loop-round
invariant-loop-round l = record { found : IsFound (automaton_of l.tables) l.found; room : l.found.tuples ≤ 4000000 }
