use Rattle.std.proofs.Common.{◌≡◌, ◌<◌, false, length}
use Rattle.std.specs.Prelude.{slice_index_or}
use Rattle.lr_check_sets.specs.Table.{automaton_of}
use Rattle.lr_check_decided.proofs.Paths.{Way}
use Rattle.lr_check_decided.proofs.turning.turn_from.Given as goal

abbrev pub invariant-loop-round : goal.invariant-loop-round
invariant-loop-round l = record {
  way : Way (automaton_of l.tables) l.state l.behind (length l.marks) l.start l.way.items l.class;
  many : length l.way.items ≡ l._round;
  low : l.class < length l.marks;
  unmarked : slice_index_or l.marks l.class false ≡ false;
}
