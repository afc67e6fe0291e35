use Rattle.std.proofs.Common.{◌≡◌, ◌≤◌, length}
use Rattle.lr_check_sets.specs.Table.{automaton_of}
use Rattle.lr_check_decided.specs.Calm.{marked, AreCalm}
use Rattle.lr_check_decided.proofs.calm.calm_classes.Given as goal

abbrev pub invariant-loop-round : goal.invariant-loop-round
invariant-loop-round l = record {
  calm : AreCalm (automaton_of l.tables) l.state l.behind l.marks.items;
  long : length l.marks.items ≡ length l.tables.content.classes;
  many : l._round ≤ marked l.marks.items;
}
