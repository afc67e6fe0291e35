use Rattle.std.proofs.Common.{◌≡◌, drop}
use Rattle.c_phrases.specs.UnitShapes.{items_of}
use Rattle.c_typed_addressed.specs.Statements.{in_items}
use Rattle.c_typed_addressed.specs.Views.{searched}
use Rattle.c_typed_addressed.proofs.statements.+blocks.Given as goal

abbrev pub invariant-items-loop-i : goal.invariant-items-loop-i
invariant-items-loop-i l = in_items (items_of (drop l.i-index l.row)) (searched l.state) ≡ in_items (items_of l.row) (searched l.fn.state)
