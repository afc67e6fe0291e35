use Rattle.std.proofs.Common.{◌≡◌, ◌≤◌, ◌-◌, Some, length, drop}
use Rattle.md_reader_pieces.specs.Pieces.{together, holes, parts_behind, pieces}
use Rattle.md_reader_pieces.proofs.cutting.pieces.Given as goal

abbrev pub invariant-loop-at : goal.invariant-loop-at
invariant-loop-at l = (together (Some l.read.items) (holes (parts_behind (drop l.at l.text))) ≡ pieces l.text) × (l.at ≤ length l.text)

abbrev pub decreases-loop-at : goal.decreases-loop-at
decreases-loop-at l = length l.text - l.at
