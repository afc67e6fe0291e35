use Rattle.std.proofs.Common.{◌≡◌, ◌+◌, ◌≤◌, length}
use Rattle.std.specs.Prelude.{count_by}
use Rattle.vax_image_writing.specs.Texts.{is_marked}
use Rattle.vax_image_writing.proofs.text.marks_in.Given as goal

-- those that were counted and those that are left are all
abbrev pub invariant-loop-left : goal.invariant-loop-left
invariant-loop-left l = record {
  whole : l.count + count_by is_marked l.left ≡ count_by is_marked l.items;
  few : l.count + length l.left ≤ length l.items;
}

abbrev pub decreases-loop-left : goal.decreases-loop-left
decreases-loop-left l = length l.left
