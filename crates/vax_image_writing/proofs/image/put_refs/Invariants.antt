use Rattle.std.proofs.Common.{◌≡◌, ◌++◌, length}
use Rattle.std.specs.List.{flat_map}
use Rattle.vax_image_format.specs.Sections.{ref_bytes}
use Rattle.vax_image_writing.specs.Texts.{AreNamed}
use Rattle.vax_image_writing.proofs.image.put_refs.Given as goal

-- what was written and what is left to write are the whole
abbrev pub invariant-loop-left : goal.invariant-loop-left
invariant-loop-left l = record {
  whole : l.bytes.items ++ flat_map ref_bytes l.left ≡ l.fn.bytes.items ++ flat_map ref_bytes l.refs;
  named : AreNamed l.left;
}

abbrev pub decreases-loop-left : goal.decreases-loop-left
decreases-loop-left l = length l.left
