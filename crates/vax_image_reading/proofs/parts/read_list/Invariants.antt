use Rattle.std.proofs.Common.{◌≡◌}
use Rattle.vax_image_reading.specs.Reading.{list_front, list_onto}
use Rattle.vax_image_reading.proofs.parts.read_list.Given as goal

-- what was read and what is left to read are the whole
abbrev pub invariant-loop-left : goal.invariant-loop-left
invariant-loop-left g l = list_onto l.parts.items (list_front g.P.Part.front l.left l.rest) ≡ list_front g.P.Part.front l.initial.left l.initial.rest

abbrev pub decreases-loop-left : goal.decreases-loop-left
decreases-loop-left g l = l.left
