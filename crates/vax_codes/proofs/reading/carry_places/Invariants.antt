use Rattle.vax_codes.specs.Marks.{to_do}
use Rattle.vax_codes.specs.Reading.{IsPartOf}
use Rattle.vax_codes.proofs.reading.carry_places.Given as goal

abbrev pub invariant-loop-place : goal.invariant-loop-place
invariant-loop-place l = IsPartOf l.items l.marks

abbrev pub decreases-loop-place : goal.decreases-loop-place
decreases-loop-place l = to_do l.marks
