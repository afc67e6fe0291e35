use Rattle.vax_codes.specs.Marks.{Adds}
use Rattle.vax_codes.proofs.Bringing.{Asking}
use Rattle.vax_codes.proofs.reading.ask_all.Given as goal

-- the branches so far that read C are in the set
abbrev pub invariant-loop-place : goal.invariant-loop-place
invariant-loop-place l = Adds (Asking l.items l.place) l.initial.marks l.marks
