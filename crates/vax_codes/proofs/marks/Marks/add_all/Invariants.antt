use Rattle.std.proofs.Common.{◌≡◌, ℕ, take, true}
use Rattle.vax_codes.specs.Marks.{is_in, Adds}
use Rattle.vax_codes.proofs.marks.Marks.add_all.Given as goal

-- the places so far are in the set
abbrev pub invariant-loop-place : goal.invariant-loop-place
invariant-loop-place l = Adds (λ (p : ℕ). is_in p (take l.place-index l.places) ≡ true) l.initial.self l.self
