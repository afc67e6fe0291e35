-- What belongs to the first of two codes, and what to the second.
use Rattle.std.specs.Prelude.{ℕ, Bool, List}
use Rattle.term_core.specs.Shape.{Shape}
use Rattle.vax_pairs.specs.TermStates.{TermState}
use Rattle.vax_pairs.specs.Facts.{Fact, first_term, second_term, first_begins, second_begins}
use Rattle.vax_pairs_checked.specs.Accepted.{Cut, is_first, is_second}
use Rattle.vax_pairs_accepted.specs.declared.side.Side.{Side}
use Rattle.vax_pairs_accepted.specs.declared.side.Side.TheVariants.{First, Second}

-- the place of a cut
abbrev pub place_of : Side → Cut → ℕ
place_of First cut = cut.first
place_of Second cut = cut.second

-- whether a place is one of a cut
abbrev pub is_place : Side → List Cut → ℕ → Bool
is_place First cuts place = is_first cuts place
is_place Second cuts place = is_second cuts place

-- what a register has at the beginning of a piece
abbrev pub term_of : Side → List Fact → ℕ → Shape
term_of First facts r = first_term facts r
term_of Second facts r = second_term facts r

-- the state on terms with which a piece begins
abbrev pub begins : Side → List Fact → TermState
begins First facts = first_begins facts
begins Second facts = second_begins facts
