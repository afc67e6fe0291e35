-- A pair of codes whose places at cuts are marked.
use Rattle.std.specs.Prelude.{◌≡◌, ℕ, Bool, List}
use Rattle.vax_core.specs.declared.code.Code.{Code}
use Rattle.vax_pairs_checked.specs.Accepted.{Cut, is_first, is_second}
use Rattle.vax_pairs_walk.specs.declared.code.Walk.{Walk}
use Rattle.vax_pairs_walk.specs.Stepping.{is_marked}

-- the code that is walked
abbrev pub code_of : Walk → Code
code_of w = record { area = w.layout.now; items = w.items.now }

-- the places of the cuts are marked, and no others
pub record AreMarked (cuts : List Cut) (firsts seconds : List Bool) : Type 0 where
  pub first : (place : ℕ) → is_marked firsts place ≡ is_first cuts place
  pub second : (place : ℕ) → is_marked seconds place ≡ is_second cuts place
