-- What has been found, as sets.
use Rattle.std.specs.Prelude.{ℕ, List}
use Rattle.tree_core.specs.declared.token.Tok.{Tok}
use Rattle.md_reader.specs.declared.types.Sym.{Sym}
use Rattle.lr_check_found.specs.lr_check_sets.specs.Automaton.{Automaton}
use Rattle.lr_check_found.specs.lr_check_sets.specs.Closed.{IsClosed}
use Rattle.lr_check_found.specs.Found.{FoundView, place_of, IsPlaceAt, SumAt, Settles}
use Rattle.lr_check_found.specs.Sound.{IsFound}

-- the place is found
pub record HasPlace (f : FoundView) (q : ℕ) (k b : Tok) : Type 0 where
  pub number : ℕ
  pub at : IsPlaceAt f number (place_of q k b)

-- the place is found, and the list settles there
pub record HasSettling (f : FoundView) (q : ℕ) (k b : Tok) (s : List Sym) : Type 0 where
  pub number : ℕ
  pub at : IsPlaceAt f number (place_of q k b)
  pub settles : Settles f number s

-- the place is found, and the list is a sum there
pub record HasSum (f : FoundView) (q : ℕ) (k b : Tok) (s : List Sym) : Type 0 where
  pub number : ℕ
  pub behind : ℕ
  pub sum : SumAt f number (place_of q k b) s behind

-- what is found is in the sets, and all of the sets is found
pub record IsComplete (A : Automaton) (f : FoundView) : Type 0 where
  pub found : IsFound A f
  pub closed : IsClosed A (HasPlace f) (HasSettling f) (HasSum f)
