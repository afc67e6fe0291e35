-- What rounds over a window do: over the pieces from one number on, so many of them.
use Rattle.std.specs.Prelude.{◌≡◌, ℕ, ◌+◌, ◌-◌, ◌<◌, ◌≤◌, Bool, true, false, List, length, slice_get, slice_set, slice_index, Some}
use Rattle.gg_base.specs.declared.size.Size.{Size}
use Rattle.gg_base.specs.Numbers.{truth}
use Rattle.vax_image_branches.specs.declared.piece.Branch.{Branch}
use Rattle.vax_image_branches.specs.declared.piece.Piece.{Piece}
use Rattle.vax_image_branches.specs.declared.piece.Piece.TheVariants as pieces
use Rattle.vax_image_branches.specs.Branches.{place, spans, reaches, longer_form}
use Rattle.vax_image_branches.specs.Least.{IsBelow}
use Rattle.vax_image_branches.specs.Rounds.{room, Grown}

-- the places of the window's pieces and of its end, counted from its first piece
pub record ArePlacesIn (ps : List Piece) (fs : List Size) (first count : ℕ) (at : List ℕ) : Type 0 where
  pub many : length at ≡ count + 1
  pub each : (j : ℕ) → j ≤ count → slice_get at j ≡ Some (place ps fs (first + j) - place ps fs first)

-- whether the branch that is the window's piece of this number reaches, by such places
abbrev pub reaches_in : List ℕ → ℕ → ℕ → Branch → Size → Bool
reaches_in at first j b form = spans form (slice_index at (j + 1)) (slice_index at (b.target - first))

-- the window's piece of this number is no branch, or goes outside, or reaches
pub record StaysIn (ps : List Piece) (at : List ℕ) (fs : List Size) (first count j : ℕ) (gs : List Size) : Type 0 where
  pub same : gs ≡ fs
  pub reached : (b : Branch) (form : Size) → slice_get ps (first + j) ≡ Some (pieces.Branch b) → slice_get fs (first + j) ≡ Some form
      → first ≤ b.target → b.target ≤ first + count → reaches_in at first j b form ≡ true

-- it is a branch that goes inside and does not reach, and gets a longer form
pub record GrowsIn (ps : List Piece) (at : List ℕ) (fs : List Size) (first count j : ℕ) (gs : List Size) : Type 0 where
  pub branch : Branch
  pub form : Size
  pub is : slice_get ps (first + j) ≡ Some (pieces.Branch branch)
  pub was : slice_get fs (first + j) ≡ Some form
  pub from : first ≤ branch.target
  pub to : branch.target ≤ first + count
  pub short : reaches_in at first j branch form ≡ false
  pub longer : gs ≡ slice_set fs (first + j) (longer_form form)

abbrev pub TurnedIn : List Piece → List ℕ → List Size → ℕ → ℕ → ℕ → Bool → List Size → Type 0
TurnedIn ps at fs first count j false gs = StaysIn ps at fs first count j gs
TurnedIn ps at fs first count j true gs = GrowsIn ps at fs first count j gs

-- each branch of the window that goes inside reaches its target
abbrev pub AllReachIn : List Piece → List Size → ℕ → ℕ → Type 0
AllReachIn ps fs first count = (k : ℕ) (b : Branch) (form : Size) → first ≤ k → k < first + count → slice_get ps k ≡ Some (pieces.Branch b)
    → slice_get fs k ≡ Some form → first ≤ b.target → b.target ≤ first + count → reaches ps fs k b form ≡ true

-- behind a round over the window all forms stayed, and all reach that go inside; or some grew
pub record RestsIn (ps : List Piece) (fs : List Size) (first count : ℕ) (gs : List Size) : Type 0 where
  pub same : gs ≡ fs
  pub reach : AllReachIn ps gs first count

abbrev pub RoundedIn : List Piece → List Size → ℕ → ℕ → Bool → List Size → Type 0
RoundedIn ps fs first count false gs = RestsIn ps fs first count gs
RoundedIn ps fs first count true gs = Grown ps fs gs

-- behind all rounds over it
pub record HasSettled (ps : List Piece) (fs : List Size) (first count : ℕ) (grew : Bool) (gs : List Size) : Type 0 where
  pub below : IsBelow ps gs
  pub reach : AllReachIn ps gs first count
  pub falls : room gs + truth grew ≤ room fs
