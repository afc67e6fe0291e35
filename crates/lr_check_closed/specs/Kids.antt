-- What follows from a row's places and their kids.
use Rattle.std.specs.Prelude.{◌≡◌, ℕ, List, [], ◌∷◌, Some, Contains}
use Rattle.tree_core.specs.declared.token.Tok.{Tok}
use Rattle.tree_core.specs.declared.token.Sort.{Sort}
use Rattle.lr_check_found.specs.lr_check_sets.specs.Trees.{May}
use Rattle.lr_check_found.specs.Lists.{ListsView, IsBehindToken}
use Rattle.lr_check_ways.specs.Sets.{In}
use Rattle.lr_check_rows.specs.declared.rows.Line.{Line}
use Rattle.lr_check_rows.specs.declared.rows.Row.{Row}
use Rattle.lr_check_closed.specs.Sets.{IsRowAt}

-- the line is of the list, which settles with each of the tokens behind
pub record IsAllLine (list set : ℕ) (l : Line) : Type 0 where
  pub same : l.list ≡ list
  pub all : (b : Tok) → In set b → In l.settled b

-- the line's list on the other one and the row's token is held, and settles in the row with the token behind
pub record IsJoinedAt (v : ListsView) (r : Row) (lower : ℕ) (l : Line) (b : Tok) : Type 0 where
  pub list : ℕ
  pub joined : IsBehindToken v r.token l.list lower list
  pub line : Line
  pub there : Contains r.lines.items line
  pub same : line.list ≡ list
  pub settled : In line.settled b

-- the same wherever it is a sum and the row has a place
abbrev pub IsJoinedLine : ListsView → Row → ℕ → Line → Type 0
IsJoinedLine v r lower l = (b : Tok) → In l.sums b → In r.places b → IsJoinedAt v r lower l b

-- the kid that begins with the token in the state has all of the row's places, and its sums settle behind the list below and the
-- row's token
pub record HasKid (v : ListsView) (rows : List Row) (r : Row) (p : ℕ) (t : Tok) (lower : ℕ) : Type 0 where
  pub kid : Row
  pub at : IsRowAt rows p t kid
  pub within : (b : Tok) → In r.places b → In kid.places b
  pub joined : (l : Line) → Contains kid.lines.items l → IsJoinedLine v r lower l

-- the same, if the token may begin a tree of the sort
pub record HasKidIf (v : ListsView) (rows : List Row) (r : Row) (p : ℕ) (w : Sort) (t : Tok) (lower : ℕ) : Type 0 where
  pub kid : May t w → HasKid v rows r p t lower

-- the token alone settles with each of the row's places
pub record HasLeaf (v : ListsView) (r : Row) : Type 0 where
  pub list : ℕ
  pub joined : IsBehindToken v r.token 0 0 list
  pub line : Line
  pub there : Contains r.lines.items line
  pub all : IsAllLine list r.places line

-- ---- two kids

-- the second line has the first one's list, with at least its sums
pub record IsWider (l c : Line) : Type 0 where
  pub list : c.list ≡ l.list
  pub state : c.behind ≡ l.behind
  pub sums : (b : Tok) → In l.sums b → In c.sums b

-- the first kid that begins with the token in the state has places with all tokens of the set behind, and its lines are among the firsts
pub record HasFirst (rows : List Row) (set : ℕ) (firsts : List Line) (p : ℕ) (t : Tok) : Type 0 where
  pub kid : Row
  pub at : IsRowAt rows p t kid
  pub places : (m : Tok) → In set m → In kid.places m
  pub lines : (l : Line) → Contains kid.lines.items l → (c : Line) × (Contains firsts c × IsWider l c)

-- the same, if the token may begin a tree of the sort
pub record HasFirstIf (rows : List Row) (set : ℕ) (firsts : List Line) (p : ℕ) (w : Sort) (t : Tok) : Type 0 where
  pub first : May t w → HasFirst rows set firsts p t

-- behind the first kid's list the second, which begins with the token, has all that the row asks for
pub record HasSecond (v : ListsView) (rows : List Row) (r : Row) (c : Line) (m : Tok) : Type 0 where
  pub state : ℕ
  pub behind : c.behind ≡ Some state
  pub kid : HasKid v rows r state m c.list

-- the first kid begins in the state p: each of its sums is in a line of the firsts, and behind it stands the second
pub record ArePaired (v : ListsView) (rows : List Row) (r : Row) (p : ℕ) (w x : Sort) : Type 0 where
  pub set : ℕ
  pub firsts : List Line
  pub begins : (m : Tok) → May m x → In set m
  pub first : (t : Tok) → May t w → HasFirst rows set firsts p t
  pub second : (c : Line) → Contains firsts c → (m : Tok) → May m x → In c.sums m → HasSecond v rows r c m

-- what follows from the row's places and their kids, which begin in the state p: tokens have at most two
abbrev pub KidsIn : ListsView → List Row → Row → ℕ → List Sort → Type 0
KidsIn v rows r p [] = HasLeaf v r
KidsIn v rows r p (w ∷ []) = (t : Tok) → May t w → HasKid v rows r p t 0
KidsIn v rows r p (w ∷ x ∷ []) = ArePaired v rows r p w x
KidsIn v rows r p (w ∷ x ∷ y ∷ xs) = ⊥
