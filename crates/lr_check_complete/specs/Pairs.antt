-- The two kids of a row's places, as a sheet shows them.
use Rattle.std.specs.Prelude.{◌≡◌, ℕ, List, Some, Contains}
use Rattle.tree_core.specs.declared.token.Tok.{Tok}
use Rattle.tree_core.specs.declared.token.Sort.{Sort}
use Rattle.lr_check_found.specs.lr_check_sets.specs.Trees.{May}
use Rattle.lr_check_found.specs.Found.{FoundView}
use Rattle.lr_check_complete.specs.declared.sheet.Line.{Line}
use Rattle.lr_check_complete.specs.declared.sheet.Row.{Row}
use Rattle.lr_check_complete.specs.declared.sheet.Sheet.{Sheet}
use Rattle.lr_check_complete.specs.Sheets.{In, IsRow, HasKid}

-- the second line has the first one's list, with at least its sums
pub record IsWider (l c : Line) : Type 0 where
  pub list : c.list ≡ l.list
  pub state : c.behind ≡ l.behind
  pub sums : (b : Tok) → In l.sums b → In c.sums b

-- the first kid that begins with the token in the state has places with all tokens of the set behind, and its lines are among the firsts
pub record HasFirst (s : Sheet) (set : ℕ) (firsts : List Line) (p : ℕ) (t : Tok) : Type 0 where
  pub kid : Row
  pub is : IsRow s p t kid
  pub places : (m : Tok) → In set m → In kid.places m
  pub lines : (l : Line) → Contains kid.lines.items l → (c : Line) × (Contains firsts c × IsWider l c)

-- the same, if the token may begin a tree of the sort
pub record HasFirstIf (s : Sheet) (set : ℕ) (firsts : List Line) (p : ℕ) (w : Sort) (t : Tok) : Type 0 where
  pub first : May t w → HasFirst s set firsts p t

-- behind the first kid's list the second, which begins with the token, has all that the row asks for
pub record HasSecond (s : Sheet) (f : FoundView) (r : Row) (c : Line) (m : Tok) : Type 0 where
  pub state : ℕ
  pub behind : c.behind ≡ Some state
  pub kid : HasKid s f r state m c.list

-- the first kid begins in the state p: each of its sums is in a line, and behind it stands the second
pub record ArePaired (s : Sheet) (f : FoundView) (r : Row) (set : ℕ) (firsts : List Line) (p : ℕ) (w v : Sort) : Type 0 where
  pub begins : (m : Tok) → May m v → In set m
  pub first : (t : Tok) → May t w → HasFirst s set firsts p t
  pub second : (c : Line) → Contains firsts c → (m : Tok) → May m v → In c.sums m → HasSecond s f r c m
