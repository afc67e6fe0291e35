-- What was found, as sets of tokens by state and token.
use Rattle.std.specs.Prelude.{◌≡◌, ℕ, ◌+◌, ◌*◌, List, Some, Contains, true, slice_get}
use Rattle.std.specs.Int.{bit_at}
use Rattle.tree_core.specs.declared.token.Tok.{Tok}
use Rattle.tree_core.specs.declared.token.Sort.{Sort}
use Rattle.md_reader.specs.declared.types.Sym.{Sym}
use Rattle.lr_tables.specs.Symbols.{number}
use Rattle.lr_check_found.specs.lr_check_sets.specs.Trees.{May}
use Rattle.lr_check_found.specs.declared.places.Place.{Place}
use Rattle.lr_check_found.specs.declared.settlings.Settling.{Settling}
use Rattle.lr_check_found.specs.Lists.{IsList, IsBehindToken}
use Rattle.lr_check_found.specs.Found.{FoundView, IsPlaceAt}
use Rattle.lr_check_complete.specs.declared.sheet.Line.{Line}
use Rattle.lr_check_complete.specs.declared.sheet.Row.{Row}
use Rattle.lr_check_complete.specs.declared.sheet.Sheet.{Sheet}
use Rattle.lr_check_complete.specs.Sets.{HasPlace, HasSettling}

-- the token is in the set
abbrev pub In : ℕ → Tok → Type 0
In set k = bit_at set (number k) ≡ 1

-- the row of the state and the token: there are 40 tokens
abbrev pub IsRowAt : Sheet → ℕ → Tok → Row → Type 0
IsRowAt s q k r = slice_get s.rows.items (q * 40 + number k) ≡ Some r

-- the sheet's row of the state and the token
pub record IsRow (s : Sheet) (q : ℕ) (k : Tok) (r : Row) : Type 0 where
  pub at : IsRowAt s q k r
  pub there : Contains s.rows.items r
  pub state : r.state ≡ q
  pub token : r.token ≡ k

-- the row's places are found
abbrev pub HasPlaces : FoundView → Row → Type 0
HasPlaces f r = (b : Tok) → In r.places b → HasPlace f r.state r.token b

-- the line's list settles there
abbrev pub HasLine : FoundView → Row → Line → Type 0
HasLine f r l = (b : Tok) (s : List Sym) → In l.settled b → IsList f.lists l.list s → HasSettling f r.state r.token b s

-- the line is of the settling's list, with the token behind among its sums
pub record IsSumLine (e : Settling) (b : Tok) (l : Line) : Type 0 where
  pub same : l.list ≡ e.list
  pub state : l.behind ≡ e.behind
  pub behind : In l.sums b

-- the sheet shows the settling, if it is a sum
pub record IsShown (s : Sheet) (f : FoundView) (e : Settling) : Type 0 where
  pub each : (x : Place) → IsPlaceAt f e.place x → e.is_sum ≡ true → (r : Row) × (IsRowAt s x.state x.token r
      × ((l : Line) × (Contains r.lines.items l × IsSumLine e x.behind l)))

-- what the sheet has is found, and all sums are in it
pub record IsSheet (s : Sheet) (f : FoundView) : Type 0 where
  pub places : (r : Row) → Contains s.rows.items r → HasPlaces f r
  pub lines : (r : Row) → Contains s.rows.items r → (l : Line) → Contains r.lines.items l → HasLine f r l
  pub sums : (e : Settling) → Contains f.settlings e → IsShown s f e

-- the line is of the list, which settles with each of the tokens behind
pub record IsAllLine (list set : ℕ) (l : Line) : Type 0 where
  pub same : l.list ≡ list
  pub all : (k : Tok) → In set k → In l.settled k

-- the line's list on the other one and the row's token is held, and settles in the row with the token behind
pub record IsJoinedAt (f : FoundView) (r : Row) (lower : ℕ) (l : Line) (b : Tok) : Type 0 where
  pub list : ℕ
  pub joined : IsBehindToken f.lists r.token l.list lower list
  pub line : Line
  pub there : Contains r.lines.items line
  pub same : line.list ≡ list
  pub settled : In line.settled b

-- the same wherever it is a sum and the row has a place
abbrev pub IsJoinedLine : FoundView → Row → ℕ → Line → Type 0
IsJoinedLine f r lower l = (b : Tok) → In l.sums b → In r.places b → IsJoinedAt f r lower l b

-- the kid that begins with the token in the state has all of the row's places, and its sums settle behind the list below and the
-- row's token
pub record HasKid (s : Sheet) (f : FoundView) (r : Row) (p : ℕ) (t : Tok) (lower : ℕ) : Type 0 where
  pub kid : Row
  pub is : IsRow s p t kid
  pub within : (b : Tok) → In r.places b → In kid.places b
  pub joined : (l : Line) → Contains kid.lines.items l → IsJoinedLine f r lower l

-- the same, if the token may begin a tree of the sort
pub record HasKidIf (s : Sheet) (f : FoundView) (r : Row) (p : ℕ) (w : Sort) (t : Tok) (lower : ℕ) : Type 0 where
  pub kid : May t w → HasKid s f r p t lower

-- the place is one of the row's
pub record StandsIn (r : Row) (x : Place) : Type 0 where
  pub state : x.state ≡ r.state
  pub token : x.token ≡ r.token
  pub behind : In r.places x.behind

-- so is the place with the number
pub record StandsAt (f : FoundView) (r : Row) (n : ℕ) : Type 0 where
  pub each : (x : Place) → IsPlaceAt f n x → StandsIn r x
