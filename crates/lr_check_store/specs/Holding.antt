-- What a row is when it holds more.
use Rattle.std.specs.Prelude.{◌≡◌, ◌⊎◌, ℕ, Contains}
use Rattle.tree_core.specs.declared.token.Tok.{Tok}
use Rattle.lr_check_ways.specs.Sets.{In}
use Rattle.lr_check_rows.specs.declared.rows.Line.{Line}
use Rattle.lr_check_rows.specs.declared.rows.Row.{Row}

-- the same row with places with these tokens behind, too
pub record HasPlaces (r t : Row) (set : ℕ) : Type 0 where
  pub state : t.state ≡ r.state
  pub token : t.token ≡ r.token
  pub lines : t.lines.items ≡ r.lines.items
  pub places : (b : Tok) → In t.places b → In r.places b ⊎ In set b

-- the line with what another line of its list has
pub record IsMerged (o l m : Line) : Type 0 where
  pub list : m.list ≡ l.list
  pub behind : m.behind ≡ l.behind
  pub settled : (b : Tok) → In m.settled b → In o.settled b ⊎ In l.settled b
  pub sums : (b : Tok) → In m.sums b → In o.sums b ⊎ In l.sums b

-- a line of the row that has the line's list, and both lines' tokens
pub record IsJoint (r : Row) (l m : Line) : Type 0 where
  pub other : Line
  pub there : Contains r.lines.items other
  pub list : other.list ≡ l.list
  pub merged : IsMerged other l m

-- the same row with the line, too
pub record HasLine (r t : Row) (l : Line) : Type 0 where
  pub state : t.state ≡ r.state
  pub token : t.token ≡ r.token
  pub places : t.places ≡ r.places
  pub lines : (m : Line) → Contains t.lines.items m → Contains r.lines.items m ⊎ ((m ≡ l) ⊎ IsJoint r l m)
