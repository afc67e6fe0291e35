-- What was found at a state and a token, as sets of the tokens behind: all of it is in the least sets.
use Rattle.std.specs.Prelude.{◌≡◌, ℕ, List, Contains}
use Rattle.tree_core.specs.declared.token.Tok.{Tok}
use Rattle.md_reader.specs.declared.types.Sym.{Sym}
use Rattle.lr_check_found.specs.lr_check_sets.specs.Automaton.{Automaton, walk}
use Rattle.lr_check_found.specs.lr_check_sets.specs.Sums as sets
use Rattle.lr_check_found.specs.Lists.{ListsView, IsList}
use Rattle.lr_check_ways.specs.Sets.{In}
use Rattle.lr_check_ways.specs.declared.ways.Reduction.{Reduction}
use Rattle.lr_check_rows.specs.declared.rows.Line.{Line}
use Rattle.lr_check_rows.specs.declared.rows.Row.{Row}

-- the line of a list that settles at the state and the token
pub record IsLine (A : Automaton) (v : ListsView) (q : ℕ) (k : Tok) (l : Line) : Type 0 where
  pub list : List Sym
  pub is : IsList v l.list list
  pub behind : l.behind ≡ walk A q list
  pub settled : (b : Tok) → In l.settled b → sets.Settling A q k b list
  pub sums : (b : Tok) → In l.sums b → sets.Sum A q k b list

-- the row's places, and its lines
pub record IsRow (A : Automaton) (v : ListsView) (r : Row) : Type 0 where
  pub places : (b : Tok) → In r.places b → sets.Place A r.state r.token b
  pub lines : (l : Line) → Contains r.lines.items l → IsLine A v r.state r.token l

-- with each of the tokens behind there is a place of the state and the token
abbrev pub ArePlaces : Automaton → ℕ → Tok → ℕ → Type 0
ArePlaces A q k set = (b : Tok) → In set b → sets.Place A q k b

-- with each of the tokens behind the list settles there
abbrev pub AreSettled : Automaton → ℕ → Tok → List Sym → ℕ → Type 0
AreSettled A q k s set = (b : Tok) → In set b → sets.Settling A q k b s

-- the reduction makes the class of a whole list of so many symbols, with each of the tokens behind, with which the line settles
pub record IsReducedBy (l : Line) (size c set : ℕ) (x : Reduction) : Type 0 where
  pub long : x.long ≡ size
  pub class : x.class ≡ c
  pub tokens : (b : Tok) → In set b → In x.tokens b
  pub settled : (b : Tok) → In set b → In l.settled b
