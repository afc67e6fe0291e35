-- When rows show no fault.
use Rattle.std.specs.Prelude.{◌≡◌, ℕ, List, [], ◌∷◌, Some, Contains, slice_get, slice_index_or}
use Rattle.tree_core.specs.declared.token.Tok.{Tok}
use Rattle.md_reader.specs.declared.types.Sym.{Sym}
use Rattle.md_reader.specs.declared.types.Sym.TheVariants as grammar_symbol
use Rattle.lr_check_found.specs.lr_check_sets.specs.Automaton.{Automaton, walk, CanBlock}
use Rattle.lr_check_found.specs.lr_check_sets.specs.Faults.{Calms}
use Rattle.lr_check_found.specs.Lists.{ListsView, IsList}
use Rattle.lr_check_ways.specs.Sets.{In}
use Rattle.lr_check_ways.specs.declared.ways.Reduction.{Reduction}
use Rattle.lr_check_rows.specs.declared.rows.Line.{Line}
use Rattle.lr_check_rows.specs.declared.rows.Row.{Row}
use Rattle.lr_check_closed.specs.declared.calm.CalmAt.{CalmAt}
use Rattle.lr_check_closed.specs.Closing.{StandsAt}

-- the tokens behind with which the class is calm
abbrev pub calm_of : List ℕ → ℕ → ℕ
calm_of calm c = slice_index_or calm c 0

-- with these tokens behind, reductions of the class alone come to an end in the state
pub record AreCalm (A : Automaton) (q : ℕ) (calm : List ℕ) : Type 0 where
  pub each : (c : ℕ) (b : Tok) → In (calm_of calm c) b → Calms A q b (grammar_symbol.Class c ∷ [])

-- so it is in the state that is said
abbrev pub IsCalmAt : Automaton → CalmAt → Type 0
IsCalmAt A h = AreCalm A h.state h.sets.items

-- the reduction of a list of so many symbols, with a token of the set next, leads to a calm class
abbrev pub Settles : List ℕ → ℕ → ℕ → Reduction → Type 0
Settles calm size set x = x.long ≡ size → (b : Tok) → In set b → In x.tokens b → In (calm_of calm x.class) b

-- behind the line's list something is always taken, and reductions of it come to an end
pub record IsLineFine (A : Automaton) (v : ListsView) (q : ℕ) (l : Line) : Type 0 where
  pub takes : (p : ℕ) (b : Tok) → l.behind ≡ Some p → In l.settled b → CanBlock (A.candidates p b) → ⊥
  pub ends : (b : Tok) (s : List Sym) → In l.settled b → IsList v l.list s → l.behind ≡ walk A q s → Calms A q b s

-- the token of the row's places is shifted
abbrev pub IsShifted : Automaton → Row → Type 0
IsShifted A r = (b : Tok) → In r.places b → (p : ℕ) × (A.go r.state (grammar_symbol.Tok r.token) ≡ Some p)

-- the row with the number stands where its state and token say, and shows no fault
pub record IsFineAt (A : Automaton) (v : ListsView) (rows : List Row) (n : ℕ) : Type 0 where
  pub stands : (r : Row) → slice_get rows n ≡ Some r → StandsAt n r
  pub shifts : (r : Row) → slice_get rows n ≡ Some r → IsShifted A r
  pub lines : (r : Row) → slice_get rows n ≡ Some r → (l : Line) → Contains r.lines.items l → IsLineFine A v r.state l
