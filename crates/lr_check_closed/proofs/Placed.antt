-- Where rows stand, and what their lines are.
use Rattle.std.proofs.Common.{◌≡◌, ℕ, ◌+◌, ◌*◌, ◌<◌, List, Contains, sym, ap, ◌∙◌, arith}
use Rattle.std.proofs.lemmas.Option.{same_Some}
use Rattle.tree_core.specs.declared.token.Tok.{Tok}
use Rattle.md_reader.specs.declared.types.Sym.{Sym}
use Rattle.lr_tables.specs.Symbols.{number}
use Rattle.lr_tables.proofs.Symbols_apart.{number_same, number-below}
use Rattle.lr_check_found.specs.lr_check_sets.specs.Automaton.{Automaton, walk}
use Rattle.lr_check_found.specs.lr_check_sets.proofs.Rows.{at_contains}
use Rattle.lr_check_found.specs.Lists.{ListsView, IsList}
use Rattle.lr_check_rows.specs.declared.rows.Line.{Line}
use Rattle.lr_check_rows.specs.declared.rows.Row.{Row}
use Rattle.lr_check_rows.specs.Rows.{IsLine, IsRow}
use Rattle.lr_check_closed.specs.Sets.{IsRowAt}
use Rattle.lr_check_closed.specs.Closing.{StandsAt}

upper : (a b c d : ℕ) → b < 40 → d < 40 → a * 40 + b ≡ c * 40 + d → a ≡ c
upper a b c d l k e = omega arith

lower : (a b c d : ℕ) → b < 40 → d < 40 → a * 40 + b ≡ c * 40 + d → b ≡ d
lower a b c d l k e = omega arith

pub state_is : (q : ℕ) (k : Tok) (r : Row) → StandsAt (q * 40 + number k) r → q ≡ r.state
state_is q k r e = upper q (number k) r.state (number r.token) (number-below k) (number-below r.token) e

pub token_is : (q : ℕ) (k : Tok) (r : Row) → StandsAt (q * 40 + number k) r → k ≡ r.token
token_is q k r e = number_same k r.token (lower q (number k) r.state (number r.token) (number-below k) (number-below r.token) e)

module _ (A : Automaton) (v : ListsView) (rows : List Row) (sound : (r : Row) → Contains rows r → IsRow A v r) where
  -- a line leads to the state to which its list does
  pub behind_is : (q : ℕ) (k : Tok) (r : Row) (l : Line) (s : List Sym) → IsRowAt rows q k r → StandsAt (q * 40 + number k) r → Contains r.lines.items l → IsList v l.list s
      → l.behind ≡ walk A q s
  behind_is q k r l s at stands there list =
      let line : IsLine A v r.state r.token l = (sound r (at_contains rows (q * 40 + number k) r at)).lines l there in
      let same : line.list ≡ s = same_Some line.list s (sym line.is ∙ list) in
      line.behind ∙ (ap (λ (j : ℕ). walk A j line.list) (sym (state_is q k r stands)) ∙ ap (walk A q) same)
