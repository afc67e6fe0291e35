-- Places that follow from rows.
use Rattle.std.proofs.Common.{◌≡◌, ℕ, [], ◌∷◌, Some, sym, subst, ◌∙◌}
use Rattle.tree_core.specs.declared.token.Tok.{Tok}
use Rattle.tree_core.specs.declared.token.Tok.TheVariants as tok
use Rattle.tree_core.specs.declared.token.Sort.{Sort}
use Rattle.tree_core.specs.declared.token.Sort.TheVariants as sort
use Rattle.tree_core.specs.Grammar.{kids}
use Rattle.md_reader.specs.declared.types.Sym.TheVariants as grammar_symbol
use Rattle.lr_check_found.specs.lr_check_sets.specs.Trees.{May}
use Rattle.lr_check_found.specs.lr_check_sets.specs.Automaton.{Automaton}
use Rattle.lr_check_found.specs.lr_check_sets.specs.Sums as sets
use Rattle.lr_check_found.specs.Lists.{ListsView}
use Rattle.lr_check_found.proofs.Deriving.{walk_from}
use Rattle.lr_check_least.proofs.Opened.{least_closed}
use Rattle.lr_check_ways.specs.Sets.{In}
use Rattle.lr_check_rows.specs.declared.rows.Line.{Line}
use Rattle.lr_check_rows.specs.declared.rows.Row.{Row}
use Rattle.lr_check_rows.specs.Rows.{IsLine, IsRow, ArePlaces}

pub whole_places : (A : Automaton) (q : ℕ) (k : Tok) (set : ℕ) → q ≡ 0 → May k sort.Stmt → ((b : Tok) → In set b → b ≡ tok.End) → ArePlaces A q k set
whole_places A q k set zero may ends b is =
    subst (λ j. sets.Place A j k b) (sym zero) (subst (λ t. sets.Place A 0 k t) (sym (ends b is)) ((least_closed A).starts k may))

module _ (A : Automaton) (v : ListsView) (r : Row) (p : ℕ) (row : IsRow A v r) (go : A.go r.state (grammar_symbol.Tok r.token) ≡ Some p) where
  pub only_places : (k : Tok) (x : Sort) (set : ℕ) → kids r.token ≡ x ∷ [] → May k x → ((b : Tok) → In set b → In r.places b) → ArePlaces A p k set
  only_places k x set e may within b is = (least_closed A).only r.state p r.token b k x (row.places b (within b is)) e go may

  pub first_places : (k b0 : Tok) (x y : Sort) (set : ℕ) → kids r.token ≡ x ∷ y ∷ [] → In r.places b0 → May k x → ((b : Tok) → In set b → May b y) → ArePlaces A p k set
  first_places k b0 x y set e there may begins b is = (least_closed A).first r.state p r.token b0 k b x y (row.places b0 there) e go may (begins b is)

  pub second_places : (n : Tok) (l : Line) (j : ℕ) (k : Tok) (x y : Sort) (set : ℕ) → IsLine A v p n l → kids r.token ≡ x ∷ y ∷ [] → May n x → May k y → In l.sums k
      → l.behind ≡ Some j → ((b : Tok) → In set b → In r.places b) → ArePlaces A j k set
  second_places n l j k x y set line e may may' sum behind within b is =
      (least_closed A).second r.state p j r.token b n k x y line.list (row.places b (within b is)) e go may may' (line.sums k sum)
      (walk_from A r.state p (grammar_symbol.Tok r.token) line.list go ∙ (sym line.behind ∙ behind))
