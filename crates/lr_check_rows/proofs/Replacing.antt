-- Lists that settle, as follows from rows.
use Rattle.std.proofs.Common.{◌≡◌, ℕ, List, [], ◌∷◌, ◌++◌, Some, Contains, length, sym, subst, ◌∙◌}
use Rattle.gg_base.proofs.Facts.{nil_of}
use Rattle.tree_core.specs.declared.token.Tok.{Tok}
use Rattle.tree_core.specs.declared.token.Sort.{Sort}
use Rattle.tree_core.specs.Grammar.{kids}
use Rattle.md_reader.specs.declared.types.Sym.TheVariants as grammar_symbol
use Rattle.lr_check_found.specs.lr_check_sets.specs.Trees.{May}
use Rattle.lr_check_found.specs.lr_check_sets.specs.Automaton.{Automaton, walk}
use Rattle.lr_check_found.specs.lr_check_sets.specs.Sums as sets
use Rattle.lr_check_found.specs.lr_check_sets.proofs.Walks.{walk-append}
use Rattle.lr_check_found.specs.Lists.{ListsView}
use Rattle.lr_check_found.proofs.Deriving.{walk_from, whole_left}
use Rattle.lr_check_least.proofs.Opened.{least_closed}
use Rattle.lr_check_ways.specs.Sets.{In}
use Rattle.lr_check_ways.specs.Ways.{AreWays, IsTaken}
use Rattle.lr_check_ways.specs.declared.ways.Reduction.{Reduction}
use Rattle.lr_check_ways.specs.declared.ways.Ways.{Ways}
use Rattle.lr_check_rows.specs.declared.rows.Line.{Line}
use Rattle.lr_check_rows.specs.declared.rows.Row.{Row}
use Rattle.lr_check_rows.specs.Rows.{IsLine, IsRow, AreSettled, IsReducedBy}

pub no_kids : (k : Tok) (xs : List Sort) → xs ≡ kids k → length xs ≡ 0 → kids k ≡ []
no_kids k xs e many = sym e ∙ nil_of xs many

module _ (A : Automaton) (v : ListsView) (r : Row) (p : ℕ) (row : IsRow A v r) (go : A.go r.state (grammar_symbol.Tok r.token) ≡ Some p) (set : ℕ)
    (within : (b : Tok) → In set b → In r.places b) where
  pub leaf_settles : kids r.token ≡ [] → AreSettled A r.state r.token (grammar_symbol.Tok r.token ∷ []) set
  leaf_settles e b is = (least_closed A).alone r.state p r.token b (row.places b (within b is)) e go

  pub one_settles : (n : Tok) (x : Sort) (l : Line) (h : IsLine A v p n l) → kids r.token ≡ x ∷ [] → May n x → ((b : Tok) → In set b → In l.sums b)
      → AreSettled A r.state r.token (h.list ++ (grammar_symbol.Tok r.token ∷ [])) set
  one_settles n x l h e may sums b is = (least_closed A).only_in r.state p r.token b n x h.list (row.places b (within b is)) e go may (h.sums b (sums b is))

  pub two_settles : (n m : Tok) (j : ℕ) (x y : Sort) (l u : Line) (h : IsLine A v p n l) (g : IsLine A v j m u) → kids r.token ≡ x ∷ y ∷ [] → May n x → May m y → In l.sums m
      → l.behind ≡ Some j → ((b : Tok) → In set b → In u.sums b)
      → AreSettled A r.state r.token (g.list ++ (h.list ++ (grammar_symbol.Tok r.token ∷ []))) set
  two_settles n m j x y l u h g e may may' sum behind sums b is =
      (least_closed A).both_in r.state p j r.token b n m x y h.list g.list (row.places b (within b is)) e go may may' (h.sums m sum)
      (walk_from A r.state p (grammar_symbol.Tok r.token) h.list go ∙ (sym h.behind ∙ behind)) (g.sums b (sums b is))

pub reduced_settles : (A : Automaton) (v : ListsView) (q p : ℕ) (k : Tok) (w : Ways) (l : Line) (x : Reduction) (c set : ℕ) (h : IsLine A v q k l)
    → IsReducedBy l (length h.list) c set x → l.behind ≡ Some p → AreWays A p w → Contains w.reductions.items x → AreSettled A q k (grammar_symbol.Class c ∷ []) set
reduced_settles A v q p k w l x c set h by behind ways there b is =
    let t : IsTaken A p b x = ways.taken x there b (by.tokens b is) in
    let s : sets.Settling A q k b (grammar_symbol.Class t.rule.left ∷ []) =
    subst (sets.Settling A q k b) (whole_left t.rule h.list (t.by.long ∙ by.long))
    ((least_closed A).settles q p k b h.list t.rule (h.settled b (by.settled b is)) (sym h.behind ∙ behind) t.free (t.by.long ∙ by.long)) in
    subst (λ d. sets.Settling A q k b (grammar_symbol.Class d ∷ [])) (t.by.class ∙ by.class) s

-- the state behind the kids' lists and the token
module _ (A : Automaton) (v : ListsView) (r : Row) (p : ℕ) (go : A.go r.state (grammar_symbol.Tok r.token) ≡ Some p) (n : Tok) (l : Line) (h : IsLine A v p n l) where
  pub one_behind : l.behind ≡ walk A r.state (h.list ++ (grammar_symbol.Tok r.token ∷ []))
  one_behind = h.behind ∙ sym (walk_from A r.state p (grammar_symbol.Tok r.token) h.list go)

  pub two_behind : (m : Tok) (j : ℕ) (u : Line) (g : IsLine A v j m u) → l.behind ≡ Some j → u.behind ≡ walk A r.state (g.list ++ (h.list ++ (grammar_symbol.Tok r.token ∷ [])))
  two_behind m j u g behind = g.behind ∙ sym (walk-append A r.state j g.list (h.list ++ (grammar_symbol.Tok r.token ∷ [])) (sym one_behind ∙ behind))
