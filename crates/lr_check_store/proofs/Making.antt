-- What follows from a store.
use Rattle.std.proofs.Common.{◌≡◌, ℕ, [], ◌∷◌, ◌++◌, Option, Some, Contains, length, slice_get, refl, sym, ap, ◌∙◌, subst}
use Rattle.std.specs.Prelude.{slice_index_or}
use Rattle.std.proofs.lemmas.Option.{get_or_from_slice_get}
use Rattle.tree_core.specs.declared.token.Tok.{Tok}
use Rattle.md_reader.specs.declared.types.Sym.TheVariants as grammar_symbol
use Rattle.lr_check_found.specs.lr_check_sets.specs.Automaton.{Automaton, walk}
use Rattle.lr_check_found.specs.Lists.{ListsView, IsList, KeepsLists, IsPushed, IsBehindToken}
use Rattle.lr_check_ways.specs.declared.ways.Reduction.{Reduction}
use Rattle.lr_check_ways.specs.declared.ways.Ways.{Ways}
use Rattle.lr_check_rows.specs.declared.rows.Line.{Line}
use Rattle.lr_check_rows.specs.declared.rows.Row.{Row}
use Rattle.lr_check_rows.specs.Rows.{IsLine, AreSettled, IsReducedBy}
use Rattle.lr_check_rows.proofs.Replacing.{reduced_settles}
use Rattle.lr_check_store.specs.Store.{StoreView, IsSound}
use Rattle.lr_check_store.specs.Adding.{IsMade, IsToHold, IsReducedAt}
use Rattle.lr_check_store.specs.declared.made.Made.{Made}
use Rattle.lr_check_store.proofs.Holding.{with_lists}

module _ (A : Automaton) (s : StoreView) (n set : ℕ) (r : Row) (sound : IsSound A s) (there : slice_get s.rows n ≡ Some r) where
  pub leaf_made : (o : Option ℕ) → o ≡ A.go r.state (grammar_symbol.Tok r.token) → AreSettled A r.state r.token (grammar_symbol.Tok r.token ∷ []) set
      → IsMade A s n set (record { token = r.token; upper = 0; lower = 0; behind = o })
  leaf_made o go settled = record {
    row = r;
    there = there;
    token = refl;
    upper = [];
    lower = [];
    is_upper = sound.lists.first;
    is_lower = sound.lists.first;
    behind = go;
    settled = settled;
  }

  pub one_made : (q : ℕ) (k : Tok) (l : Line) (h : IsLine A s.lists q k l) → l.behind ≡ walk A r.state (h.list ++ (grammar_symbol.Tok r.token ∷ []))
      → AreSettled A r.state r.token (h.list ++ (grammar_symbol.Tok r.token ∷ [])) set → IsMade A s n set (record { token = r.token; upper = l.list; lower = 0; behind = l.behind })
  one_made q k l h behind settled = record {
    row = r;
    there = there;
    token = refl;
    upper = h.list;
    lower = [];
    is_upper = h.is;
    is_lower = sound.lists.first;
    behind = behind;
    settled = settled;
  }

  pub two_made : (q p : ℕ) (k m : Tok) (l u : Line) (h : IsLine A s.lists q k l) (g : IsLine A s.lists p m u)
      → u.behind ≡ walk A r.state (g.list ++ (h.list ++ (grammar_symbol.Tok r.token ∷ []))) → AreSettled A r.state r.token (g.list ++ (h.list ++ (grammar_symbol.Tok r.token ∷ []))) set
      → IsMade A s n set (record { token = r.token; upper = u.list; lower = l.list; behind = u.behind })
  two_made q p k m l u h g behind settled = record {
    row = r;
    there = there;
    token = refl;
    upper = g.list;
    lower = h.list;
    is_upper = g.is;
    is_lower = h.is;
    behind = behind;
    settled = settled;
  }

pub reduces : (A : Automaton) (s : StoreView) (q p : ℕ) (k : Tok) (l : Line) (w : Ways) (size class set : ℕ) → IsSound A s → IsLine A s.lists q k l → l.behind ≡ Some p
    → slice_get s.ways p ≡ Some w → size ≡ length (slice_index_or s.lists.all l.list []) → (x : Reduction) × (Contains w.reductions.items x × IsReducedBy l size class set x)
    → AreSettled A q k (grammar_symbol.Class class ∷ []) set
reduces A s q p k l w size class set sound line behind there long some =
    let same : size ≡ length line.list = long ∙ ap length (get_or_from_slice_get s.lists.all l.list line.list [] line.is) in
    reduced_settles A s.lists q p k w l some.0 class set line (subst (λ z. IsReducedBy l z class set some.0) same some.1.1) behind (sound.ways p w there) some.1.0

-- what is made is to be held, behind the lists that then are there
pub made_held : (A : Automaton) (s : StoreView) (w : ListsView) (n set list : ℕ) (m : Made) → IsMade A s n set m → KeepsLists s.lists w → IsBehindToken w m.token m.upper m.lower list
    → IsToHold A (with_lists s w) n list m.behind set
made_held A s w n set list m made keeps number = record {
  row = made.row;
  there = made.there;
  symbols = made.upper ++ (made.lower ++ (grammar_symbol.Tok made.row.token ∷ []));
  list = subst (λ k. IsList w list (made.upper ++ (made.lower ++ (grammar_symbol.Tok k ∷ [])))) made.token
      (number made.upper made.lower (keeps.kept m.upper made.upper made.is_upper) (keeps.kept m.lower made.lower made.is_lower));
  behind = made.behind;
  settled = made.settled;
}

pub reduced_held : (A : Automaton) (s : StoreView) (w : ListsView) (n c set list q : ℕ) (o : Option ℕ) → IsSound A s → IsReducedAt A s n c set q → KeepsLists s.lists w
    → IsPushed w (grammar_symbol.Class c) 0 list → o ≡ A.go q (grammar_symbol.Class c) → IsToHold A (with_lists s w) n list o set
reduced_held A s w n c set list q o sound made keeps number go = record {
  row = made.row;
  there = made.there;
  symbols = grammar_symbol.Class c ∷ [];
  list = number [] (keeps.kept 0 [] sound.lists.first);
  behind = go ∙ ap (λ p. A.go p (grammar_symbol.Class c)) (sym made.state);
  settled = made.settled;
}
