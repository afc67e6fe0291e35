-- A store that holds nothing, or one row or the ways of one state more.
use Rattle.std.proofs.Common.{◌≡◌, ℕ, List, [], ◌∷◌, ◌++◌, Some, Contains, length, slice_get, ⊎_elim, sym, ap, ◌∙◌, subst, arith}
use Rattle.std.proofs.lemmas.Option.{none-some}
use Rattle.gg_base.proofs.Facts.{slice_cases}
use Rattle.lr_check_found.specs.lr_check_sets.specs.Automaton.{Automaton}
use Rattle.lr_check_found.specs.Lists.{ListsView, AreLists}
use Rattle.lr_check_ways.specs.Ways.{AreWays}
use Rattle.lr_check_ways.specs.Sets.{In}
use Rattle.lr_check_ways.specs.declared.ways.Ways.{Ways}
use Rattle.lr_check_rows.specs.declared.rows.Row.{Row}
use Rattle.lr_check_rows.specs.Rows.{IsRow}
use Rattle.lr_tables.specs.Symbols.{number}
use Rattle.lr_check_store.specs.Store.{StoreView, slot, AreApart, IsSound}
use Rattle.lr_check_store.proofs.Bits.{in_none}
use Rattle.lr_check_store.proofs.Lines.{contains_at, stands}

none_there : {X : Type 0} (xs : List X) (x : X) → xs ≡ [] → Contains xs x → ⊥
none_there xs x e c = by (subst (λ ys. Contains ys x) e c)
  where
    by : Contains [] x → ⊥
    by d = let lt = d.1 in omega (arith, lt)

none_at : {X : Type 0} (xs : List X) (n : ℕ) (x : X) → xs ≡ [] → slice_get xs n ≡ Some x → ⊥
none_at xs n x e at = none-some x (sym (ap (λ ys. slice_get ys n) e) ∙ at)

pub sound_none : (A : Automaton) (s : StoreView) → AreLists s.lists → s.rows ≡ [] → s.ways ≡ [] → IsSound A s
sound_none A s lists rows ways = record {
  lists = lists;
  rows = λ r c. absurd (none_there s.rows r rows c);
  placed = λ n r at. absurd (none_at s.rows n r rows at);
  apart = λ r c. absurd (none_there s.rows r rows c);
  ways = λ q w at. absurd (none_at s.ways q w ways at);
}

-- a row of which nothing is found
empty_row : (A : Automaton) (v : ListsView) (r : Row) → r.places ≡ 0 → r.lines.items ≡ [] → IsRow A v r
empty_row A v r places lines = record {
  places = λ b is. absurd (in_none (number b) (subst (λ set. In set b) places is));
  lines = λ l c. absurd (none_there r.lines.items l lines c);
}

pub sound_row : (A : Automaton) (s t : StoreView) (r : Row) → IsSound A s → t.rows ≡ s.rows ++ r ∷ [] → t.lists ≡ s.lists → t.ways ≡ s.ways
    → slot r.state r.token ≡ length s.rows → r.places ≡ 0 → r.lines.items ≡ [] → IsSound A t
sound_row A s t r sound rows lists ways at places lines = record {
  lists = subst AreLists (sym lists) sound.lists;
  rows = λ y c. subst (λ v. IsRow A v y) (sym lists) (which y c (λ z. IsRow A s.lists z) (λ e. subst (IsRow A s.lists) (sym e) (empty_row A s.lists r places lines)) (λ d. sound.rows y d));
  placed = λ i y there. ⊎_elim
      (λ h. sound.placed i y h)
      (λ h. h.0 ∙ (sym at ∙ sym (ap (λ (z : Row). slot z.state z.token) h.1)))
      (slice_cases s.rows r i y (sym (ap (λ ys. slice_get ys i) rows) ∙ there));
  apart = λ y c. which y c (λ z. AreApart z.lines.items)
      (λ e. λ i j l m p q same. absurd (none_at y.lines.items i l (ap (λ (z : Row). z.lines.items) e ∙ lines) p)) (λ d. sound.apart y d);
  ways = λ q w there. sound.ways q w (sym (ap (λ ws. slice_get ws q) ways) ∙ there);
}
  where
    which : (y : Row) → Contains t.rows y → (P : Row → Type 0) → (y ≡ r → P y) → (Contains s.rows y → P y) → P y
    which y c P new old =
        let i : (k : ℕ) × (slice_get t.rows k ≡ Some y) = stands t.rows y c in
        ⊎_elim (λ h. old (contains_at s.rows i.0 y h)) (λ h. new h.1) (slice_cases s.rows r i.0 y (sym (ap (λ ys. slice_get ys i.0) rows) ∙ i.1))

pub sound_ways : (A : Automaton) (s t : StoreView) (q : ℕ) (w : Ways) → IsSound A s → t.rows ≡ s.rows → t.lists ≡ s.lists → t.ways ≡ s.ways ++ w ∷ []
    → q ≡ length s.ways → AreWays A q w → IsSound A t
sound_ways A s t q w sound rows lists ways at are = record {
  lists = subst AreLists (sym lists) sound.lists;
  rows = λ y c. subst (λ v. IsRow A v y) (sym lists) (sound.rows y (subst (λ ys. Contains ys y) rows c));
  placed = λ i y there. sound.placed i y (sym (ap (λ ys. slice_get ys i) rows) ∙ there);
  apart = λ y c. sound.apart y (subst (λ ys. Contains ys y) rows c);
  ways = λ p x there. ⊎_elim
      (λ h. sound.ways p x h)
      (λ h. subst (AreWays A p) (sym h.1) (subst (λ n. AreWays A n w) (at ∙ sym h.0) are))
      (slice_cases s.ways w p x (sym (ap (λ ws. slice_get ws p) ways) ∙ there));
}
