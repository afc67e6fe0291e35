-- A store that holds more is sound.
use Rattle.std.proofs.Common.{◌≡◌, ◌⊎◌, ℕ, List, [], Option, Some, Contains, length, slice_get, slice_set, ⊎_elim, inl, inr, sym, ap, ◌∙◌, subst, arith}
use Rattle.std.specs.Prelude.{slice_index_or, Result, Ok, Err, OnOk}
use Rattle.std.proofs.lemmas.Option.{same_Some, get_or_from_slice_get}
use Rattle.tree_core.specs.declared.token.Tok.{Tok}
use Rattle.md_reader.specs.declared.types.Sym.{Sym}
use Rattle.lr_check_found.specs.lr_check_sets.specs.Automaton.{Automaton, shift, reduce, walk}
use Rattle.lr_check_found.specs.lr_check_sets.specs.Sums as sets
use Rattle.lr_check_found.specs.Lists.{ListsView, AreLists, KeepsLists}
use Rattle.lr_check_ways.specs.Sets.{In}
use Rattle.lr_check_ways.specs.Ways.{AreWays, IsTaken}
use Rattle.lr_check_ways.specs.declared.ways.Ways.{Ways}
use Rattle.lr_check_rows.specs.declared.rows.Line.{Line}
use Rattle.lr_check_rows.specs.declared.rows.Row.{Row}
use Rattle.lr_check_rows.specs.Rows.{IsLine, IsRow, ArePlaces}
use Rattle.lr_check_store.specs.Store.{StoreView, slot, AreApart, IsSound, IsRowAt, IsPlaceIn, IsSettlingIn, IsSumIn, IsOut}
use Rattle.lr_check_store.specs.Holding.{HasPlaces, HasLine, IsMerged, IsJoint}
use Rattle.lr_check_store.specs.Adding.{StandsAt, HasOut, IsToHold, PutsPlaces, PutsLine}
use Rattle.lr_check_store.proofs.Lines.{contains_at, stands, set_cases}

-- ---- what a sound store holds is in the sets

pub row_of : (A : Automaton) (s : StoreView) (n : ℕ) (r : Row) → IsSound A s → slice_get s.rows n ≡ Some r → IsRow A s.lists r
row_of A s n r sound at = sound.rows r (contains_at s.rows n r at)

pub place_is : (A : Automaton) (s : StoreView) (q : ℕ) (k b : Tok) → IsSound A s → IsPlaceIn s q k b → sets.Place A q k b
place_is A s q k b sound h =
    subst (λ n. sets.Place A n k b) h.at.state (subst (λ t. sets.Place A h.row.state t b) h.at.token ((sound.rows h.row h.at.there).places b h.has))

pub settling_is : (A : Automaton) (s : StoreView) (q : ℕ) (k b : Tok) (xs : List Sym) → IsSound A s → IsSettlingIn s q k b xs → sets.Settling A q k b xs
settling_is A s q k b xs sound h =
    let l : IsLine A s.lists h.row.state h.row.token h.line = (sound.rows h.row h.at.there).lines h.line h.of.there in
    subst (λ n. sets.Settling A n k b xs) h.at.state (subst (λ t. sets.Settling A h.row.state t b xs) h.at.token
    (subst (sets.Settling A h.row.state h.row.token b) (same_Some l.list xs (sym l.is ∙ h.of.list)) (l.settled b h.has)))

pub sum_is : (A : Automaton) (s : StoreView) (q : ℕ) (k b : Tok) (xs : List Sym) → IsSound A s → IsSumIn s q k b xs → sets.Sum A q k b xs
sum_is A s q k b xs sound h =
    let l : IsLine A s.lists h.row.state h.row.token h.line = (sound.rows h.row h.at.there).lines h.line h.of.there in
    subst (λ n. sets.Sum A n k b xs) h.at.state (subst (λ t. sets.Sum A h.row.state t b xs) h.at.token
    (subst (sets.Sum A h.row.state h.row.token b) (same_Some l.list xs (sym l.is ∙ h.of.list)) (l.sums b h.has)))

-- there is one row of a state and a token
pub same_row : (A : Automaton) (s : StoreView) (q : ℕ) (k : Tok) (r t : Row) → IsSound A s → IsRowAt s q k r → IsRowAt s q k t → r ≡ t
same_row A s q k r t sound h g =
    let i : (n : ℕ) × (slice_get s.rows n ≡ Some r) = stands s.rows r h.there in
    let j : (n : ℕ) × (slice_get s.rows n ≡ Some t) = stands s.rows t g.there in
    let one : i.0 ≡ slot q k = sound.placed i.0 r i.1 ∙ (ap (λ n. slot n r.token) h.state ∙ ap (slot q) h.token) in
    let two : j.0 ≡ slot q k = sound.placed j.0 t j.1 ∙ (ap (λ n. slot n t.token) g.state ∙ ap (slot q) g.token) in
    same_Some r t (sym i.1 ∙ (ap (slice_get s.rows) (one ∙ sym two) ∙ j.1))

-- ---- rows that grow

place_at : (A : Automaton) (r t : Row) (b : Tok) → t.state ≡ r.state → t.token ≡ r.token → sets.Place A r.state r.token b → sets.Place A t.state t.token b
place_at A r t b e f h = subst (λ q. sets.Place A q t.token b) (sym e) (subst (λ k. sets.Place A r.state k b) (sym f) h)

line_at : (A : Automaton) (v : ListsView) (r t : Row) (l : Line) → t.state ≡ r.state → t.token ≡ r.token → IsLine A v r.state r.token l → IsLine A v t.state t.token l
line_at A v r t l e f h = subst (λ q. IsLine A v q t.token l) (sym e) (subst (λ k. IsLine A v r.state k l) (sym f) h)

row_places : (A : Automaton) (v : ListsView) (r t : Row) (set : ℕ) → HasPlaces r t set → IsRow A v r → ArePlaces A r.state r.token set → IsRow A v t
row_places A v r t set h row are = record {
  places = λ b is. place_at A r t b h.state h.token (⊎_elim (λ x. row.places b x) (λ x. are b x) (h.places b is));
  lines = λ l m. line_at A v r t l h.state h.token (row.lines l (subst (λ ls. Contains ls l) h.lines m));
}

-- a line with what another one of its list has
joint : (A : Automaton) (v : ListsView) (q : ℕ) (k : Tok) (o l m : Line) → o.list ≡ l.list → IsMerged o l m → IsLine A v q k o → IsLine A v q k l → IsLine A v q k m
joint A v q k o l m same merged other line =
    let one : other.list ≡ line.list = same_Some other.list line.list (sym other.is ∙ (ap (slice_get v.all) same ∙ line.is)) in
    record {
      list = line.list;
      is = ap (slice_get v.all) merged.list ∙ line.is;
      behind = merged.behind ∙ line.behind;
      settled = λ b is. ⊎_elim (λ x. subst (sets.Settling A q k b) one (other.settled b x)) (λ x. line.settled b x) (merged.settled b is);
      sums = λ b is. ⊎_elim (λ x. subst (sets.Sum A q k b) one (other.sums b x)) (λ x. line.sums b x) (merged.sums b is);
    }

row_line : (A : Automaton) (v : ListsView) (r t : Row) (l : Line) → HasLine r t l → IsRow A v r → IsLine A v r.state r.token l → IsRow A v t
row_line A v r t l h row line = record {
  places = λ b is. place_at A r t b h.state h.token (row.places b (subst (λ set. In set b) h.places is));
  lines = λ m c. line_at A v r t m h.state h.token (by m (h.lines m c));
}
  where
    by : (m : Line) → Contains r.lines.items m ⊎ ((m ≡ l) ⊎ IsJoint r l m) → IsLine A v r.state r.token m
    by m (inl c) = row.lines m c
    by m (inr (inl e)) = subst (IsLine A v r.state r.token) (sym e) line
    by m (inr (inr j)) = joint A v r.state r.token j.other l m j.list j.merged (row.lines j.other j.there) line

-- ---- stores that grow

-- the lists that were there stay
row_grows : (A : Automaton) (v w : ListsView) (r : Row) → KeepsLists v w → IsRow A v r → IsRow A w r
row_grows A v w r keeps row = record {
  places = row.places;
  lines = λ l c. let h : IsLine A v r.state r.token l = row.lines l c in
      record { list = h.list; is = keeps.kept l.list h.list h.is; behind = h.behind; settled = h.settled; sums = h.sums };
}

abbrev pub with_lists : StoreView → ListsView → StoreView
with_lists s w = record { lists = w; rows = s.rows; ways = s.ways }

pub sound_lists : (A : Automaton) (s : StoreView) (w : ListsView) → IsSound A s → AreLists w → KeepsLists s.lists w → IsSound A (with_lists s w)
sound_lists A s w sound are keeps = record {
  lists = are;
  rows = λ r c. row_grows A s.lists w r keeps (sound.rows r c);
  placed = sound.placed;
  apart = sound.apart;
  ways = sound.ways;
}

-- a row is another one
sound_set : (A : Automaton) (s t : StoreView) (n : ℕ) (r x : Row) → IsSound A s → slice_get s.rows n ≡ Some r → t.rows ≡ slice_set s.rows n x → t.lists ≡ s.lists → t.ways ≡ s.ways
    → x.state ≡ r.state → x.token ≡ r.token → IsRow A s.lists x → AreApart x.lines.items → IsSound A t
sound_set A s t n r x sound there rows lists ways state token row apart = record {
  lists = subst AreLists (sym lists) sound.lists;
  rows = λ y c. subst (λ v. IsRow A v y) (sym lists) (which y c (λ z. IsRow A s.lists z) (λ e. subst (IsRow A s.lists) (sym e) row) (λ d. sound.rows y d));
  placed = λ i y at. ⊎_elim
      (λ h. h.0 ∙ (sound.placed n r there ∙ (sym (ap (λ q. slot q r.token) state) ∙ (sym (ap (slot x.state) token) ∙ sym (ap (λ (z : Row). slot z.state z.token) h.1)))))
      (λ h. sound.placed i y h)
      (set_cases s.rows n x r i y there (sym (ap (λ ys. slice_get ys i) rows) ∙ at));
  apart = λ y c. which y c (λ z. AreApart z.lines.items) (λ e. subst (λ (z : Row). AreApart z.lines.items) (sym e) apart) (λ d. sound.apart y d);
  ways = λ q w at. sound.ways q w (sym (ap (λ ws. slice_get ws q) ways) ∙ at);
}
  where
    which : (y : Row) → Contains t.rows y → (P : Row → Type 0) → (y ≡ x → P y) → (Contains s.rows y → P y) → P y
    which y c P new old =
        let i : (k : ℕ) × (slice_get t.rows k ≡ Some y) = stands t.rows y c in
        ⊎_elim (λ h. new h.1) (λ h. old (contains_at s.rows i.0 y h)) (set_cases s.rows n x r i.0 y there (sym (ap (λ ys. slice_get ys i.0) rows) ∙ i.1))

pub sound_places : (A : Automaton) (s t : StoreView) (n q : ℕ) (k : Tok) (set : ℕ) → IsSound A s → StandsAt s n q k → ArePlaces A q k set → PutsPlaces s t n set → IsSound A t
sound_places A s t n q k set sound at are puts =
    let same : at.row ≡ puts.old = same_Some at.row puts.old (sym at.there ∙ puts.there) in
    let state : puts.old.state ≡ q = sym (ap (λ (r : Row). r.state) same) ∙ at.state in
    let token : puts.old.token ≡ k = sym (ap (λ (r : Row). r.token) same) ∙ at.token in
    let here : ArePlaces A puts.old.state puts.old.token set =
    λ b is. subst (λ p. sets.Place A p puts.old.token b) (sym state) (subst (λ t. sets.Place A q t b) (sym token) (are b is)) in
    sound_set A s t n puts.old puts.new sound puts.there puts.rows puts.lists puts.ways puts.has.state puts.has.token
    (row_places A s.lists puts.old puts.new set puts.has (sound.rows puts.old (contains_at s.rows n puts.old puts.there)) here)
    (subst AreApart (sym puts.has.lines) (sound.apart puts.old (contains_at s.rows n puts.old puts.there)))

pub puts_line : {X E : Type 0} (o : Result X E) (s t : StoreView) (n : ℕ) (x y : Row) (l : Line) → slice_get s.rows n ≡ Some x → t.rows ≡ slice_set s.rows n y → t.lists ≡ s.lists
    → t.ways ≡ s.ways → OnOk o (HasLine x y l) → (AreApart x.lines.items → OnOk o (AreApart y.lines.items)) → OnOk o (PutsLine s t n l)
puts_line (Ok u) s t n x y l there rows lists ways has apart =
    record { old = x; new = y; there = there; rows = rows; lists = lists; ways = ways; has = has; apart = apart }
puts_line (Err e) s t n x y l there rows lists ways has apart = tt

-- with which a choice leads out is a sum
out_is : (A : Automaton) (q p : ℕ) (k b : Tok) (xs : List Sym) (w : Ways) → AreWays A p w → sets.Settling A q k b xs → walk A q xs ≡ Some p → IsOut w (length xs) b → sets.Sum A q k b xs
out_is A q p k b xs w ways settles at (inl shifts) = sets.sum shift settles at (ways.shifted b shifts) tt
out_is A q p k b xs w ways settles at (inr longer) =
    let t : IsTaken A p b longer.reduction = ways.taken longer.reduction longer.there b longer.has in
    let long = t.by.long in
    let more = longer.longer in
    sets.sum (reduce t.rule) settles at t.free (omega (arith, long, more))

pub sound_line : (A : Automaton) (s t : StoreView) (n list : ℕ) (behind : Option ℕ) (set : ℕ) (l : Line) → IsSound A s → IsToHold A s n list behind set
    → l.list ≡ list → l.behind ≡ behind → l.settled ≡ set → ((b : Tok) → In l.sums b → In set b) → ((b : Tok) → In l.sums b → HasOut s list behind b) → PutsLine s t n l → IsSound A t
sound_line A s t n list behind set l sound hold is_list is_behind is_set within out puts =
    let same : hold.row ≡ puts.old = same_Some hold.row puts.old (sym hold.there ∙ puts.there) in
    let line : IsLine A s.lists hold.row.state hold.row.token l = record {
      list = hold.symbols;
      is = ap (slice_get s.lists.all) is_list ∙ hold.list;
      behind = is_behind ∙ hold.behind;
      settled = λ b is. hold.settled b (subst (λ set. In set b) is_set is);
      sums = λ b is.
          let o : HasOut s list behind b = out b is in
          let long : slice_index_or s.lists.all list [] ≡ hold.symbols = get_or_from_slice_get s.lists.all list hold.symbols [] hold.list in
          out_is A hold.row.state o.state hold.row.token b hold.symbols o.ways (sound.ways o.state o.ways o.there) (hold.settled b (within b is)) (sym hold.behind ∙ o.at)
          (subst (λ xs. IsOut o.ways (length xs) b) long o.out);
    } in
    sound_set A s t n puts.old puts.new sound puts.there puts.rows puts.lists puts.ways puts.has.state puts.has.token
    (row_line A s.lists puts.old puts.new l puts.has (sound.rows puts.old (contains_at s.rows n puts.old puts.there)) (subst (λ (r : Row). IsLine A s.lists r.state r.token l) same line))
    (puts.apart (sound.apart puts.old (contains_at s.rows n puts.old puts.there)))
