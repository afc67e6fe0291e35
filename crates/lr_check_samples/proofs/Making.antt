-- How a settling that was found was made, by its number.
use Rattle.std.proofs.Common.{◌≡◌, ℕ, List, [], ◌∷◌, ◌++◌, Some, length, slice_get, refl, ap, sym, ◌∙◌, subst}
use Rattle.std.proofs.lemmas.Option.{same_Some}
use Rattle.tree_core.specs.declared.token.Sort.{Sort}
use Rattle.tree_core.specs.Grammar.{kids}
use Rattle.md_reader.specs.declared.types.Sym.{Sym}
use Rattle.md_reader.specs.declared.types.Sym.TheVariants as grammar_symbol
use Rattle.lr_check_sets.specs.Automaton.{Automaton, Production, reduce, walk, size_of, Free}
use Rattle.lr_check_sets.specs.Sums as sets
use Rattle.lr_check_found.specs.declared.places.Place.{Place}
use Rattle.lr_check_found.specs.declared.settlings.How.{How}
use Rattle.lr_check_found.specs.declared.settlings.How.TheVariants as how
use Rattle.lr_check_found.specs.declared.settlings.Settling.{Settling}
use Rattle.lr_check_found.specs.Lists.{IsList}
use Rattle.lr_check_found.specs.Found.{FoundView, IsPlaceAt, IsSettlingAt, SettlesAt, SumAt}
use Rattle.lr_check_found.specs.Items.{HasOne, HasTwo, Fits, Made, leaf, one, two, made_by_reduction}
use Rattle.lr_check_found.specs.Sound.{IsSoundSettling, IsFound}
use Rattle.lr_check_samples.specs.Fixed.{IsMadeBy}

-- a sum settles
pub settles_of : {f : FoundView} {i : ℕ} {y : Place} {s : List Sym} {p : ℕ} → SumAt f i y s p → SettlesAt f i y s p
settles_of h = record { entry = h.entry; there = h.there; place = h.place; list = h.list; behind = h.behind }

-- what settles with a number is one
pub record AreSame (y z : Place) (s u : List Sym) (p h : ℕ) : Type 0 where
  pub places : y ≡ z
  pub lists : s ≡ u
  pub states : p ≡ h

pub same_settling : {f : FoundView} {i p h : ℕ} {y z : Place} {s u : List Sym} → SettlesAt f i y s p → SettlesAt f i z u h → AreSame y z s u p h
same_settling {f = f} {p = p} {h = h} {y = y} {z = z} {s = s} {u = u} a b =
    let same : a.entry ≡ b.entry = same_Some a.entry b.entry (sym a.there ∙ b.there) in
    record {
      places = same_Some y z (sym a.place ∙ (ap (λ (e : Settling). slice_get f.places e.place) same ∙ b.place));
      lists = same_Some s u (sym a.list ∙ (ap (λ (e : Settling). slice_get f.lists.all e.list) same ∙ b.list));
      states = same_Some p h (sym a.behind ∙ (ap (λ (e : Settling). e.behind) same ∙ b.behind));
    }

-- what is known of what settles, however it was made
pub record IsSettledAt (A : Automaton) (x : Place) (s : List Sym) (p : ℕ) : Type 0 where
  pub settles : sets.Settling A x.state x.token x.behind s
  pub is_place : sets.Place A x.state x.token x.behind
  pub walks : walk A x.state s ≡ Some p

pub settled_at : (A : Automaton) (f : FoundView) → IsFound A f → {i p : ℕ} {x : Place} {s : List Sym} → SettlesAt f i x s p → IsSettledAt A x s p
settled_at A f found {i = i} {p = p} {x = x} {s = s} a =
    let k : IsSoundSettling A f i a.entry = found.settlings i a.entry a.there in
    let place : k.place ≡ x = same_Some k.place x (sym k.there ∙ a.place) in
    let list : k.list ≡ s = same_Some k.list s (sym k.symbols ∙ a.list) in
    record {
      settles = subst (λ (y : Place). sets.Settling A y.state y.token y.behind s) place (subst (sets.Settling A k.place.state k.place.token k.place.behind) list k.settles);
      is_place = (found.places a.entry.place x a.place).is_place;
      walks = subst (λ (y : Place). walk A y.state s ≡ Some p) place (subst (λ (l : List Sym). walk A k.place.state l ≡ Some p) list (sym k.behind ∙ a.behind));
    }

-- what is known of what settles
pub record IsSettled (A : Automaton) (f : FoundView) (i : ℕ) (h : How) (x : Place) (s : List Sym) (p : ℕ) : Type 0 where
  pub settles : sets.Settling A x.state x.token x.behind s
  pub is_place : sets.Place A x.state x.token x.behind
  pub walks : walk A x.state s ≡ Some p
  pub place : ℕ
  pub there : IsPlaceAt f place x
  pub made : Made A f place x h s

pub settled_so : (A : Automaton) (f : FoundView) → IsFound A f → {i p : ℕ} {h : How} {x : Place} {s : List Sym} → IsMadeBy f i h → SettlesAt f i x s p → IsSettled A f i h x s p
settled_so A f found {i = i} {p = p} {h = h} {x = x} {s = s} m a =
    let k : IsSoundSettling A f i a.entry = found.settlings i a.entry a.there in
    let place : k.place ≡ x = same_Some k.place x (sym k.there ∙ a.place) in
    let list : k.list ≡ s = same_Some k.list s (sym k.symbols ∙ a.list) in
    let by : a.entry.how ≡ h = ap (λ (e : Settling). e.how) (same_Some a.entry m.entry (sym a.there ∙ m.there)) ∙ m.how in
    record {
      settles = subst (λ (y : Place). sets.Settling A y.state y.token y.behind s) place (subst (sets.Settling A k.place.state k.place.token k.place.behind) list k.settles);
      is_place = (found.places a.entry.place x a.place).is_place;
      walks = subst (λ (y : Place). walk A y.state s ≡ Some p) place (subst (λ (l : List Sym). walk A k.place.state l ≡ Some p) list (sym k.behind ∙ a.behind));
      place = a.entry.place;
      there = a.place;
      made = subst (λ (y : Place). Made A f a.entry.place y h s) place (subst (λ (l : List Sym). Made A f a.entry.place k.place h l) list
          (subst (λ (g : How). Made A f a.entry.place k.place g k.list) by k.made));
    }

-- by the settling's form
pub record MadeLeaf (A : Automaton) (x : Place) (s : List Sym) : Type 0 where
  pub state : ℕ
  pub go : A.go x.state (grammar_symbol.Tok x.token) ≡ Some state
  pub none : kids x.token ≡ []
  pub list : s ≡ grammar_symbol.Tok x.token ∷ []

pub record MadeOne (A : Automaton) (f : FoundView) (i : ℕ) (x : Place) (s : List Sym) : Type 0 where
  pub sort : Sort
  pub state : ℕ
  pub has : HasOne A x sort state
  pub kid : Place
  pub behind : ℕ
  pub kid_list : List Sym
  pub sum : SumAt f i kid kid_list behind
  pub fits : Fits kid sort state x.behind
  pub list : s ≡ kid_list ++ (grammar_symbol.Tok x.token ∷ [])

pub record MadeTwo (A : Automaton) (f : FoundView) (i k : ℕ) (x : Place) (s : List Sym) : Type 0 where
  pub sort : Sort
  pub second_sort : Sort
  pub state : ℕ
  pub has : HasTwo A x sort second_sort state
  pub kid : Place
  pub second : Place
  pub behind : ℕ
  pub last : ℕ
  pub kid_list : List Sym
  pub second_list : List Sym
  pub sum : SumAt f i kid kid_list behind
  pub fits : Fits kid sort state second.token
  pub second_sum : SumAt f k second second_list last
  pub second_fits : Fits second second_sort behind x.behind
  pub list : s ≡ second_list ++ (kid_list ++ (grammar_symbol.Tok x.token ∷ []))

pub record MadeReduced (A : Automaton) (f : FoundView) (n i c : ℕ) (x : Place) (s : List Sym) : Type 0 where
  pub entry : Settling
  pub rule : Production
  pub state : ℕ
  pub whole : List Sym
  pub there : IsSettlingAt f i entry
  pub place : entry.place ≡ n
  pub symbols : IsList f.lists entry.list whole
  pub behind : entry.behind ≡ Some state
  pub free : Free (A.candidates state x.behind) (reduce rule)
  pub size : size_of rule ≡ length whole
  pub left : rule.left ≡ c
  pub list : s ≡ grammar_symbol.Class c ∷ []

module _ {A : Automaton} {f : FoundView} {n : ℕ} {x : Place} where
  pub made_leaf : {h : How} {s : List Sym} → Made A f n x h s → h ≡ how.Leaf → MadeLeaf A x s
  made_leaf (leaf {p = p} go none) e = record { state = p; go = go; none = none; list = refl }
  made_leaf (one h sum g) e = absurd (cc)
  made_leaf (two h sum g sum' g') e = absurd (cc)
  made_leaf (made_by_reduction d r at same list behind free size) e = absurd (cc)

  pub made_one : {h : How} {s : List Sym} → Made A f n x h s → (i : ℕ) → h ≡ how.One i → MadeOne A f i x s
  made_one (leaf go none) i e = absurd (cc)
  made_one (one {i = j} {p = p} {j = q} {y = y} {w = w} {s = s} h sum g) i e =
      let same : j ≡ i = cc in
      subst (λ k. MadeOne A f k x (s ++ (grammar_symbol.Tok x.token ∷ []))) same
      (record { sort = w; state = p; has = h; kid = y; behind = q; kid_list = s; sum = sum; fits = g; list = refl })
  made_one (two h sum g sum' g') i e = absurd (cc)
  made_one (made_by_reduction d r at same list behind free size) i e = absurd (cc)

  pub made_two : {h : How} {s : List Sym} → Made A f n x h s → (i k : ℕ) → h ≡ how.Two i k → MadeTwo A f i k x s
  made_two (leaf go none) i k e = absurd (cc)
  made_two (one h sum g) i k e = absurd (cc)
  made_two (two {i = j} {k = l} {p = p} {j = q} {h = o} {y = y} {z = z} {w = w} {v = v} {s = s} {u = u} h sum g sum' g') i k e =
      let first : j ≡ i = cc in
      let second : l ≡ k = cc in
      subst (λ a. MadeTwo A f a k x (u ++ (s ++ (grammar_symbol.Tok x.token ∷ [])))) first
      (subst (λ b. MadeTwo A f j b x (u ++ (s ++ (grammar_symbol.Tok x.token ∷ [])))) second
      (record {
        sort = w;
        second_sort = v;
        state = p;
        has = h;
        kid = y;
        second = z;
        behind = q;
        last = o;
        kid_list = s;
        second_list = u;
        sum = sum;
        fits = g;
        second_sum = sum';
        second_fits = g';
        list = refl;
      }))
  made_two (made_by_reduction d r at same list behind free size) i k e = absurd (cc)

  pub made_reduced : {h : How} {s : List Sym} → Made A f n x h s → (i c : ℕ) → h ≡ how.Reduced i c → MadeReduced A f n i c x s
  made_reduced (leaf go none) i c e = absurd (cc)
  made_reduced (one h sum g) i c e = absurd (cc)
  made_reduced (two h sum g sum' g') i c e = absurd (cc)
  made_reduced (made_by_reduction {i = j} {p = p} {s = s} d r at same list behind free size) i c e =
      let first : j ≡ i = cc in
      let left : r.left ≡ c = cc in
      record {
        entry = d;
        rule = r;
        state = p;
        whole = s;
        there = subst (λ k. IsSettlingAt f k d) first at;
        place = same;
        symbols = list;
        behind = behind;
        free = free;
        size = size;
        left = left;
        list = ap (λ l. grammar_symbol.Class l ∷ []) left;
      }
