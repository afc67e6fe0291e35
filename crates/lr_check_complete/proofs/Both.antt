-- The two kids of places, as items.
use Rattle.std.proofs.Common.{◌≡◌, ℕ, List, [], ◌∷◌, ◌++◌, Option, Some, None, Contains, false, true≢false, length, slice_get, refl, sym, ap, ◌∙◌, subst}
use Rattle.std.specs.Prelude.{slice_index_or, nat_lt}
use Rattle.std.proofs.lemmas.Bool.{lt-ltb}
use Rattle.std.proofs.lemmas.Option.{slice_get_within, same_Some, none-some}
use Rattle.tree_core.specs.declared.token.Tok.{Tok}
use Rattle.tree_core.specs.declared.token.Sort.{Sort}
use Rattle.tree_core.specs.Grammar.{kids}
use Rattle.md_reader.specs.declared.types.Sym.{Sym}
use Rattle.md_reader.specs.declared.types.Sym.TheVariants as grammar_symbol
use Rattle.lr_check_found.specs.lr_check_sets.specs.Trees.{May}
use Rattle.lr_check_found.specs.lr_check_sets.specs.Automaton.{Automaton, walk}
use Rattle.lr_check_found.specs.declared.places.Place.{Place}
use Rattle.lr_check_found.specs.declared.places.Origin.TheVariants as origin
use Rattle.lr_check_found.specs.declared.settlings.Settling.{Settling}
use Rattle.lr_check_found.specs.declared.settlings.How.TheVariants as how
use Rattle.lr_check_found.specs.Lists.{IsList}
use Rattle.lr_check_found.specs.Found.{FoundView, place_of, IsPlaceAt, IsSettlingAt, SumAt, Settles}
use Rattle.lr_check_found.specs.Items.{HasOne, HasTwo, Begun, Made, HasMade}
use Rattle.lr_check_found.specs.Sound.{IsFound}
use Rattle.lr_check_found.specs.Adding.{list_number}
use Rattle.lr_check_found.proofs.Deriving.{IsSum, sum_of}
use Rattle.lr_check_found.proofs.Added.{list_is}
use Rattle.lr_check_complete.specs.Kids.{FirstSum, FirstsIn, HasListAt, TwoKids, TwoIn, SecondIn, SecondAt, FirstIn, IsFrame}
use Rattle.lr_check_complete.specs.Seconds.{SecondKid, SecondFound}
use Rattle.lr_check_complete.proofs.Kids_found.{HeldSum, sum_held}

-- where a look finds nothing, nothing is there
pub not_there : {X : Type 0} (xs ys : List X) (k : ℕ) (x : X) → xs ≡ ys → false ≡ nat_lt k (length xs) → slice_get ys k ≡ Some x → ⊥
not_there xs ys k x same none at =
    let at' : slice_get xs k ≡ Some x = ap (λ l. slice_get l k) same ∙ at in
    true≢false (sym (lt-ltb k (length xs) (slice_get_within xs k x at')) ∙ sym none)

-- a sum leads to the state of its settling
pub same_behind : (f : FoundView) (i j p : ℕ) (y : Place) (s : List Sym) (e : Settling) → IsSettlingAt f i e → e.behind ≡ Some p → SumAt f i y s j → j ≡ p
same_behind f i j p y s e at behind sum =
    let same : sum.entry ≡ e = same_Some sum.entry e (sym sum.there ∙ at) in
    same_Some j p (sym sum.behind ∙ (ap (λ (d : Settling). d.behind) same ∙ behind))

pub second_kid : (A : Automaton) (f : FoundView) (n i p : ℕ) (x : Place) (m : Tok) (e : Settling) → IsSettlingAt f i e → e.behind ≡ Some p → TwoKids A f n x m i
    → SecondKid A f n x i (place_of p m x.behind)
second_kid A f n i p x m e at behind t =
    let same : t.first.behind ≡ p = same_behind f i t.first.behind p t.first.place t.first.list e at behind t.first.sum in
    record {
      there = t.there;
      sort = t.sort;
      second = t.second;
      over = t.over;
      two = t.two;
      place = t.first.place;
      list = t.first.list;
      behind = t.first.behind;
      sum = t.first.sum;
      first = t.first.fits;
      fits = record { state = sym same; may = t.may; behind = refl };
    }

pub two_made : (A : Automaton) (f : FoundView) (n i h : ℕ) (x y : Place) → SecondKid A f n x i y → HeldSum f h y → HasMade A f n (how.Two i h)
two_made A f n i h x y kid held = record {
  place = x;
  list = held.list ++ (kid.list ++ (grammar_symbol.Tok x.token ∷ []));
  there = kid.there;
  made = Made.two kid.two kid.sum kid.first held.sum kid.fits;
}

pub second_begun : (A : Automaton) (f : FoundView) (n i : ℕ) (x y : Place) → SecondKid A f n x i y → Begun A f y (origin.Second n i)
second_begun A f n i x y kid = Begun.second kid.there kid.two kid.sum kid.first kid.fits

pub two_in : (f : FoundView) (n i h : ℕ) (k : Tok) → ((u l : List Sym) → IsList f.lists (list_number f h) u → IsList f.lists (list_number f i) l
    → Settles f n (u ++ (l ++ (grammar_symbol.Tok k ∷ [])))) → TwoIn f n k i h
two_in f n i h k g = record { settles = λ y z s u j l a b. g u s (list_is f h z u l b) (list_is f i y s j a) }

pub second_found : (A : Automaton) (f : FoundView) (n m i : ℕ) (k : Tok) (y : Place) (sums : List ℕ) → IsFound A f → IsPlaceAt f m y → sums ≡ slice_index_or f.sums m [] →
    ((h : ℕ) → Contains sums h → TwoIn f n k i h) → SecondFound f n k i y
second_found A f n m i k y sums found at same each = record {
  place = record { number = m; at = at };
  sums = λ z s u j a b.
      (each b.number (subst (λ l. Contains l b.number) (sym same) (sum_held A f m b.number b.behind y u found at b.sum))).settles z y s u j b.behind a b.sum;
}

pub second_done : (f : FoundView) (n i p : ℕ) (x : Place) (m : Tok) (e : Settling) → IsSettlingAt f i e → e.behind ≡ Some p → SecondFound f n x.token i (place_of p m x.behind) → SecondAt f n x m i
second_done f n i p x m e at behind h = record {
  each = λ y s j sum.
      let same : p ≡ j = sym (same_behind f i j p y s e at behind sum) in
      subst (SecondIn f n x m s) same (record {
        place = h.place;
        sums = λ u b. h.sums y s u j sum b;
      });
}

-- a settling that leads nowhere is no sum
pub second_nowhere : (f : FoundView) (n i : ℕ) (x : Place) (m : Tok) (o : Option ℕ) → o ≡ None → ((e : Settling) → IsSettlingAt f i e → o ≡ e.behind) → SecondAt f n x m i
second_nowhere f n i x m o none is = record { each = λ y s j sum. absurd (none-some j (sym none ∙ (is sum.entry sum.there ∙ sum.behind))) }

-- ---- frames

pub frame_two : (A : Automaton) (f : FoundView) (q p n : ℕ) (k : Tok) (w v : Sort) (numbers : List ℕ) (x : Place) → IsFrame A f q k p numbers → kids k ≡ w ∷ v ∷ [] → Contains numbers n
    → IsPlaceAt f n x → HasTwo A x w v p
frame_two A f q p n k w v numbers x frame kid c at =
    let h = frame.places n c in
    let same : place_of q k h.0 ≡ x = same_Some (place_of q k h.0) x (sym h.1 ∙ at) in
    subst (λ (y : Place). HasTwo A y w v p) same (record { go = frame.go; kid = kid })

pub frame_one : (A : Automaton) (f : FoundView) (q p n : ℕ) (k : Tok) (w : Sort) (numbers : List ℕ) (x : Place) → IsFrame A f q k p numbers → kids k ≡ w ∷ [] → Contains numbers n
    → IsPlaceAt f n x → HasOne A x w p
frame_one A f q p n k w numbers x frame kid c at =
    let h = frame.places n c in
    let same : place_of q k h.0 ≡ x = same_Some (place_of q k h.0) x (sym h.1 ∙ at) in
    subst (λ (y : Place). HasOne A y w p) same (record { go = frame.go; kid = kid })

pub two_kids : (A : Automaton) (f : FoundView) (n i p : ℕ) (x : Place) (m : Tok) (w v : Sort) → IsPlaceAt f n x → HasTwo A x w v p → May m v → FirstSum f p w m i → TwoKids A f n x m i
two_kids A f n i p x m w v there two may first = record { there = there; sort = w; second = v; over = p; two = two; first = first; may = may }

pub first_in : (A : Automaton) (f : FoundView) (n p : ℕ) (x : Place) (m : Tok) (w : Sort) (sums : List ℕ) → IsFound A f → FirstsIn f p w m sums
    → ((i : ℕ) → Contains sums i → SecondAt f n x m i) → FirstIn A f n x p w m
first_in A f n p x m w sums found firsts each = record {
  places = firsts.places;
  second = λ t s j may sum ws.
      let r = firsts.sums t s may sum in
      let l : HasListAt f p r.0 s = r.1.1 in
      let is : IsSum A l.place s l.behind = sum_of A f r.0 l.place s l.behind found l.sum in
      let same : l.behind ≡ j = same_Some l.behind j (sym is.walks ∙ (ap (λ q. walk A q s) l.state ∙ ws)) in
      subst (SecondIn f n x m s) same ((each r.0 r.1.0).each l.place s l.behind l.sum);
}
