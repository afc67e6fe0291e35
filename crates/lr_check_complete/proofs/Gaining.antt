-- The sums of the first of two kids as they are gathered.
use Rattle.std.proofs.Common.{◌≡◌, ◌⊎◌, ℕ, ◌+◌, ◌≤◌, ◌<◌, List, [], ◌∷◌, ◌++◌, Contains, length, get_or, refl, sym, ◌∙◌, subst, inl, inr, ⊎_elim, arith}
use Rattle.std.specs.Prelude.{slice_index_or}
use Rattle.std.proofs.lemmas.List.Elements.{Contains-append_left, Contains-append_right}
use Rattle.std.proofs.lemmas.Option.{same_Some}
use Rattle.lr_tables.proofs.Members.{In, In-cases, In-Contains, Contains-In}
use Rattle.tree_core.specs.declared.token.Tok.{Tok}
use Rattle.tree_core.specs.declared.token.Sort.{Sort}
use Rattle.md_reader.specs.declared.types.Sym.{Sym}
use Rattle.lr_check_found.specs.lr_check_sets.specs.Trees.{May}
use Rattle.lr_check_found.specs.lr_check_sets.specs.Automaton.{Automaton}
use Rattle.lr_check_found.specs.declared.places.Place.{Place}
use Rattle.lr_check_found.specs.declared.places.Origin.TheVariants as origin
use Rattle.lr_check_found.specs.Lists.{IsList}
use Rattle.lr_check_found.specs.Found.{FoundView, place_of, IsPlaceAt, SumAt}
use Rattle.lr_check_found.specs.Items.{HasTwo, Begun}
use Rattle.lr_check_found.specs.Sound.{IsFound}
use Rattle.lr_check_found.specs.Adding.{list_number}
use Rattle.lr_check_found.proofs.Below.{Below, none_below, one_more_at, of_all}
use Rattle.lr_check_found.proofs.Added.{list_is}
use Rattle.lr_check_complete.specs.Kids.{FirstSum, FirstsIn, HasListAt}
use Rattle.lr_check_complete.specs.Firsts.{HasListOf, AddsList, AddsLists, FirstKid, FirstAt, SumOf}
use Rattle.lr_check_complete.proofs.Kids_found.{HeldSum, held_sum, sum_held}

-- ---- one list

pub list_there : (f : FoundView) (i l : ℕ) (numbers : List ℕ) → l ≡ list_number f i → (n : ℕ) × (Contains numbers n × (list_number f n ≡ l)) → AddsList f i numbers numbers
list_there f i l numbers is h = record { kept = λ n c. c; only = λ n c. inl c; there = record { number = h.0; there = h.1.0; same = h.1.1 ∙ is } }

pub list_more : (f : FoundView) (i : ℕ) (before after : List ℕ) → after ≡ before ++ i ∷ [] → AddsList f i before after
list_more f i before after e = subst (AddsList f i before) (sym e) (record {
  kept = λ n c. Contains-append_left before (i ∷ []) n c;
  only = λ n c. ⊎_elim (λ m. inl (In-Contains n before m)) (λ m. inr (last n m)) (In-cases n before (i ∷ []) (Contains-In n (before ++ i ∷ []) c));
  there = record { number = i; there = Contains-append_right before (i ∷ []) i (0, omega arith, refl); same = refl };
})
  where
    last : (n : ℕ) → In n (i ∷ []) → n ≡ i
    last n (inl e) = sym e
    last n (inr m) = absurd m

has_more_lists : (f : FoundView) (before after : List ℕ) (i : ℕ) → ((n : ℕ) → Contains before n → Contains after n) → HasListOf f before i → HasListOf f after i
has_more_lists f before after i kept h = record { number = h.number; there = kept h.number h.there; same = h.same }

-- ---- lists

pub record Adding (f : FoundView) (sums : List ℕ) (n : ℕ) (before after : List ℕ) : Type 0 where
  pub kept : (i : ℕ) → Contains before i → Contains after i
  pub only : (i : ℕ) → Contains after i → Contains before i ⊎ Contains sums i
  pub there : Below sums n (λ i. HasListOf f after i)

pub adding_none : (f : FoundView) (sums numbers : List ℕ) → Adding f sums 0 numbers numbers
adding_none f sums numbers = record { kept = λ i c. c; only = λ i c. inl c; there = none_below sums (λ i. HasListOf f numbers i) }

pub adding_turn : (f : FoundView) (sums : List ℕ) (n d : ℕ) (before after more : List ℕ) → Adding f sums n before after → n < length sums → Contains sums (get_or sums n d) →
    AddsList f (get_or sums n d) after more → Adding f sums (n + 1) before more
adding_turn f sums n d before after more a lt m h = record {
  kept = λ i c. h.kept i (a.kept i c);
  only = λ i c. ⊎_elim (λ k. a.only i k) (λ e. inr (subst (Contains sums) (sym e) m)) (h.only i c);
  there = one_more_at sums n (λ i. HasListOf f more i) d (record { each = λ i x less e. has_more_lists f after more x h.kept (a.there.each i x less e) }) lt h.there;
}

pub adding_all : (f : FoundView) (sums : List ℕ) (n : ℕ) (before after : List ℕ) → Adding f sums n before after → length sums ≤ n → AddsLists f sums before after
adding_all f sums n before after a le = record { kept = a.kept; only = a.only; there = of_all sums n (λ i. HasListOf f after i) a.there le }

-- ---- the sums of a place

pub first_begun : (A : Automaton) (f : FoundView) (n : ℕ) (x y : Place) → FirstKid A f n x y → Begun A f y (origin.First n)
first_begun A f n x y k = Begun.first y.behind k.there k.two k.fits k.may

-- the list of a sum is also another's
list_of_both : (f : FoundView) (i n j : ℕ) (y : Place) (s : List Sym) → list_number f n ≡ list_number f i → SumAt f i y s j → IsList f.lists (list_number f n) s
list_of_both f i n j y s same sum = subst (λ l. IsList f.lists l s) (sym same) (list_is f i y s j sum)

same_list : (f : FoundView) (p n : ℕ) (z : Place) (h : SumOf f z n) (s : List Sym) → z.state ≡ p → IsList f.lists (list_number f n) s → HasListAt f p n s
same_list f p n z h s state at =
    let own : IsList f.lists (list_number f n) h.list = list_is f n z h.list h.behind h.sum in
    let e : h.list ≡ s = same_Some h.list s (sym own ∙ at) in
    record { place = z; behind = h.behind; sum = subst (λ l. SumAt f n z l h.behind) e h.sum; state = state }

pub first_at : (A : Automaton) (f : FoundView) (m : ℕ) (y : Place) (sums before after : List ℕ) → IsFound A f → IsPlaceAt f m y → sums ≡ slice_index_or f.sums m [] →
    AddsLists f sums before after → FirstAt f y after
first_at A f m y sums before after found at same h = record {
  place = record { number = m; at = at };
  sums = λ s sum.
      let c : Contains sums sum.number = subst (λ l. Contains l sum.number) (sym same) (sum_held A f m sum.number sum.behind y s found at sum.sum) in
      let l = h.there sum.number c in
      (l.number, (l.there, list_of_both f sum.number l.number sum.behind y s l.same sum.sum));
}

pub sums_only : (A : Automaton) (f : FoundView) (m : ℕ) (y : Place) (w : Sort) (sums before after : List ℕ) → IsFound A f → IsPlaceAt f m y → sums ≡ slice_index_or f.sums m [] → May y.token w →
    AddsLists f sums before after → (i : ℕ) → Contains after i → Contains before i ⊎ (May y.token w × SumOf f y i)
sums_only A f m y w sums before after found at same may h i c =
    ⊎_elim (λ k. inl k) (λ k. inr (may, held (held_sum A f m i y found at (subst (λ l. Contains l i) same k)))) (h.only i c)
  where
    held : HeldSum f i y → SumOf f y i
    held s = record { list = s.list; behind = s.behind; sum = s.sum }

-- ---- the first kid

pub first_kid : (A : Automaton) (f : FoundView) (n p : ℕ) (x : Place) (t m : Tok) (w v : Sort) → IsPlaceAt f n x → HasTwo A x w v p → May m v → May t w → FirstKid A f n x (place_of p t m)
first_kid A f n p x t m w v there two may fit =
    record { there = there; sort = w; second = v; over = p; two = two; fits = record { state = refl; may = fit; behind = refl }; may = may }

pub record AreFirstSums (f : FoundView) (p : ℕ) (w : Sort) (m : Tok) (numbers : List ℕ) : Type 0 where
  pub each : (i : ℕ) → Contains numbers i → FirstSum f p w m i

pub no_sums : (f : FoundView) (p : ℕ) (w : Sort) (m : Tok) (numbers : List ℕ) → numbers ≡ [] → AreFirstSums f p w m numbers
no_sums f p w m numbers e = subst (AreFirstSums f p w m) (sym e) (record { each = λ i c. absurd (let lt = c.1 in omega (arith, lt)) })

pub more_sums : (f : FoundView) (p : ℕ) (w : Sort) (m t : Tok) (before after : List ℕ) → AreFirstSums f p w m before →
    ((i : ℕ) → Contains after i → Contains before i ⊎ (May t w × SumOf f (place_of p t m) i)) → AreFirstSums f p w m after
more_sums f p w m t before after a only = record { each = λ i c. ⊎_elim (λ k. a.each i k) (λ k. new i k.0 k.1) (only i c) }
  where
    new : (i : ℕ) → May t w → SumOf f (place_of p t m) i → FirstSum f p w m i
    new i may s = record { place = place_of p t m; list = s.list; behind = s.behind; sum = s.sum; fits = record { state = refl; may = may; behind = refl } }

pub first_kept : (f : FoundView) (y : Place) (before after : List ℕ) → ((i : ℕ) → Contains before i → Contains after i) → FirstAt f y before → FirstAt f y after
first_kept f y before after kept h = record { place = h.place; sums = λ s sum. let r = h.sums s sum in (r.0, (kept r.0 r.1.0, r.1.1)) }

pub firsts_kept : (f : FoundView) (p : ℕ) (w : Sort) (m : Tok) (tokens : List Tok) (n : ℕ) (before after : List ℕ) → ((i : ℕ) → Contains before i → Contains after i) →
    Below tokens n (λ t. May t w → FirstAt f (place_of p t m) before) → Below tokens n (λ t. May t w → FirstAt f (place_of p t m) after)
firsts_kept f p w m tokens n before after kept b = record { each = λ i t lt e may. first_kept f (place_of p t m) before after kept (b.each i t lt e may) }

pub firsts_in : (f : FoundView) (p : ℕ) (w : Sort) (m : Tok) (numbers : List ℕ) → AreFirstSums f p w m numbers → ((t : Tok) → May t w → FirstAt f (place_of p t m) numbers) →
    FirstsIn f p w m numbers
firsts_in f p w m numbers are each = record {
  places = λ t may. (each t may).place;
  sums = λ t s may sum.
      let r = (each t may).sums s sum in
      let z = are.each r.0 r.1.0 in
      (r.0, (r.1.0, same_list f p r.0 z.place (record { list = z.list; behind = z.behind; sum = z.sum }) s z.fits.state r.1.1));
}
