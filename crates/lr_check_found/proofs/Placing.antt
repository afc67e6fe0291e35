-- One place more.
use Rattle.std.proofs.Common.{◌≡◌, ◌⊎◌, ℕ, zero, suc, ◌+◌, ◌-◌, ◌≤◌, ◌<◌, List, [], ◌∷◌, ◌++◌, Some, None, Contains, length, get_or, slice_get, refl, sym, ap, ◌∙◌, subst, inl}
use Rattle.std.proofs.Common.{inr, ⊎_elim, arith, length-append}
use Rattle.std.specs.Prelude.{slice_index_or, count_by}
use Rattle.std.proofs.lemmas.Bool.{cases_lt}
use Rattle.std.proofs.lemmas.List.{get_or_past, get_or-append_right, get_or_append_left}
use Rattle.std.proofs.lemmas.Option.{slice_get_within}
use Rattle.gg_base.proofs.Facts.{slice_left, slice_cases}
use Rattle.lr_check_sets.specs.Automaton.{Automaton}
use Rattle.lr_check_found.specs.declared.places.Place.{Place}
use Rattle.lr_check_found.specs.declared.places.Origin.{Origin}
use Rattle.lr_check_found.specs.declared.settlings.Settling.{Settling}
use Rattle.lr_check_found.specs.Lists.{ListsView, AreLists}
use Rattle.lr_check_found.specs.Found.{FoundView, slot, IsPlaceAt, IsSettlingAt, Grows}
use Rattle.lr_check_found.specs.Items.{Begun, root, only, first, second, IsEarlier}
use Rattle.lr_check_found.specs.Sound.{IsSoundPlace, IsSoundSettling, IsFound}
use Rattle.lr_check_found.specs.Adding.{IsPlaced}
use Rattle.lr_check_found.proofs.Reading.{slice_at_last}
use Rattle.lr_check_found.proofs.Slots.{one_slot}
use Rattle.lr_check_found.proofs.Growing.{begun_grows, made_grows}
use Rattle.lr_check_found.proofs.Deriving.{place_of_begun}

at_none : (k : ℕ) → get_or {A = List ℕ} ([] ∷ []) k [] ≡ []
at_none zero = refl
at_none (suc k) = refl

-- of the new place nothing is held
module _ (ss rs : List (List ℕ)) (same : rs ≡ ss ++ [] ∷ []) (n i : ℕ) where
  left : n < length ss → slice_index_or (ss ++ [] ∷ []) n [] ≡ slice_index_or ss n []
  left lt = get_or_append_left ss ([] ∷ []) [] n lt

  past : length ss ≤ n → slice_index_or (ss ++ [] ∷ []) n [] ≡ []
  past ge = get_or-append_right ss ([] ∷ []) (length ss) n [] refl ge ∙ at_none (n - length ss)

  none : Contains [] i → ⊥
  none c = let lt = c.1 in omega (arith, lt)

  held_before : Contains (slice_index_or rs n []) i → Contains (slice_index_or ss n []) i
  held_before c = ⊎_elim
      (λ lt. subst (λ l. Contains l i) (ap (λ l. slice_index_or l n []) same ∙ left lt) c)
      (λ ge. absurd (none (subst (λ l. Contains l i) (ap (λ l. slice_index_or l n []) same ∙ past ge) c)))
      (cases_lt n (length ss))

  both : (n < length ss) ⊎ (length ss ≤ n) → slice_index_or (ss ++ [] ∷ []) n [] ≡ slice_index_or ss n []
  both (inl lt) = left lt
  both (inr ge) = past ge ∙ sym (get_or_past ss n [] ge)

  held_behind : Contains (slice_index_or ss n []) i → Contains (slice_index_or rs n []) i
  held_behind c = subst (λ l. Contains l i) (sym (ap (λ l. slice_index_or l n []) same ∙ both (cases_lt n (length ss)))) c

-- a settling where all else stays, or grows
pub settling_grows : (A : Automaton) (f g : FoundView) (i : ℕ) (e : Settling) → Grows f g → IsSoundSettling A f i e → IsSoundSettling A g i e
settling_grows A f g i e more h = record {
  place = h.place;
  list = h.list;
  there = more.places e.place h.place h.there;
  symbols = more.lists e.list h.list h.symbols;
  behind = h.behind;
  settles = h.settles;
  made = made_grows A f g more e.place h.place e.how h.list h.made;
  later = h.later;
  sum = h.sum;
  sums = h.sums;
}

begun_earlier : (A : Automaton) (f : FoundView) (x : Place) (o : Origin) → Begun A f x o → IsEarlier (length f.places) o
begun_earlier A f x _ (root h) = tt
begun_earlier A f x _ (only {i = i} {y = y} there h k) = slice_get_within f.places i y there
begun_earlier A f x _ (first {i = i} {y = y} m there h k may) = slice_get_within f.places i y there
begun_earlier A f x _ (second {i = i} {y = y} there h sum fit k) = slice_get_within f.places i y there

module _ (A : Automaton) (f g : FoundView) (x : Place) (o : Origin) (found : IsFound A f) (placed : IsPlaced f g x o) (begun : Begun A f x o) (absent : (n : ℕ) → IsPlaceAt f n x → ⊥) where
  pub placed_grows : Grows f g
  placed_grows = record {
    lists = λ n s e. ap (λ (l : ListsView). slice_get l.all n) placed.lists ∙ e;
    places = λ n y e. ap (λ l. slice_get l n) placed.places ∙ slice_left f.places (x ∷ []) n y e;
    settlings = λ i e h. ap (λ l. slice_get l i) placed.settlings ∙ h;
  }

  -- a place is an old one, or the new one
  old_or_new : (n : ℕ) (y : Place) → IsPlaceAt g n y → IsPlaceAt f n y ⊎ ((n ≡ length f.places) × (y ≡ x))
  old_or_new n y e = slice_cases f.places x n y (ap (λ l. slice_get l n) (sym placed.places) ∙ e)

  numbered : (n : ℕ) (y : Place) → IsPlaceAt g n y → slice_index_or g.numbers (slot y) None ≡ Some n
  numbered n y e = ⊎_elim
      (λ h. placed.others (slot y) (λ same. absent n (subst (IsPlaceAt f n) (one_slot y x same) h)) ∙ found.numbered n y h)
      (λ h. ap (λ (z : Place). slice_index_or g.numbers (slot z) None) h.1 ∙ (placed.number ∙ ap Some (sym h.0)))
      (old_or_new n y e)

  old_place : (n : ℕ) (y : Place) → IsSoundPlace A f n y → IsSoundPlace A g n y
  old_place n y h = record {
    is_place = h.is_place;
    origin = h.origin;
    there = ap (λ l. slice_get l n) placed.origins ∙ slice_left f.origins (o ∷ []) n h.origin h.there;
    begun = begun_grows A f g placed_grows y h.origin h.begun;
    earlier = h.earlier;
  }

  new_place : IsSoundPlace A g (length f.places) x
  new_place = record {
    is_place = place_of_begun A f x o found begun;
    origin = o;
    there = slice_at_last f.origins g.origins o (length f.places) placed.origins (sym found.origins);
    begun = begun_grows A f g placed_grows x o begun;
    earlier = begun_earlier A f x o begun;
  }

  same_settling : (i : ℕ) (e : Settling) → IsSettlingAt g i e → IsSettlingAt f i e
  same_settling i e h = ap (λ l. slice_get l i) (sym placed.settlings) ∙ h

  pub placed_found : IsFound A g
  placed_found = record {
    lists = subst AreLists (sym placed.lists) found.lists;
    numbered = numbered;
    places = λ n y e. ⊎_elim
        (λ h. old_place n y (found.places n y h))
        (λ h. subst (λ k. IsSoundPlace A g k y) (sym h.0) (subst (IsSoundPlace A g (length f.places)) (sym h.1) new_place))
        (old_or_new n y e);
    origins = ap length placed.origins ∙ (length-append f.origins (o ∷ []) ∙ (ap (λ n. n + 1) found.origins ∙ sym (ap length placed.places ∙ length-append f.places (x ∷ []))));
    apart = λ i j e d h k. found.apart i j e d (same_settling i e h) (same_settling j d k);
    settlings = λ i e h. settling_grows A f g i e placed_grows (found.settlings i e (same_settling i e h));
    many = ap length placed.sums ∙ (length-append f.sums ([] ∷ []) ∙ (ap (λ n. n + 1) found.many ∙ sym (ap length placed.places ∙ length-append f.places (x ∷ []))));
    sums = λ n i c. let h = found.sums n i (held_before f.sums g.sums placed.sums n i c) in
        record { entry = h.entry; there = ap (λ l. slice_get l i) placed.settlings ∙ h.there; place = h.place; is_sum = h.is_sum };
    all_sums = λ i e h is. held_behind f.sums g.sums placed.sums e.place i (found.all_sums i e (same_settling i e h) is);
    many_listed = ap length placed.listed ∙ (length-append f.listed ([] ∷ []) ∙ (ap (λ n. n + 1) found.many_listed ∙ sym (ap length placed.places ∙ length-append f.places (x ∷ []))));
    listed = λ n l c. let h = found.listed n l (held_before f.listed g.listed placed.listed n l c) in
        record { number = h.number; entry = h.entry; there = ap (λ k. slice_get k h.number) placed.settlings ∙ h.there; place = h.place; list = h.list };
    all_listed = λ i e h. held_behind f.listed g.listed placed.listed e.place e.list (found.all_listed i e (same_settling i e h));
    tuples = placed.tuples ∙ (found.tuples ∙ ap (count_by (λ (e : Settling). e.is_sum)) (sym placed.settlings));
  }
