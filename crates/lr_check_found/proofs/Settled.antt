-- One settling more.
use Rattle.std.proofs.Common.{◌≡◌, ◌⊎◌, ℕ, ◌+◌, ◌<◌, List, [], ◌∷◌, ◌++◌, Some, None, Contains, Bool, true, false, cond, length, slice_get, refl, sym, ap, ◌∙◌, subst, inl}
use Rattle.std.proofs.Common.{inr, ⊎_elim, arith, true≢false}
use Rattle.std.specs.Prelude.{slice_index_or, slice_set, count_by}
use Rattle.std.proofs.lemmas.Bool.{cases_eq}
use Rattle.std.proofs.lemmas.List.{get_or-set_same, get_or-set_other, length-set}
use Rattle.std.proofs.lemmas.List.Elements.{Contains-append_left, Contains-append_right}
use Rattle.std.proofs.lemmas.List.Sums.{sum_by-cons, sum_by-append}
use Rattle.std.proofs.lemmas.Option.{slice_get_within}
use Rattle.gg_base.proofs.Facts.{slice_left, slice_cases}
use Rattle.lr_tables.proofs.Members.{In, In-cases, In-Contains, Contains-In}
use Rattle.md_reader.specs.declared.types.Sym.{Sym}
use Rattle.lr_check_sets.specs.Automaton.{Automaton, Candidate, shift, reduce, walk, Free, Outside}
use Rattle.lr_check_sets.specs.Sums as sets
use Rattle.lr_check_found.specs.declared.places.Place.{Place}
use Rattle.lr_check_found.specs.declared.settlings.How.{How}
use Rattle.lr_check_found.specs.declared.settlings.Settling.{Settling}
use Rattle.lr_check_found.specs.Lists.{ListsView, IsList, AreLists, KeepsLists}
use Rattle.lr_check_found.specs.Found.{FoundView, slot, IsPlaceAt, IsSettlingAt, Grows}
use Rattle.lr_check_found.specs.Items.{Made, leaf, one, two, made_by_reduction, IsLater}
use Rattle.lr_check_found.specs.Sound.{IsSoundPlace, IsSoundSettling, IsHeldSum, IsListed, IsFound}
use Rattle.lr_check_found.specs.Adding.{with_lists, IsRelisted, with_sum, held, with_listed, with_entry, settled, IsWider, HasWayOut}
use Rattle.lr_check_found.proofs.Reading.{slice_at_last}
use Rattle.lr_check_found.proofs.Growing.{begun_grows, made_grows}
use Rattle.lr_check_found.proofs.Deriving.{settled_of_made}
use Rattle.lr_check_found.proofs.Placing.{settling_grows}

-- ---- other lists

relisted_grows : (f : FoundView) (l : ListsView) → KeepsLists f.lists l → Grows f (with_lists f l)
relisted_grows f l kept = record { lists = kept.kept; places = λ n x e. e; settlings = λ i e h. h }

place_grows : (A : Automaton) (f g : FoundView) (n : ℕ) (x : Place) → Grows f g → g.origins ≡ f.origins → IsSoundPlace A f n x → IsSoundPlace A g n x
place_grows A f g n x more same h = record {
  is_place = h.is_place;
  origin = h.origin;
  there = ap (λ l. slice_get l n) same ∙ h.there;
  begun = begun_grows A f g more x h.origin h.begun;
  earlier = h.earlier;
}

relisted_at : (A : Automaton) (f : FoundView) (l : ListsView) → IsFound A f → AreLists l → KeepsLists f.lists l → IsFound A (with_lists f l)
relisted_at A f l found lists kept = record {
  lists = lists;
  numbered = found.numbered;
  places = λ n x e. place_grows A f (with_lists f l) n x (relisted_grows f l kept) refl (found.places n x e);
  origins = found.origins;
  apart = found.apart;
  settlings = λ i e h. settling_grows A f (with_lists f l) i e (relisted_grows f l kept) (found.settlings i e h);
  many = found.many;
  sums = λ n i c. let h = found.sums n i c in record { entry = h.entry; there = h.there; place = h.place; is_sum = h.is_sum };
  all_sums = found.all_sums;
  many_listed = found.many_listed;
  listed = λ n k c. let h = found.listed n k c in record { number = h.number; entry = h.entry; there = h.there; place = h.place; list = h.list };
  all_listed = found.all_listed;
  tuples = found.tuples;
}

pub relisted_found : (A : Automaton) (f g : FoundView) → IsFound A f → IsRelisted f g → IsFound A g
relisted_found A f g found r = subst (IsFound A) (sym r.same) (relisted_at A f g.lists found r.lists r.kept)

pub relisted_more : (f g : FoundView) → IsRelisted f g → Grows f g
relisted_more f g r = subst (Grows f) (sym r.same) (relisted_grows f g.lists r.kept)

-- ---- what is added to the sums

-- the number comes to those of the place
pub record IsMoreListed (before after : List (List ℕ)) (p l : ℕ) : Type 0 where
  pub many : length after ≡ length before
  pub only : (n k : ℕ) → Contains (slice_index_or after n []) k → Contains (slice_index_or before n []) k ⊎ ((n ≡ p) × (k ≡ l))
  pub back : (n k : ℕ) → Contains (slice_index_or before n []) k → Contains (slice_index_or after n []) k
  pub new : Contains (slice_index_or after p []) l

pub record IsMore (f g : FoundView) (e : Settling) : Type 0 where
  pub lists : g.lists ≡ f.lists
  pub numbers : g.numbers ≡ f.numbers
  pub places : g.places ≡ f.places
  pub origins : g.origins ≡ f.origins
  pub listed : IsMoreListed f.listed g.listed e.place e.list
  pub settlings : g.settlings ≡ f.settlings ++ e ∷ []
  pub many : length g.sums ≡ length f.sums
  pub held : (n i : ℕ) → Contains (slice_index_or g.sums n []) i → Contains (slice_index_or f.sums n []) i ⊎ ((n ≡ e.place) × (i ≡ length f.settlings) × (e.is_sum ≡ true))
  pub back : (n i : ℕ) → Contains (slice_index_or f.sums n []) i → Contains (slice_index_or g.sums n []) i
  pub new : e.is_sum ≡ true → Contains (slice_index_or g.sums e.place []) (length f.settlings)
  pub tuples : g.tuples ≡ f.tuples + cond e.is_sum 1 0

only_one : (xs : List ℕ) (x i : ℕ) → Contains (xs ++ x ∷ []) i → Contains xs i ⊎ (i ≡ x)
only_one xs x i c = ⊎_elim (λ h. inl (In-Contains i xs h)) (λ h. last h) (In-cases i xs (x ∷ []) (Contains-In i (xs ++ x ∷ []) c))
  where
    last : In i (x ∷ []) → Contains xs i ⊎ (i ≡ x)
    last (inl e) = inr (sym e)
    last (inr n) = absurd n

more_listed : (ls : List (List ℕ)) (p l : ℕ) → p < length ls → IsMoreListed ls (slice_set ls p (slice_index_or ls p [] ++ l ∷ [])) p l
more_listed ls p l lt = record {
  many = length-set ls p (slice_index_or ls p [] ++ l ∷ []);
  only = λ n k c. ⊎_elim
      (λ same. ⊎_elim (λ h. inl (subst (λ j. Contains (slice_index_or ls j []) k) (sym same) h)) (λ h. inr (same, h))
      (only_one (slice_index_or ls p []) l k (subst (λ xs. Contains xs k) (ap (λ j. slice_index_or after j []) same ∙ here) c)))
      (λ other. inl (subst (λ xs. Contains xs k) (there n other) c))
      (cases_eq n p);
  back = λ n k c. ⊎_elim
      (λ same. subst (λ xs. Contains xs k) (sym (ap (λ j. slice_index_or after j []) same ∙ here))
      (Contains-append_left (slice_index_or ls p []) (l ∷ []) k (subst (λ j. Contains (slice_index_or ls j []) k) same c)))
      (λ other. subst (λ xs. Contains xs k) (sym (there n other)) c)
      (cases_eq n p);
  new = subst (λ xs. Contains xs l) (sym here) (Contains-append_right (slice_index_or ls p []) (l ∷ []) l (0, omega arith, refl));
}
  where
    after : List (List ℕ)
    after = slice_set ls p (slice_index_or ls p [] ++ l ∷ [])

    here : slice_index_or after p [] ≡ slice_index_or ls p [] ++ l ∷ []
    here = get_or-set_same ls p (slice_index_or ls p [] ++ l ∷ []) [] lt

    there : (n : ℕ) → (n ≡ p → ⊥) → slice_index_or after n [] ≡ slice_index_or ls n []
    there n other = get_or-set_other ls p n (slice_index_or ls p [] ++ l ∷ []) [] other

-- one settling more
abbrev with_settling : FoundView → Settling → FoundView
with_settling f e = with_entry (with_listed f e.place e.list) e

more_plain : (f : FoundView) (e : Settling) → e.is_sum ≡ false → e.place < length f.listed → IsMore f (with_settling f e) e
more_plain f e not within = record {
  lists = refl;
  numbers = refl;
  places = refl;
  origins = refl;
  listed = more_listed f.listed e.place e.list within;
  settlings = refl;
  many = refl;
  held = λ n i c. inl c;
  back = λ n i c. c;
  new = λ is. absurd (true≢false (sym is ∙ not));
  tuples = let none : f.tuples + cond e.is_sum 1 0 ≡ f.tuples + 0 = ap (λ b. f.tuples + cond b 1 0) not in omega (arith, none);
}

more_sum : (f : FoundView) (e : Settling) → e.is_sum ≡ true → e.place < length f.sums → e.place < length f.listed → IsMore f (with_settling (with_sum f e.place) e) e
more_sum f e is lt within = record {
  lists = refl;
  numbers = refl;
  places = refl;
  origins = refl;
  listed = more_listed f.listed e.place e.list within;
  settlings = refl;
  many = length-set f.sums e.place (slice_index_or f.sums e.place [] ++ length f.settlings ∷ []);
  held = λ n i c. ⊎_elim
      (λ same. ⊎_elim (λ h. inl (subst (λ k. Contains (slice_index_or f.sums k []) i) (sym same) h)) (λ h. inr (same, h, is))
      (only_one (slice_index_or f.sums e.place []) (length f.settlings) i (subst (λ l. Contains l i) (ap (λ k. slice_index_or (with_sum f e.place).sums k []) same ∙ here) c)))
      (λ other. inl (subst (λ l. Contains l i) (there n other) c))
      (cases_eq n e.place);
  back = λ n i c. ⊎_elim
      (λ same. subst (λ l. Contains l i) (sym (ap (λ k. slice_index_or (with_sum f e.place).sums k []) same ∙ here))
      (Contains-append_left (slice_index_or f.sums e.place []) (length f.settlings ∷ []) i (subst (λ k. Contains (slice_index_or f.sums k []) i) same c)))
      (λ other. subst (λ l. Contains l i) (sym (there n other)) c)
      (cases_eq n e.place);
  new = λ h. subst (λ l. Contains l (length f.settlings)) (sym here)
      (Contains-append_right (slice_index_or f.sums e.place []) (length f.settlings ∷ []) (length f.settlings) (0, omega arith, refl));
  tuples = let one : f.tuples + cond e.is_sum 1 0 ≡ f.tuples + 1 = ap (λ b. f.tuples + cond b 1 0) is in omega (arith, one);
}
  where
    here : slice_index_or (with_sum f e.place).sums e.place [] ≡ slice_index_or f.sums e.place [] ++ length f.settlings ∷ []
    here = get_or-set_same f.sums e.place (slice_index_or f.sums e.place [] ++ length f.settlings ∷ []) [] lt

    there : (n : ℕ) → (n ≡ e.place → ⊥) → slice_index_or (with_sum f e.place).sums n [] ≡ slice_index_or f.sums n []
    there n other = get_or-set_other f.sums e.place n (slice_index_or f.sums e.place [] ++ length f.settlings ∷ []) [] other

pub more_settled : (f : FoundView) (e : Settling) → e.place < length f.sums → e.place < length f.listed → IsMore f (settled f e) e
more_settled f e lt within = by e.is_sum refl
  where
    by : (b : Bool) → e.is_sum ≡ b → IsMore f (settled f e) e
    by true is = subst (λ g. IsMore f g e) (ap (λ b. with_entry (held (with_listed f e.place e.list) b e.place) e) (sym is)) (more_sum f e is lt within)
    by false not = subst (λ g. IsMore f g e) (ap (λ b. with_entry (held (with_listed f e.place e.list) b e.place) e) (sym not)) (more_plain f e not within)

-- ---- one settling more

outside_wider : (c : Candidate) (s : List Sym) (n : ℕ) → length s ≡ n → Outside c s → IsWider c n
outside_wider shift s n e o = tt
outside_wider (reduce r) s n e o = omega (arith, e, o)

wider_outside : (c : Candidate) (s : List Sym) (n : ℕ) → length s ≡ n → IsWider c n → Outside c s
wider_outside shift s n e o = tt
wider_outside (reduce r) s n e o = omega (arith, e, o)

made_later : (A : Automaton) (f : FoundView) (n : ℕ) (x : Place) (h : How) (s : List Sym) → Made A f n x h s → IsLater (length f.settlings) h
made_later A f n x _ _ (leaf go kid) = tt
made_later A f n x _ _ (one {i = i} h sum k) = slice_get_within f.settlings i sum.entry sum.there
made_later A f n x _ _ (two {i = i} {k = j} h sum k sum' k') = (slice_get_within f.settlings i sum.entry sum.there, slice_get_within f.settlings j sum'.entry sum'.there)
made_later A f n x _ _ (made_by_reduction {i = i} e r there same list behind free size) = slice_get_within f.settlings i e there

module _ (A : Automaton) (f g : FoundView) (e : Settling) (x : Place) (s : List Sym) (found : IsFound A f) (more : IsMore f g e) (place : IsPlaceAt f e.place x) (list : IsList f.lists e.list s)
    (made : Made A f e.place x e.how s) (behind : e.behind ≡ walk A x.state s) (way : e.is_sum ≡ true → HasWayOut A e.behind x.behind (length s))
    (ways : (p : ℕ) (c : Candidate) → e.behind ≡ Some p → Free (A.candidates p x.behind) c → IsWider c (length s) → e.is_sum ≡ true)
    (absent : (i : ℕ) (d : Settling) → IsSettlingAt f i d → d.place ≡ e.place → d.list ≡ e.list → ⊥) where
  pub more_grows : Grows f g
  more_grows = record {
    lists = λ n l h. ap (λ (v : ListsView). slice_get v.all n) more.lists ∙ h;
    places = λ n y h. ap (λ l. slice_get l n) more.places ∙ h;
    settlings = λ i d h. ap (λ l. slice_get l i) more.settlings ∙ slice_left f.settlings (e ∷ []) i d h;
  }

  old_or_new : (i : ℕ) (d : Settling) → IsSettlingAt g i d → IsSettlingAt f i d ⊎ ((i ≡ length f.settlings) × (d ≡ e))
  old_or_new i d h = slice_cases f.settlings e i d (ap (λ l. slice_get l i) (sym more.settlings) ∙ h)

  settles : sets.Settling A x.state x.token x.behind s
  settles = (settled_of_made A f e.place x e.how s found place made).settles

  is_a_sum : HasWayOut A e.behind x.behind (length s) → sets.Sum A x.state x.token x.behind s
  is_a_sum w = sets.sum w.candidate settles (sym behind ∙ w.at) w.free (wider_outside w.candidate s (length s) refl w.out)

  new_settling : IsSoundSettling A g (length f.settlings) e
  new_settling = record {
    place = x;
    list = s;
    there = more_grows.places e.place x place;
    symbols = more_grows.lists e.list s list;
    behind = behind;
    settles = settles;
    made = made_grows A f g more_grows e.place x e.how s made;
    later = made_later A f e.place x e.how s made;
    sum = λ is. is_a_sum (way is);
    sums = λ p c ws free out. ways p c (behind ∙ ws) free (outside_wider c s (length s) refl out);
  }

  new_at : IsSettlingAt g (length f.settlings) e
  new_at = slice_at_last f.settlings g.settlings e (length f.settlings) more.settlings refl

  old_held : (n i : ℕ) → IsHeldSum f n i → IsHeldSum g n i
  old_held n i h = record { entry = h.entry; there = more_grows.settlings i h.entry h.there; place = h.place; is_sum = h.is_sum }

  old_listed : (n l : ℕ) → IsListed f n l → IsListed g n l
  old_listed n l h = record { number = h.number; entry = h.entry; there = more_grows.settlings h.number h.entry h.there; place = h.place; list = h.list }

  counted : count_by (λ (d : Settling). d.is_sum) (f.settlings ++ e ∷ []) ≡ count_by (λ (d : Settling). d.is_sum) f.settlings + cond e.is_sum 1 0
  counted =
      sum_by-append (λ (d : Settling). cond d.is_sum 1 0) f.settlings (e ∷ []) ∙
      ap (λ n. count_by (λ (d : Settling). d.is_sum) f.settlings + n) (sum_by-cons (λ (d : Settling). cond d.is_sum 1 0) e [] ∙ (let z : cond e.is_sum 1 0 + 0 ≡ cond e.is_sum 1 0 = omega arith in z))

  pub more_found : IsFound A g
  more_found = record {
    lists = subst AreLists (sym more.lists) found.lists;
    numbered = λ n y h. ap (λ l. slice_index_or l (slot y) None) more.numbers ∙ found.numbered n y (ap (λ l. slice_get l n) (sym more.places) ∙ h);
    places = λ n y h. place_grows A f g n y more_grows more.origins (found.places n y (ap (λ l. slice_get l n) (sym more.places) ∙ h));
    origins = ap length more.origins ∙ (found.origins ∙ ap length (sym more.places));
    apart = λ i j c d h k same list. ⊎_elim
        (λ a. ⊎_elim
        (λ b. found.apart i j c d a b same list)
        (λ b. absurd (absent i c a (same ∙ ap (λ (z : Settling). z.place) b.1) (list ∙ ap (λ (z : Settling). z.list) b.1)))
        (old_or_new j d k))
        (λ a. ⊎_elim
        (λ b. absurd (absent j d b (sym same ∙ ap (λ (z : Settling). z.place) a.1) (sym list ∙ ap (λ (z : Settling). z.list) a.1)))
        (λ b. a.0 ∙ sym b.0)
        (old_or_new j d k))
        (old_or_new i c h);
    settlings = λ i d h. ⊎_elim
        (λ a. settling_grows A f g i d more_grows (found.settlings i d a))
        (λ a. subst (λ k. IsSoundSettling A g k d) (sym a.0) (subst (IsSoundSettling A g (length f.settlings)) (sym a.1) new_settling))
        (old_or_new i d h);
    many = more.many ∙ (found.many ∙ ap length (sym more.places));
    sums = λ n i c. ⊎_elim
        (λ h. old_held n i (found.sums n i h))
        (λ h. record { entry = e; there = subst (λ k. IsSettlingAt g k e) (sym h.1) new_at; place = sym h.0; is_sum = h.2 })
        (more.held n i c);
    all_sums = λ i d h is. ⊎_elim
        (λ a. more.back d.place i (found.all_sums i d a is))
        (λ a. subst (λ (z : Settling). Contains (slice_index_or g.sums z.place []) i) (sym a.1)
        (subst (λ k. Contains (slice_index_or g.sums e.place []) k) (sym a.0) (more.new (subst (λ (z : Settling). z.is_sum ≡ true) a.1 is))))
        (old_or_new i d h);
    many_listed = more.listed.many ∙ (found.many_listed ∙ ap length (sym more.places));
    listed = λ n l c. ⊎_elim
        (λ h. old_listed n l (found.listed n l h))
        (λ h. record { number = length f.settlings; entry = e; there = new_at; place = sym h.0; list = sym h.1 })
        (more.listed.only n l c);
    all_listed = λ i d h. ⊎_elim
        (λ a. more.listed.back d.place d.list (found.all_listed i d a))
        (λ a. subst (λ (z : Settling). Contains (slice_index_or g.listed z.place []) z.list) (sym a.1) more.listed.new)
        (old_or_new i d h);
    tuples = more.tuples ∙ (ap (λ n. n + cond e.is_sum 1 0) found.tuples ∙ (sym counted ∙ ap (count_by (λ (d : Settling). d.is_sum)) (sym more.settlings)));
  }
