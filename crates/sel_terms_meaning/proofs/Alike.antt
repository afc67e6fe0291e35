-- Effects of one normal form.
use Rattle.std.proofs.Common.{◌≡◌, ◌↔◌, ℕ, ◌==◌, List, [], ◌∷◌, map, Bool, true, refl, sym, ap, ◌∙◌, subst}
use Rattle.std.specs.Prelude.{◌||◌}
use Rattle.sel_terms.specs.term_core.specs.declared.facts.Fact.{Fact}
use Rattle.sel_terms.specs.term_core.specs.Facts.{same_as}
use Rattle.sel_terms.specs.term_core.specs.Shape.{Shape}
use Rattle.sel_terms.specs.term_core.specs.Norm.{norm}
use Rattle.sel_terms.specs.term_core.specs.Normal.{AreSettled}
use Rattle.sel_terms.specs.term_core.specs.Value.{State, value, Respects}
use Rattle.sel_terms.specs.term_core.proofs.Keeping.{norm_keeps}
use Rattle.term_core_accesses.specs.Accesses.{Access, divides_well, accesses, IsOneOf, Safe}
use Rattle.term_core_accesses.specs.Keeping.{IsNarrow, KeepsAccesses}
use Rattle.term_core_accesses.proofs.Keeping.{norm_keeps_accesses}
use Rattle.term_core_accesses.proofs.Safety.{norm_is_safe}
use Rattle.sel_terms.specs.Effects.{ActShape, EffectShape, Value, Number, Address, PlaceHome, PlaceAt, StoreHome, StoreAt, Branch, Push, Call, Save, Return, Jump, norm_act}
use Rattle.sel_terms_meaning.specs.Meaning as meaning
use Rattle.sel_terms_meaning.specs.Meaning.{ActMeaning, EffectMeaning, act_meaning, effect_meaning, divides_by_zero, terms_of_act}
use Rattle.sel_terms_meaning.specs.Alike.{AllNarrow, IsNarrowAct, TermsAlike, AllAlike, ActsAlike, ShownIsAlike, SameReads, NormKeepsEffects}

module _ (facts : List Fact) (known : ℕ → Bool) (area : List ℕ) (m : State) (respects : Respects facts m) (alike : (i : ℕ) → known (same_as facts i) ≡ known i) where
  abbrev T : Shape → Shape → Type 0
  T s t = TermsAlike facts known area m s t

  kept : (every : Bool) (s : Shape) → IsNarrow s → KeepsAccesses facts every m s
  kept every s n = norm_keeps_accesses facts every m s respects n

  abbrev IsSafe : Bool → Shape → Type 0
  IsSafe every s = Safe every (λ i. known i ≡ true) area m s

  safe : (every : Bool) (s : Shape) → IsNarrow s → IsSafe every (norm facts s) ↔ IsSafe every s
  safe every s n = norm_is_safe facts every known area m s respects alike n

  terms : (s t : Shape) → IsNarrow s → IsNarrow t → norm facts s ≡ norm facts t → T s t
  terms s t ns nt e = record {
    worth = sym (norm_keeps facts m s respects) ∙ ap (value m) e ∙ norm_keeps facts m t respects;
    divides = sym (kept true s ns).divides ∙ ap (divides_well m) e ∙ (kept true t nt).divides;
    reads = λ every x. (
      (λ h. ((kept every t nt).same x).0 (subst (λ (u : Shape). IsOneOf x (accesses every m u)) e (((kept every s ns).same x).1 h))),
      (λ h. ((kept every s ns).same x).0 (subst (λ (u : Shape). IsOneOf x (accesses every m u)) (sym e) (((kept every t nt).same x).1 h))),
    );
    safe = λ every. (
      (λ h. (safe every t nt).0 (subst (IsSafe every) e ((safe every s ns).1 h))),
      (λ h. (safe every s ns).0 (subst (IsSafe every) (sym e) ((safe every t nt).1 h))),
    );
  }

  lists : (ss ts : List Shape) → AllNarrow ss → AllNarrow ts → map (norm facts) ss ≡ map (norm facts) ts → AllAlike facts known area m ss ts
  lists [] [] p q e = tt
  lists [] (t ∷ ts) p q e = absurd (cc)
  lists (s ∷ ss) [] p q e = absurd (cc)
  lists (s ∷ ss) (t ∷ ts) p q e = (let h : norm facts s ≡ norm facts t = cc in let k : map (norm facts) ss ≡ map (norm facts) ts = cc in (terms s t p.0 q.0 h, lists ss ts p.1 q.1 k))

  zeros : (ss ts : List Shape) → AllAlike facts known area m ss ts → divides_by_zero m ss ≡ divides_by_zero m ts
  zeros [] [] h = refl
  zeros [] (t ∷ ts) h = absurd h
  zeros (s ∷ ss) [] h = absurd h
  zeros (s ∷ ss) (t ∷ ts) h = ap (λ (n : ℕ). (n == 0) || divides_by_zero m ss) h.0.worth ∙ ap (λ (b : Bool). (value m t == 0) || b) (zeros ss ts h.1)

  acts : (a b : ActShape) → IsNarrowAct a → IsNarrowAct b → norm_act facts a ≡ norm_act facts b → ActsAlike facts known area m a b
  acts (Value s) (Value t) p q e = terms s t p q (cc)
  acts (Number s) (Number t) p q e = terms s t p q (cc)
  acts (Address s) (Address t) p q e = terms s t p q (cc)
  acts (PlaceHome z i) (PlaceHome y j) p q e = (cc, cc)
  acts (PlaceAt z a) (PlaceAt y b) p q e = (cc, terms a b p q (cc))
  acts (StoreHome z i s) (StoreHome y j t) p q e = (cc, cc, terms s t p q (cc))
  acts (StoreAt z a s) (StoreAt y b t) p q e = (cc, terms a b p.0 q.0 (cc), terms s t p.1 q.1 (cc))
  acts (Branch i a s) (Branch j b t) p q e = (cc, terms a b p.0 q.0 (cc), terms s t p.1 q.1 (cc))
  acts (Push s) (Push t) p q e = terms s t p q (cc)
  acts Call Call p q e = tt
  acts (Save i) (Save j) p q e = cc
  acts (Return s) (Return t) p q e = terms s t p q (cc)
  acts Jump Jump p q e = tt
  acts a b p q e = absurd (cc)

-- terms alike have one value
means : (facts : List Fact) (known : ℕ → Bool) (area : List ℕ) (m : State) (a b : ActShape) → ActsAlike facts known area m a b → act_meaning facts m a ≡ act_meaning facts m b
means facts known area m (Value s) (Value t) h = ap meaning.Value h.worth
means facts known area m (Number s) (Number t) h = ap meaning.Number h.worth
means facts known area m (Address s) (Address t) h = ap meaning.Address h.worth
means facts known area m (PlaceHome z i) (PlaceHome y j) h = λ k. meaning.PlaceHome (h.0 k) (h.1 k)
means facts known area m (PlaceAt z a) (PlaceAt y b) h = λ k. meaning.PlaceAt (h.0 k) (h.1.worth k)
means facts known area m (StoreHome z i s) (StoreHome y j t) h = λ k. meaning.StoreHome (h.0 k) (h.1 k) (h.2.worth k)
means facts known area m (StoreAt z a s) (StoreAt y b t) h = λ k. meaning.StoreAt (h.0 k) (h.1.worth k) (h.2.worth k)
means facts known area m (Branch i a s) (Branch j b t) h = λ k. meaning.Branch (h.0 k) (h.1.worth k) (h.2.worth k)
means facts known area m (Push s) (Push t) h = ap meaning.Push h.worth
means facts known area m Call Call h = refl
means facts known area m (Save i) (Save j) h = ap meaning.Save h
means facts known area m (Return s) (Return t) h = ap meaning.Return h.worth
means facts known area m Jump Jump h = refl
means facts known area m a b h = absurd h

numbers : (facts : List Fact) (known : ℕ → Bool) (area : List ℕ) (m : State) (ss ts : List Shape) → AllAlike facts known area m ss ts → map (value m) ss ≡ map (value m) ts
numbers facts known area m [] [] h = refl
numbers facts known area m [] (t ∷ ts) h = absurd h
numbers facts known area m (s ∷ ss) [] h = absurd h
numbers facts known area m (s ∷ ss) (t ∷ ts) h = ap (λ (n : ℕ). n ∷ map (value m) ss) h.0.worth ∙ ap (λ (ns : List ℕ). value m t ∷ ns) (numbers facts known area m ss ts h.1)

pub shown_is_alike : ShownIsAlike
shown_is_alike facts known area m e f respects alike p q same =
    let d = lists facts known area m respects alike e.divisors f.divisors p.1 q.1 (ap (λ (x : EffectShape). x.divisors) same) in
    let a = acts facts known area m respects alike e.act f.act p.0 q.0 (ap (λ (x : EffectShape). x.act) same) in
    let act_same = means facts known area m e.act f.act a in
    let divisors_same = numbers facts known area m e.divisors f.divisors d in
    record {
      act = a;
      divisors = d;
      divides = zeros facts known area m respects alike e.divisors f.divisors d;
      means = λ k. record { act = act_same k; divisors = divisors_same k };
    }

-- ---- an effect and its normal form

module _ (facts : List Fact) (m : State) (settled : AreSettled facts) (respects : Respects facts m) where
  worth : (t : Shape) → value m (norm facts t) ≡ value m t
  worth t = norm_keeps facts m t respects

  reads : (every : Bool) (t : Shape) → IsNarrow t → (x : Access) → IsOneOf x (accesses every m (norm facts t)) ↔ IsOneOf x (accesses every m t)
  reads every t n x = (norm_keeps_accesses facts every m t respects n).same x

  act_kept : (a : ActShape) → act_meaning facts m (norm_act facts a) ≡ act_meaning facts m a
  act_kept (Value t) = ap meaning.Value (worth t)
  act_kept (Number t) = ap meaning.Number (worth t)
  act_kept (Address t) = ap meaning.Address (worth t)
  act_kept (PlaceHome z i) = ap (meaning.PlaceHome z) (settled i)
  act_kept (PlaceAt z a) = ap (meaning.PlaceAt z) (worth a)
  act_kept (StoreHome z i t) = let e = settled i in let f = worth t in λ k. meaning.StoreHome z (e k) (f k)
  act_kept (StoreAt z a t) = let e = worth a in let f = worth t in λ k. meaning.StoreAt z (e k) (f k)
  act_kept (Branch i a b) = let e = worth a in let f = worth b in λ k. meaning.Branch i (e k) (f k)
  act_kept (Push t) = ap meaning.Push (worth t)
  act_kept Call = refl
  act_kept (Save i) = refl
  act_kept (Return t) = ap meaning.Return (worth t)
  act_kept Jump = refl

  divisors_kept : (ts : List Shape) → map (value m) (map (norm facts) ts) ≡ map (value m) ts
  divisors_kept [] = refl
  divisors_kept (t ∷ ts) = let e = worth t in let f = divisors_kept ts in λ k. e k ∷ f k

  act_reads : (every : Bool) (a : ActShape) → IsNarrowAct a → SameReads every m (terms_of_act (norm_act facts a)) (terms_of_act a)
  act_reads every (Value t) n = (reads every t n, tt)
  act_reads every (Number t) n = (reads every t n, tt)
  act_reads every (Address t) n = (reads every t n, tt)
  act_reads every (PlaceHome z i) n = tt
  act_reads every (PlaceAt z a) n = (reads every a n, tt)
  act_reads every (StoreHome z i t) n = (reads every t n, tt)
  act_reads every (StoreAt z a t) n = (reads every a n.0, (reads every t n.1, tt))
  act_reads every (Branch i a b) n = (reads every a n.0, (reads every b n.1, tt))
  act_reads every (Push t) n = (reads every t n, tt)
  act_reads every Call n = tt
  act_reads every (Save i) n = tt
  act_reads every (Return t) n = (reads every t n, tt)
  act_reads every Jump n = tt

  divisors_read : (every : Bool) (ts : List Shape) → AllNarrow ts → SameReads every m (map (norm facts) ts) ts
  divisors_read every [] n = tt
  divisors_read every (t ∷ ts) n = (reads every t n.0, divisors_read every ts n.1)

pub norm_keeps_effects : NormKeepsEffects
norm_keeps_effects facts m e settled respects narrow =
    let act_same = act_kept facts m settled respects e.act in
    let divisors_same = divisors_kept facts m settled respects e.divisors in
    record {
      means = λ k. record { act = act_same k; divisors = divisors_same k };
      act = λ every. act_reads facts m settled respects every e.act narrow.0;
      divisors = λ every. divisors_read facts m settled respects every e.divisors narrow.1;
    }
