-- Facts about registers: where pieces begin, and behind calls.
use Rattle.std.proofs.Common.{◌≡◌, inl, inr, ℕ, zero, suc, ◌+◌, ◌<◌, Bool, true, false, cond, List, [], ◌∷◌, ◌++◌, length, refl, sym, ap, ◌∙◌, arith}
use Rattle.std.proofs.Math.ListN.{get_or-append}
use Rattle.std.proofs.lemmas.List.{get_or-append-add}
use Rattle.std.proofs.lemmas.Bool.{eqb-true}
use Rattle.std.proofs.lemmas.Grind.{same_number_lists}
use Rattle.std.specs.Prelude.{slice_index, ◌==◌}
use Rattle.vax_pairs.specs.term_core.specs.Shape.{Shape, Constant, Symbol}
use Rattle.vax_pairs.specs.vax_machine.specs.declared.function.Conditions.{Conditions}
use Rattle.vax_pairs.specs.vax_machine.specs.State.{State}
use Rattle.vax_pairs.specs.Standing.{Seen, seen, Bare, bare, Begun, Resumed, Later, Entering}
use Rattle.vax_pairs.specs.Events.{worth}
use Rattle.vax_pairs.specs.TermStates.{valued_registers}
use Rattle.vax_pairs.specs.Shown.{StandsFor}
use Rattle.vax_pairs.specs.Facts.{Fact, Equal, First, Second, IsSo, AreSo, Outlasts, first_term, second_term, first_begins, second_begins}

-- ---- behind calls

one_later : (f : Fact) (us vs : List ℕ) (k l : Conditions) (a b : Seen) → Outlasts f → IsSo f (record { registers = us; conditions = k }) (record { registers = vs; conditions = l })
    → Resumed us a → Resumed vs b → slice_index b.registers 0 ≡ slice_index a.registers 0 → IsSo f a b
one_later (Equal q r) us vs c d a b (inl o) h g k e = (h.0, (h.1.0, k.same q o.0 o.1.0 ∙ h.1.1 ∙ sym (g.same r o.1.1.0 o.1.1.1)))
one_later (Equal q r) us vs c d a b (inr o) h g k e =
    (h.0, (h.1.0, ap (λ (x : ℕ). slice_index b.registers x) o.0 ∙ e ∙ sym (ap (λ (x : ℕ). slice_index a.registers x) o.1)))
one_later (First r v) us vs c d a b o h g k e = (h.0, g.same r o.0 o.1 ∙ h.1)
one_later (Second r v) us vs c d a b o h g k e = (h.0, k.same r o.0 o.1 ∙ h.1)

-- ---- where pieces begin

module _ (us vs : List ℕ) (long : length us ≡ 15) where
  first_by : (b : Bool) (v r : ℕ) (t : Shape) → (b ≡ true → slice_index us r ≡ v) → worth (us ++ vs) t ≡ slice_index us r → worth (us ++ vs) (cond b (Constant v) t) ≡ slice_index us r
  first_by true v r t f h = sym (f refl)
  first_by false v r t f h = h

  mine : (r : ℕ) → r < 15 → slice_index (us ++ vs) r ≡ slice_index us r
  mine r lt = get_or-append us vs 0 r (omega (arith, long, lt))

  its : (r : ℕ) → slice_index (us ++ vs) (15 + r) ≡ slice_index vs r
  its r = ap (λ (n : ℕ). slice_index (us ++ vs) (n + r)) (sym long) ∙ get_or-append-add us vs r 0

  first_is : (fs : List Fact) (a b : Seen) → a.registers ≡ us → AreSo fs a b → (r : ℕ) → r < 15 → worth (us ++ vs) (first_term fs r) ≡ slice_index us r
  first_is [] a b e h r lt = mine r lt
  first_is (First q v ∷ fs) a b e h r lt =
      first_by (q == r) v r (first_term fs r) (λ is. ap (λ (x : ℕ). slice_index us x) (sym (eqb-true q r is)) ∙ ap (λ (xs : List ℕ). slice_index xs q) (sym e) ∙ h.0.1) (first_is fs a b e h.1 r lt)
  first_is (Equal q p ∷ fs) a b e h r lt = first_is fs a b e h.1 r lt
  first_is (Second q v ∷ fs) a b e h r lt = first_is fs a b e h.1 r lt

  second_by : (c : Bool) (s t : Shape) (r : ℕ) → (c ≡ true → worth (us ++ vs) s ≡ slice_index vs r) → worth (us ++ vs) t ≡ slice_index vs r → worth (us ++ vs) (cond c s t) ≡ slice_index vs r
  second_by true s t r f h = f refl
  second_by false s t r f h = h

  second_is : (fs : List Fact) (a b : Seen) → a.registers ≡ us → b.registers ≡ vs → AreSo fs a b → (r : ℕ) → worth (us ++ vs) (second_term fs r) ≡ slice_index vs r
  second_is [] a b e g h r = its r
  second_is (First q v ∷ fs) a b e g h r = second_is fs a b e g h.1 r
  second_is (Equal q p ∷ fs) a b e g h r =
      second_by (q == r) (Symbol p) (second_term fs r) r
      (λ is. mine p (let lt = h.0.1.0 in omega (arith, lt)) ∙ ap (λ (xs : List ℕ). slice_index xs p) (sym e) ∙ sym h.0.1.1
      ∙ ap (λ (xs : List ℕ). slice_index xs q) g ∙ ap (λ (x : ℕ). slice_index vs x) (eqb-true q r is))
      (second_is fs a b e g h.1 r)
  second_is (Second q v ∷ fs) a b e g h r =
      second_by (q == r) (Constant v) (second_term fs r) r
      (λ is. sym h.0.1 ∙ ap (λ (xs : List ℕ). slice_index xs q) g ∙ ap (λ (x : ℕ). slice_index vs x) (eqb-true q r is)) (second_is fs a b e g h.1 r)

module _ (fs : List Fact) (m n : State) (long : length m.registers ≡ 15) (others_long : length n.registers ≡ 15) (same : bare n ≡ bare m) (so : AreSo fs (seen m) (seen n)) where
  abbrev env : List ℕ
  env = m.registers ++ n.registers

  first_at : (r : ℕ) → r < 15 → slice_index (valued_registers env (first_begins fs)) r ≡ slice_index m.registers r
  first_at zero lt = first_is m.registers n.registers long fs (seen m) (seen n) refl so 0 lt
  first_at (suc zero) lt = first_is m.registers n.registers long fs (seen m) (seen n) refl so 1 lt
  first_at (suc (suc zero)) lt = first_is m.registers n.registers long fs (seen m) (seen n) refl so 2 lt
  first_at (suc (suc (suc zero))) lt = first_is m.registers n.registers long fs (seen m) (seen n) refl so 3 lt
  first_at (suc (suc (suc (suc zero)))) lt = first_is m.registers n.registers long fs (seen m) (seen n) refl so 4 lt
  first_at (suc (suc (suc (suc (suc zero))))) lt = first_is m.registers n.registers long fs (seen m) (seen n) refl so 5 lt
  first_at (suc (suc (suc (suc (suc (suc zero)))))) lt = first_is m.registers n.registers long fs (seen m) (seen n) refl so 6 lt
  first_at (suc (suc (suc (suc (suc (suc (suc zero))))))) lt = first_is m.registers n.registers long fs (seen m) (seen n) refl so 7 lt
  first_at (suc (suc (suc (suc (suc (suc (suc (suc zero)))))))) lt = first_is m.registers n.registers long fs (seen m) (seen n) refl so 8 lt
  first_at (suc (suc (suc (suc (suc (suc (suc (suc (suc zero))))))))) lt = first_is m.registers n.registers long fs (seen m) (seen n) refl so 9 lt
  first_at (suc (suc (suc (suc (suc (suc (suc (suc (suc (suc zero)))))))))) lt = first_is m.registers n.registers long fs (seen m) (seen n) refl so 10 lt
  first_at (suc (suc (suc (suc (suc (suc (suc (suc (suc (suc (suc zero))))))))))) lt = first_is m.registers n.registers long fs (seen m) (seen n) refl so 11 lt
  first_at (suc (suc (suc (suc (suc (suc (suc (suc (suc (suc (suc (suc zero)))))))))))) lt = mine m.registers n.registers long 12 lt
  first_at (suc (suc (suc (suc (suc (suc (suc (suc (suc (suc (suc (suc (suc zero))))))))))))) lt = mine m.registers n.registers long 13 lt
  first_at (suc (suc (suc (suc (suc (suc (suc (suc (suc (suc (suc (suc (suc (suc zero)))))))))))))) lt = mine m.registers n.registers long 14 lt
  first_at (suc (suc (suc (suc (suc (suc (suc (suc (suc (suc (suc (suc (suc (suc (suc r))))))))))))))) lt = absurd (omega (arith, lt))

  second_at : (r : ℕ) → r < 15 → slice_index (valued_registers env (second_begins fs)) r ≡ slice_index n.registers r
  second_at zero lt = second_is m.registers n.registers long fs (seen m) (seen n) refl refl so 0
  second_at (suc zero) lt = second_is m.registers n.registers long fs (seen m) (seen n) refl refl so 1
  second_at (suc (suc zero)) lt = second_is m.registers n.registers long fs (seen m) (seen n) refl refl so 2
  second_at (suc (suc (suc zero))) lt = second_is m.registers n.registers long fs (seen m) (seen n) refl refl so 3
  second_at (suc (suc (suc (suc zero)))) lt = second_is m.registers n.registers long fs (seen m) (seen n) refl refl so 4
  second_at (suc (suc (suc (suc (suc zero))))) lt = second_is m.registers n.registers long fs (seen m) (seen n) refl refl so 5
  second_at (suc (suc (suc (suc (suc (suc zero)))))) lt = second_is m.registers n.registers long fs (seen m) (seen n) refl refl so 6
  second_at (suc (suc (suc (suc (suc (suc (suc zero))))))) lt = second_is m.registers n.registers long fs (seen m) (seen n) refl refl so 7
  second_at (suc (suc (suc (suc (suc (suc (suc (suc zero)))))))) lt = second_is m.registers n.registers long fs (seen m) (seen n) refl refl so 8
  second_at (suc (suc (suc (suc (suc (suc (suc (suc (suc zero))))))))) lt = second_is m.registers n.registers long fs (seen m) (seen n) refl refl so 9
  second_at (suc (suc (suc (suc (suc (suc (suc (suc (suc (suc zero)))))))))) lt = second_is m.registers n.registers long fs (seen m) (seen n) refl refl so 10
  second_at (suc (suc (suc (suc (suc (suc (suc (suc (suc (suc (suc zero))))))))))) lt = second_is m.registers n.registers long fs (seen m) (seen n) refl refl so 11
  second_at (suc (suc (suc (suc (suc (suc (suc (suc (suc (suc (suc (suc zero)))))))))))) lt = mine m.registers n.registers long 12 lt ∙ sym (ap (λ (b : Bare). b.ap) same)
  second_at (suc (suc (suc (suc (suc (suc (suc (suc (suc (suc (suc (suc (suc zero))))))))))))) lt = mine m.registers n.registers long 13 lt ∙ sym (ap (λ (b : Bare). b.fp) same)
  second_at (suc (suc (suc (suc (suc (suc (suc (suc (suc (suc (suc (suc (suc (suc zero)))))))))))))) lt = mine m.registers n.registers long 14 lt ∙ sym (ap (λ (b : Bare). b.sp) same)
  second_at (suc (suc (suc (suc (suc (suc (suc (suc (suc (suc (suc (suc (suc (suc (suc r))))))))))))))) lt = absurd (omega (arith, lt))

  pub facts_begin : StandsFor env (first_begins fs) m × StandsFor env (second_begins fs) n
  facts_begin = (
    record { registers = same_number_lists _ _ (sym long) (λ r lt. first_at r lt); conditions = refl },
    record { registers = same_number_lists _ _ (sym others_long) (λ r lt. second_at r lt); conditions = refl },
  )

-- ---- facts that outlast a call hold behind it, and all facts at the beginning of what is called

abbrev pub AllOutlast : List Fact → Type 0
AllOutlast [] = Unit {0}
AllOutlast (f ∷ fs) = Outlasts f × AllOutlast fs

pub facts_later : (At : ℕ → ℕ → ℕ → List Fact → Type 0) (fs : List Fact) (us vs : List ℕ) (k l : Conditions) → AllOutlast fs
    → AreSo fs (record { registers = us; conditions = k }) (record { registers = vs; conditions = l }) → Later (List Fact) AreSo At fs us vs
facts_later At [] us vs k l o h s t f g e = tt
facts_later At (x ∷ fs) us vs k l o h s t f g e = (one_later x us vs k l s t o.0 h.0 f g e, facts_later At fs us vs k l o.1 h.1 s t f g e)

one_enters : (f : Fact) (us vs : List ℕ) (k l : Conditions) (a b : Seen) → IsSo f (record { registers = us; conditions = k }) (record { registers = vs; conditions = l }) → Begun us a
    → Begun vs b → IsSo f a b
one_enters (Equal q r) us vs k l a b h f g = (h.0, (h.1.0, g.same q h.0 ∙ h.1.1 ∙ sym (f.same r h.1.0)))
one_enters (First r v) us vs k l a b h f g = (h.0, f.same r h.0 ∙ h.1)
one_enters (Second r v) us vs k l a b h f g = (h.0, g.same r h.0 ∙ h.1)

pub facts_enter : (At : ℕ → ℕ → ℕ → List Fact → Type 0) (fs : List Fact) (us vs : List ℕ) (k l : Conditions)
    → AreSo fs (record { registers = us; conditions = k }) (record { registers = vs; conditions = l }) → Entering (List Fact) AreSo At fs us vs
facts_enter At [] us vs k l h s t f g = tt
facts_enter At (x ∷ fs) us vs k l h s t f g = (one_enters x us vs k l s t h.0 f g, facts_enter At fs us vs k l h.1 s t f g)
