-- Questions about the same numbers have one answer.
use Rattle.std.proofs.Common.{◌≡◌, ℕ, Bool, false, List, refl, sym, ap, ◌∙◌}
use Rattle.std.specs.Prelude.{◌^◌, ◌==◌, not, ◌||◌}
use Rattle.gg_base.specs.declared.size.Size.{Size}
use Rattle.gg_base.specs.declared.relation.Rel.TheVariants as relations
use Rattle.gg_base.specs.Relations.{holds}
use Rattle.vax_machine.specs.declared.function.Conditions.{Conditions}
use Rattle.vax_machine.specs.declared.function.Function.{Function}
use Rattle.vax_machine.specs.declared.function.Test.{Test}
use Rattle.vax_machine.specs.declared.function.Test.TheVariants as test
use Rattle.vax_machine.specs.Functions.{extended, is_negative_at, applied, passes}
use Rattle.vax_machine_lists.specs.Sound.{AllBelow}
use Rattle.vax_pairs.specs.Events.{worth}
use Rattle.vax_pairs.specs.SameTrees.{SameAnswer}
use Rattle.vax_pairs.specs.TermStates.{Signs, Tests, Compares, signed, Carry, CarryBefore, Off, Below, Made, carry_in, carried, TermState, coded}
use Rattle.vax_pairs_same.specs.Parts.{SameSigns, SameCarry, CarryFor}

module _ (env : List ℕ) (small : AllBelow (2 ^ 32) env) (k l : Conditions) where
  negative_same : (a b : Signs) → SameSigns a b → (signed env l b).negative ≡ (signed env k a).negative
  negative_same (Tests z a) (Tests y b) h =
      ap (λ (n : ℕ). is_negative_at y n) (sym (h.1 env small)) ∙ ap (λ (x : Size). is_negative_at x (worth env a)) (sym h.0)
  negative_same (Compares z a b) (Compares y c d) h =
      ap (λ (n : ℕ). holds relations.Lt (extended y n) (extended y (worth env d))) (sym (h.1.0 env small))
      ∙ ap (λ (n : ℕ). holds relations.Lt (extended y (worth env a)) (extended y n)) (sym (h.1.1 env small))
      ∙ ap (λ (x : Size). holds relations.Lt (extended x (worth env a)) (extended x (worth env b))) (sym h.0)
  negative_same a b h = absurd h

  zero_same : (a b : Signs) → SameSigns a b → (signed env l b).is_zero ≡ (signed env k a).is_zero
  zero_same (Tests z a) (Tests y b) h = ap (λ (n : ℕ). n == 0) (sym (h.1 env small))
  zero_same (Compares z a b) (Compares y c d) h =
      ap (λ (n : ℕ). n == worth env d) (sym (h.1.0 env small)) ∙ ap (λ (n : ℕ). worth env a == n) (sym (h.1.1 env small))
  zero_same a b h = absurd h

  carry_same : (i j : Conditions) (a b : Carry) → SameCarry a b → (carried env j b).carry ≡ (carried env i a).carry
  carry_same i j (Made f a b) (Made g c d) h =
      ap (λ (n : ℕ). carry_in (applied g n (worth env d) false)) (sym (h.1.0 env small))
      ∙ ap (λ (n : ℕ). carry_in (applied g (worth env a) n false)) (sym (h.1.1 env small))
      ∙ ap (λ (x : Function). carry_in (applied x (worth env a) (worth env b) false)) (sym h.0)
  carry_same i j a b h = absurd h

-- C has nothing to do with N and Z
negative_kept : (env : List ℕ) (k : Conditions) (c : Carry) → (carried env k c).negative ≡ k.negative
negative_kept env k CarryBefore = refl
negative_kept env k Off = refl
negative_kept env k (Below a b) = refl
negative_kept env k (Made f a b) = refl

zero_kept : (env : List ℕ) (k : Conditions) (c : Carry) → (carried env k c).is_zero ≡ k.is_zero
zero_kept env k CarryBefore = refl
zero_kept env k Off = refl
zero_kept env k (Below a b) = refl
zero_kept env k (Made f a b) = refl

either : {a b c d : Bool} → a ≡ b → c ≡ d → (a || c) ≡ (b || d)
either {a} {b} {c} {d} e f = ap (λ (x : Bool). x || c) e ∙ ap (λ (x : Bool). b || x) f

module _ (s r : TermState) (signs : SameSigns s.signs r.signs) (env : List ℕ) (k l : Conditions) (small : AllBelow (2 ^ 32) env) where
  negative : (coded env l r).negative ≡ (coded env k s).negative
  negative = negative_kept env (signed env l r.signs) r.carry ∙ negative_same env small k l s.signs r.signs signs
      ∙ sym (negative_kept env (signed env k s.signs) s.carry)

  is_zero : (coded env l r).is_zero ≡ (coded env k s).is_zero
  is_zero = zero_kept env (signed env l r.signs) r.carry ∙ zero_same env small k l s.signs r.signs signs
      ∙ sym (zero_kept env (signed env k s.signs) s.carry)

  carry : SameCarry s.carry r.carry → (coded env l r).carry ≡ (coded env k s).carry
  carry h = carry_same env small k l (signed env k s.signs) (signed env l r.signs) s.carry r.carry h

  one_answer : (t : Test) → CarryFor t s.carry r.carry → passes t (coded env l r) ≡ passes t (coded env k s)
  one_answer test.Always h = refl
  one_answer test.Equal h = is_zero
  one_answer test.NotEqual h = ap not is_zero
  one_answer test.Less h = negative
  one_answer test.LessOrEqual h = either negative is_zero
  one_answer test.Greater h = ap not (either negative is_zero)
  one_answer test.GreaterOrEqual h = ap not negative
  one_answer test.LessUnsigned h = carry (h refl)
  one_answer test.LessOrEqualUnsigned h = either (carry (h refl)) is_zero
  one_answer test.GreaterUnsigned h = ap not (either (carry (h refl)) is_zero)
  one_answer test.GreaterOrEqualUnsigned h = ap not (carry (h refl))

pub answers_same : (t u : Test) (s r : TermState) → t ≡ u → SameSigns s.signs r.signs → CarryFor t s.carry r.carry → SameAnswer t s u r
answers_same t u s r e signs carry env k l small = ap (λ (x : Test). passes x (coded env l r)) (sym e) ∙ one_answer s r signs env k l small t carry
