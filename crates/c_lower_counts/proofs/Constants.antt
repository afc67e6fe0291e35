-- A constant expression goes on with its value.
use Rattle.std.proofs.Common.{◌≡◌, ℕ, zero, suc, Option, Some, None, refl, ap, sym, ◌∙◌}
use Rattle.std.specs.Prelude.{Bool, not, if◌then◌else◌}
use Rattle.std.proofs.lemmas.Option.{none-some, same_Some}
use Rattle.gg_base.specs.Runs.{Runs}
use Rattle.gg_base.specs.Relations.{holds}
use Rattle.gg_base.specs.Numbers.{truth}
use Rattle.gg_base.proofs.Facts.{not_zero, guarded}
use Rattle.c_types.specs.Constants.{converted, is_zero, apply_unary, apply, advanced, retreated, distance, is_constant, option_of, value_of, constant_of}
use Rattle.c_types.specs.Typed.{AnExpression, Constant, SizeOfExpression, SizeOf, UnaryOf, CastTo, ArithmeticOf, CompareOf, BothOf, EitherOf, AdvanceOf, AdvanceByOf, RetreatOf, DistanceOf}
use Rattle.c_types.specs.Typed.{ChoiceOf}
use Rattle.c_program.specs.Programs.{AProgram}
use Rattle.c_meaning.specs.State.{State}
use Rattle.c_meaning.specs.Values.{Rest, Next, chosen, logical, or_trap}
use Rattle.c_meaning.specs.Meaning.{expr}

-- the value of a part, and what is made of it
record Part (o : Option ℕ) (f : ℕ → Option ℕ) (v : ℕ) : Type 0 where
  value : ℕ
  is : o ≡ Some value
  makes : f value ≡ Some v

part : (o : Option ℕ) (f : ℕ → Option ℕ) (v : ℕ) → option_of o f ≡ Some v → Part o f v
part None f v e = absurd (none-some v e)
part (Some x) f v e = record { value = x; is = refl; makes = e }

logical_is : (y : ℕ) → logical y ≡ truth (not (is_zero y))
logical_is zero = refl
logical_is (suc y) = sym (ap (λ (b : Bool). truth (not b)) (not_zero y))

module _ (p : AProgram) (next : Next) where
  -- an expression goes on with a value
  abbrev Means : AnExpression → ℕ → Type 0
  Means e v = (κ : Rest) (st : State) → expr p next e κ st ≡ κ v st

  -- two expressions, and what is done with their values
  two_mean : (l r : AnExpression) (f : ℕ → ℕ → Option ℕ) (g : ℕ → ℕ → Rest → State → Runs) (v : ℕ) → option_of (value_of l) (λ x. option_of (value_of r) (λ y. f x y)) ≡ Some v
      → ((x : ℕ) → value_of l ≡ Some x → Means l x) → ((y : ℕ) → value_of r ≡ Some y → Means r y)
      → ((x y : ℕ) → f x y ≡ Some v → (κ : Rest) (st : State) → g x y κ st ≡ κ v st) → (κ : Rest) (st : State)
      → expr p next l (λ x. expr p next r (λ y. g x y κ)) st ≡ κ v st
  two_mean l r f g v e first second both κ st =
      let a : Part (value_of l) (λ x. option_of (value_of r) (λ y. f x y)) v = part (value_of l) (λ x. option_of (value_of r) (λ y. f x y)) v e in
      let b : Part (value_of r) (λ y. f a.value y) v = part (value_of r) (λ y. f a.value y) v a.makes in
      first a.value a.is (λ x. expr p next r (λ y. g x y κ)) st ∙ second b.value b.is (λ y. g a.value y κ) st ∙ both a.value b.value b.makes κ st

  -- a value, or none
  trapped_means : (o : Option ℕ) (v : ℕ) → o ≡ Some v → (κ : Rest) (st : State) → or_trap o κ st ≡ κ v st
  trapped_means o v e κ st = ap (λ (x : Option ℕ). or_trap x κ st) e

  some_means : (x v : ℕ) → Some x ≡ Some v → (κ : Rest) (st : State) → κ x st ≡ κ v st
  some_means x v e κ st = ap (λ (y : ℕ). κ y st) (same_Some x v e)

  -- the right side decides, as a truth
  right_means : (r : AnExpression) (v : ℕ) → option_of (value_of r) (λ y. Some (truth (not (is_zero y)))) ≡ Some v → ((y : ℕ) → value_of r ≡ Some y → Means r y) → (κ : Rest) (st : State)
      → expr p next r (λ y. κ (logical y)) st ≡ κ v st
  right_means r v e second κ st =
      let b : Part (value_of r) (λ y. Some (truth (not (is_zero y)))) v = part (value_of r) (λ y. Some (truth (not (is_zero y)))) v e in
      second b.value b.is (λ y. κ (logical y)) st ∙ ap (λ (y : ℕ). κ y st) (logical_is b.value) ∙ some_means (truth (not (is_zero b.value))) v b.makes κ st

  -- which way a test goes, by its value
  chosen_means : (x : ℕ) (a b : Option ℕ) (v : ℕ) (r q s : Runs) → (if is_zero x then a else b) ≡ Some v → (a ≡ Some v → q ≡ s) → (b ≡ Some v → r ≡ s) → chosen x r q ≡ s
  chosen_means zero a b v r q s e f g = f e
  chosen_means (suc x) a b v r q s e f g = g (sym (ap (λ (t : Bool). if t then a else b) (not_zero x)) ∙ e)

  constant_means : (e : AnExpression) (v : ℕ) → value_of e ≡ Some v → Means e v
  unfolding value_of
  constant_means (Constant n) v is κ st = some_means n v is κ st
  constant_means (SizeOfExpression n e) v is κ st = some_means n v is κ st
  constant_means (SizeOf n) v is κ st = some_means n v is κ st
  constant_means (UnaryOf op e) v is κ st =
      let a : Part (value_of e) (λ x. Some (apply_unary op x)) v = part (value_of e) (λ x. Some (apply_unary op x)) v is in
      constant_means e a.value a.is (λ x. κ (apply_unary op x)) st ∙ some_means (apply_unary op a.value) v a.makes κ st
  constant_means (CastTo t e) v is κ st =
      let a : Part (value_of e) (λ x. Some (converted t x)) v = part (value_of e) (λ x. Some (converted t x)) v is in
      constant_means e a.value a.is (λ x. κ (converted t x)) st ∙ some_means (converted t a.value) v a.makes κ st
  constant_means (ArithmeticOf op l r) v is κ st =
      two_mean l r (λ x y. apply op x y) (λ x y κ. or_trap (apply op x y) κ) v is (λ x e. constant_means l x e) (λ y e. constant_means r y e)
      (λ x y e κ st. trapped_means (apply op x y) v e κ st) κ st
  constant_means (CompareOf rel l r) v is κ st =
      two_mean l r (λ x y. Some (truth (holds rel x y))) (λ x y κ. κ (truth (holds rel x y))) v is (λ x e. constant_means l x e) (λ y e. constant_means r y e)
      (λ x y e κ st. some_means (truth (holds rel x y)) v e κ st) κ st
  constant_means (BothOf l r) v is κ st =
      let f : ℕ → Option ℕ = λ x. if is_zero x then Some 0 else option_of (value_of r) (λ y. Some (truth (not (is_zero y)))) in
      let a : Part (value_of l) f v = part (value_of l) f v is in
      constant_means l a.value a.is (λ x st. chosen x (expr p next r (λ y. κ (logical y)) st) (κ 0 st)) st
      ∙ chosen_means a.value (Some 0) (option_of (value_of r) (λ y. Some (truth (not (is_zero y))))) v (expr p next r (λ y. κ (logical y)) st) (κ 0 st) (κ v st) a.makes
      (λ e. some_means 0 v e κ st) (λ e. right_means r v e (λ y i. constant_means r y i) κ st)
  constant_means (EitherOf l r) v is κ st =
      let f : ℕ → Option ℕ = λ x. if is_zero x then option_of (value_of r) (λ y. Some (truth (not (is_zero y)))) else Some 1 in
      let a : Part (value_of l) f v = part (value_of l) f v is in
      constant_means l a.value a.is (λ x st. chosen x (κ 1 st) (expr p next r (λ y. κ (logical y)) st)) st
      ∙ chosen_means a.value (option_of (value_of r) (λ y. Some (truth (not (is_zero y))))) (Some 1) v (κ 1 st) (expr p next r (λ y. κ (logical y)) st) (κ v st) a.makes
      (λ e. right_means r v e (λ y i. constant_means r y i) κ st) (λ e. some_means 1 v e κ st)
  constant_means (AdvanceOf t l r) v is κ st =
      two_mean l r (λ x y. Some (advanced t x y)) (λ x y κ. κ (advanced t x y)) v is (λ x e. constant_means l x e) (λ y e. constant_means r y e)
      (λ x y e κ st. some_means (advanced t x y) v e κ st) κ st
  constant_means (AdvanceByOf t l r) v is κ st =
      two_mean l r (λ x y. Some (advanced t y x)) (λ x y κ. κ (advanced t y x)) v is (λ x e. constant_means l x e) (λ y e. constant_means r y e)
      (λ x y e κ st. some_means (advanced t y x) v e κ st) κ st
  constant_means (RetreatOf t l r) v is κ st =
      two_mean l r (λ x y. Some (retreated t x y)) (λ x y κ. κ (retreated t x y)) v is (λ x e. constant_means l x e) (λ y e. constant_means r y e)
      (λ x y e κ st. some_means (retreated t x y) v e κ st) κ st
  constant_means (DistanceOf t l r) v is κ st =
      two_mean l r (λ x y. distance t x y) (λ x y κ. or_trap (distance t x y) κ) v is (λ x e. constant_means l x e) (λ y e. constant_means r y e)
      (λ x y e κ st. trapped_means (distance t x y) v e κ st) κ st
  constant_means (ChoiceOf t c l r) v is κ st =
      let f : ℕ → Option ℕ = λ x. if is_zero x then value_of r else value_of l in
      let a : Part (value_of c) f v = part (value_of c) f v is in
      constant_means c a.value a.is (λ x st. chosen x (expr p next l κ st) (expr p next r κ st)) st
      ∙ chosen_means a.value (value_of r) (value_of l) v (expr p next l κ st) (expr p next r κ st) (κ v st) a.makes
      (λ e. constant_means r v e κ st) (λ e. constant_means l v e κ st)
  constant_means _ v is κ st = absurd (none-some v is)

  pub constant_goes : (c : AnExpression) (v : ℕ) → constant_of c ≡ Some v → (κ : Rest) (st : State) → expr p next c κ st ≡ κ v st
  unfolding constant_of
  constant_goes c v is κ st = constant_means c v (guarded (is_constant c) (value_of c) v is).1 κ st
