-- The registers that a mask leaves are those that the body doesn't name.
use Rattle.std.proofs.Common.{◌≡◌, ℕ, ◌*◌, Bool, true, false, cond, not, bit_and, List, [], ◌∷◌, refl, ap, ◌∙◌}
use Rattle.std.specs.Prelude.{◌==◌}
use Rattle.std.specs.List.{filter}
use Rattle.std.proofs.lemmas.Nat.Bits.{and_pow}
use Rattle.gg_base.specs.Numbers.{truth}
use Rattle.vax_core.specs.declared.register.Reg.{Reg}
use Rattle.vax_core.specs.declared.register.Reg.TheVariants.{R6, R7, R8, R9, R10, R11}
use Rattle.vax_core.specs.declared.code.CodeItem.{CodeItem}
use Rattle.vax_core.specs.Registers.{reg_bit}
use Rattle.vax_frames.specs.Frames.{body_names, IsMaskOf}
use Rattle.vax_homes.specs.Choosing.{home_registers, is_free}

abbrev pub is_left : ℕ → Reg → Bool
is_left mask r = bit_and mask (reg_bit r) == 0

no_bit : (b : Bool) (k : ℕ) → (0 * k == 0) ≡ true → (1 * k == 0) ≡ false → (truth b * k == 0) ≡ not b
no_bit true k none one = one
no_bit false k none one = none

module _ (mask : ℕ) (body : List CodeItem) (is : IsMaskOf mask body) where
  left_6 : is_left mask R6 ≡ is_free body R6
  left_6 = ap (λ (n : ℕ). n == 0) (and_pow mask 6 ∙ ap (λ (n : ℕ). n * 64) (is 6)) ∙ no_bit (body_names body 6) 64 refl refl

  left_7 : is_left mask R7 ≡ is_free body R7
  left_7 = ap (λ (n : ℕ). n == 0) (and_pow mask 7 ∙ ap (λ (n : ℕ). n * 128) (is 7)) ∙ no_bit (body_names body 7) 128 refl refl

  left_8 : is_left mask R8 ≡ is_free body R8
  left_8 = ap (λ (n : ℕ). n == 0) (and_pow mask 8 ∙ ap (λ (n : ℕ). n * 256) (is 8)) ∙ no_bit (body_names body 8) 256 refl refl

  left_9 : is_left mask R9 ≡ is_free body R9
  left_9 = ap (λ (n : ℕ). n == 0) (and_pow mask 9 ∙ ap (λ (n : ℕ). n * 512) (is 9)) ∙ no_bit (body_names body 9) 512 refl refl

  left_10 : is_left mask R10 ≡ is_free body R10
  left_10 = ap (λ (n : ℕ). n == 0) (and_pow mask 10 ∙ ap (λ (n : ℕ). n * 1024) (is 10)) ∙ no_bit (body_names body 10) 1024 refl refl

  left_11 : is_left mask R11 ≡ is_free body R11
  left_11 = ap (λ (n : ℕ). n == 0) (and_pow mask 11 ∙ ap (λ (n : ℕ). n * 2048) (is 11)) ∙ no_bit (body_names body 11) 2048 refl refl

  step : (p q : Bool) (r : Reg) (xs ys : List Reg) → p ≡ q → xs ≡ ys → cond p (r ∷ xs) xs ≡ cond q (r ∷ ys) ys
  step p q r xs ys e f = ap (λ (b : Bool). cond b (r ∷ xs) xs) e ∙ ap (λ (zs : List Reg). cond q (r ∷ zs) zs) f

  pub left_free : filter (is_left mask) home_registers ≡ filter (is_free body) home_registers
  left_free =
      step (is_left mask R6) (is_free body R6) R6 _ _ left_6 (step (is_left mask R7) (is_free body R7) R7 _ _ left_7 (step (is_left mask R8) (is_free body R8) R8 _ _ left_8
      (step (is_left mask R9) (is_free body R9) R9 _ _ left_9 (step (is_left mask R10) (is_free body R10) R10 _ _ left_10 (step (is_left mask R11) (is_free body R11) R11 [] [] left_11 refl)))))
