-- The bits of a set are the registers that are named.
use mathlib.Core.Bool.{or-false}
use Rattle.std.proofs.Common.{◌≡◌, ℕ, ◌^◌, Bool, true, false, cond, eqb, ltb, ◌&&◌, ◌||◌, max, bit_or, List, [], ◌∷◌, Option, Some, None, refl, sym, ap, ◌∙◌, ◌++◌}
use Rattle.std.specs.Int.{bit_at}
use Rattle.std.proofs.lemmas.Bool.{eqb-true, eqb-false}
use Rattle.std.proofs.lemmas.List.Folds.{list_any-append}
use Rattle.std.proofs.lemmas.Nat.Bits.{bit_at-zero, bit_at-pow_same, bit_at-pow_other, bit_at_or}
use Rattle.gg_base.specs.Numbers.{truth}
use Rattle.vax_core.specs.declared.register.Reg.{Reg}
use Rattle.vax_core.specs.declared.operand.Operand.{Operand}
use Rattle.vax_core.specs.Registers.{reg_number, base_register, is_named, operand_names, operands_name, named_bits, operand_bits, IsSetOf}

same_number : (k : ℕ) (b : Bool) → bit_at (cond b (2 ^ k) 0) k ≡ truth b
same_number k true = bit_at-pow_same k
same_number k false = bit_at-zero k

other_number : (k n : ℕ) (b : Bool) → eqb k n ≡ false → bit_at (cond b (2 ^ k) 0) n ≡ 0
other_number k n true e = bit_at-pow_other k n (λ s. eqb-false k n e (sym s))
other_number k n false e = bit_at-zero n

by_number : (k n : ℕ) (b : Bool) → eqb k n ≡ b → bit_at (cond (ltb k 12) (2 ^ k) 0) n ≡ truth (b && ltb n 12)
by_number k n true e = rw (← eqb-true k n e) (same_number k (ltb k 12))
by_number k n false e = other_number k n (ltb k 12) e

named : (o : Option Reg) → IsSetOf (named_bits o) (is_named o)
named None n = bit_at-zero n
named (Some r) n = by_number (reg_number r) n (eqb (reg_number r) n) refl

pub max_bits : (x y : Bool) → max (truth x) (truth y) ≡ truth (x || y)
max_bits true true = refl
max_bits true false = refl
max_bits false true = refl
max_bits false false = refl

pub either : (a b : ℕ) (f g : ℕ → Bool) → IsSetOf a f → IsSetOf b g → IsSetOf (bit_or a b) (λ n. f n || g n)
either a b f g h k n = bit_at_or a b n ∙ ap (λ (x : ℕ). max x (bit_at b n)) (h n) ∙ ap (λ (x : ℕ). max (truth (f n)) x) (k n) ∙ max_bits (f n) (g n)

pub operand_named : (o : Operand) → IsSetOf (operand_bits o) (operand_names o)
operand_named o = either (named_bits (base_register o.base)) (named_bits o.index) (is_named (base_register o.base)) (is_named o.index) (named (base_register o.base)) (named o.index)

one_more : (os : List Operand) (o : Operand) (n : ℕ) → operands_name (os ++ o ∷ []) n ≡ (operands_name os n || operand_names o n)
one_more os o n =
    list_any-append (λ (p : Operand). operand_names p n) os (o ∷ []) ∙ ap (λ (b : Bool). operands_name os n || b) (or-false (operand_names o n))

pub none_named : IsSetOf 0 (operands_name [])
none_named n = bit_at-zero n

pub more_named : (a b : ℕ) (os : List Operand) (o : Operand) → IsSetOf a (operands_name os) → IsSetOf b (operand_names o) → IsSetOf (bit_or a b) (operands_name (os ++ o ∷ []))
more_named a b os o h k n = either a b (operands_name os) (operand_names o) h k n ∙ ap truth (sym (one_more os o n))
