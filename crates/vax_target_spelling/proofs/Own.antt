-- What the operands of registers, words and arguments spell, and which operands are spelled alike.
use Rattle.std.proofs.Common.{◌≡◌, ◌↔◌, ℕ, zero, suc, ◌+◌, ◌-◌, ◌*◌, ◌/◌, ◌%◌, ◌^◌, ◌<◌, ◌==◌, ◌&&◌, ◌||◌, Bool, true, false, cond, Option, Some, None, refl, ap, ◌∙◌, arith}
use Rattle.std.specs.Prelude.{nat_le}
use Rattle.std.proofs.lemmas.Bool.{lt-ltb, le-leb}
use Rattle.gg_base.proofs.Facts.{is_zero}
use Rattle.gg_base.proofs.Words.{neg_twice}
use Rattle.gg_base.specs.Numbers.{truth}
use Rattle.vax_target_writing.specs.tree_core.specs.declared.token.Tok.TheVariants as tok
use Rattle.vax_target_writing.specs.sel_target.specs.Meaning.{Spot, RegAt, WordAt, touches, is_word}
use Rattle.vax_core.specs.declared.register.Reg.{Reg}
use Rattle.vax_core.specs.declared.operand.Base.{Base}
use Rattle.vax_core.specs.declared.operand.Base.TheVariants as bases
use Rattle.vax_core.specs.declared.operand.Operand.{Operand}
use Rattle.vax_core.specs.Registers.{base_register, is_named, operand_names, operand_bits}
use Rattle.vax_core.specs.Same.{same_operand}
use Rattle.vax_core.specs.Homes.{home, at_home, argument_home}
use Rattle.vax_core.proofs.RegisterLaws.{operand_named}
use Rattle.vax_core.proofs.SameLaws.{operand_is}
use Rattle.vax_target_writing.specs.vax_templates.specs.FrameWords.{word_below, word_of}
use Rattle.vax_target_writing.specs.vax_templates.specs.Filled.{alone, spare, numbered, word_operand, slot_operand}
use Rattle.vax_target_writing.specs.vax_target_meaning.specs.Vax.{vax}

pub same_is : (a b : Operand) → (same_operand a b ≡ true) ↔ (a ≡ b)
same_is a b = operand_is a b

-- ---- registers

pub register_bits : (r : ℕ) → r < 12 → operand_bits (alone (bases.Reg (numbered r))) ≡ 2 ^ r
register_bits zero lt = refl
register_bits (suc zero) lt = refl
register_bits (suc (suc zero)) lt = refl
register_bits (suc (suc (suc zero))) lt = refl
register_bits (suc (suc (suc (suc zero)))) lt = refl
register_bits (suc (suc (suc (suc (suc zero))))) lt = refl
register_bits (suc (suc (suc (suc (suc (suc zero)))))) lt = refl
register_bits (suc (suc (suc (suc (suc (suc (suc zero))))))) lt = refl
register_bits (suc (suc (suc (suc (suc (suc (suc (suc zero)))))))) lt = refl
register_bits (suc (suc (suc (suc (suc (suc (suc (suc (suc zero))))))))) lt = refl
register_bits (suc (suc (suc (suc (suc (suc (suc (suc (suc (suc zero)))))))))) lt = refl
register_bits (suc (suc (suc (suc (suc (suc (suc (suc (suc (suc (suc zero))))))))))) lt = refl
register_bits (suc (suc (suc (suc (suc (suc (suc (suc (suc (suc (suc (suc n)))))))))))) lt = absurd (omega arith)

-- ---- words of the frame

by_tests : (a b c : Bool) (o : Option ℕ) → a ≡ true → b ≡ true → c ≡ true → cond (a && (b && c)) o None ≡ o
by_tests true true true o e f g = refl
by_tests _ _ _ o e f g = absurd (cc)

word_at : (w : ℕ) → w < 1024 → word_below (4 * (w + 1)) ≡ Some w
word_at w lt =
    by_tests (nat_le 4 (4 * (w + 1))) (nat_le (4 * (w + 1)) 4096) (4 * (w + 1) % 4 == 0) (Some (4 * (w + 1) / 4 - 1))
    (le-leb 4 (4 * (w + 1)) (omega arith)) (le-leb (4 * (w + 1)) 4096 (omega arith)) (is_zero (4 * (w + 1) % 4) (omega arith))
    ∙ ap Some (let e : 4 * (w + 1) / 4 - 1 ≡ w = omega arith in e)

pub home_word : (w : ℕ) → w < 1024 → word_of (home w).base ≡ Some w
home_word w lt = ap word_below (neg_twice (4 * (w + 1)) (omega arith)) ∙ word_at w lt

pub at_home_word : (w : ℕ) → w < 1024 → word_of (at_home w).base ≡ Some w
at_home_word w lt = home_word w lt

pub local_is : (k : ℕ) → k < 1024 → word_operand k ≡ home k
local_is k lt = ap (λ b. cond b (home k) spare) (lt-ltb k 1024 lt)

pub local_word : (k : ℕ) → k < 1024 → word_of (word_operand k).base ≡ Some k
local_word k lt = ap (λ (o : Operand). word_of o.base) (local_is k lt) ∙ home_word k lt

pub argument_word : (k : ℕ) → word_of (slot_operand tok.Arg k).base ≡ None
argument_word k = by (nat_le k 255) where
  by : (b : Bool) → word_of (cond b (argument_home k) spare).base ≡ None
  by true = refl
  by false = refl

-- ---- what an operand touches

-- a register that a base or an index names
abbrev pub names_at : Option Reg → Spot → Bool
names_at r (RegAt n) = is_named r n
names_at r (WordAt w) = false

-- what a base touches
abbrev pub base_at : Base → Spot → Bool
base_at b (RegAt n) = is_named (base_register b) n
base_at b (WordAt w) = is_word (word_of b) w

as_bit : (b : Bool) → (truth b == 1) ≡ b
as_bit true = refl
as_bit false = refl

pub or_false : (b : Bool) → b ≡ (b || false)
or_false true = refl
or_false false = refl

pub touches_is : (o : Operand) (s : Spot) → touches vax o s ≡ (base_at o.base s || names_at o.index s)
touches_is o (RegAt n) = ap (λ (k : ℕ). k == 1) (operand_named o n) ∙ as_bit (operand_names o n)
touches_is o (WordAt w) = or_false (is_word (word_of o.base) w)
