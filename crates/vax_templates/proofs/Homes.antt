-- The operands of words and arguments are in no register that holds values.
use Rattle.std.specs.Prelude.{nat_lt, nat_le}
use Rattle.std.proofs.Common.{◌≡◌, ℕ, Bool, true, false, cond, refl}
use Rattle.sel_target.specs.tree_core.specs.declared.token.Tok.TheVariants as tok
use Rattle.vax_core.specs.Registers.{operand_bits}
use Rattle.vax_core.specs.Homes.{home, argument_home}
use Rattle.vax_templates.specs.Filled.{spare, word_operand, slot_operand}

pub local_bits : (k : ℕ) → operand_bits (word_operand k) ≡ 0
local_bits k = by (nat_lt k 1024) where
  by : (b : Bool) → operand_bits (cond b (home k) spare) ≡ 0
  by true = refl
  by false = refl

pub argument_bits : (k : ℕ) → operand_bits (slot_operand tok.Arg k) ≡ 0
argument_bits k = by (nat_le k 255) where
  by : (b : Bool) → operand_bits (cond b (argument_home k) spare) ≡ 0
  by true = refl
  by false = refl
