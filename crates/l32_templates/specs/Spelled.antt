-- What an operand spells: registers, and the frame's longword that it reads; and when two are spelled alike. Longword k lies 4(k + 1) bytes
-- below fp, for k up to 1023.
use Rattle.std.specs.Prelude.{ℕ, ◌^◌, ◌==◌, ◌&&◌, nat_lt, Bool, true, false, Option, Some, None, if◌then◌else◌}
use Rattle.vax_templates.specs.gg_base.specs.Arithmetic.{neg32}
use Rattle.vax_templates.specs.vax_core.specs.declared.operand.Addr.{Addr}
use Rattle.vax_templates.specs.vax_core.specs.Same.{same_name}
use Rattle.vax_templates.specs.FrameWords.{word_below}
use Rattle.l32_core.specs.declared.operand.Base32.{Base32}
use Rattle.l32_core.specs.declared.operand.Base32.TheVariants as bases
use Rattle.l32_core.specs.declared.operand.Operand32.{Operand32}
use Rattle.l32_core.specs.declared.operand.Operand32.TheVariants as operands

-- the bit of a register, of which there are twelve
abbrev pub bit_of : ℕ → ℕ
bit_of n = if nat_lt n 12 then 2 ^ n else 0

abbrev pub base_bits : Base32 → ℕ
base_bits (bases.A n) = bit_of n
base_bits bases.Fp = 0
base_bits bases.Sp = 0

-- the registers that an operand depends on
abbrev pub operand_bits : Operand32 → ℕ
operand_bits (operands.Num n) = 0
operand_bits (operands.Reg n) = bit_of n
operand_bits (operands.At d b) = base_bits b
operand_bits (operands.Deferred d b) = base_bits b
operand_bits (operands.Addr a) = 0

abbrev pub word_behind : Base32 → ℕ → Option ℕ
word_behind bases.Fp d = word_below (neg32 d)
word_behind b d = None

-- the frame's longword that an operand reads
abbrev pub word_of : Operand32 → Option ℕ
word_of (operands.At d b) = word_behind b d
word_of (operands.Deferred d b) = word_behind b d
word_of o = None

-- two operands are spelled alike
abbrev pub same_base : Base32 → Base32 → Bool
same_base (bases.A n) (bases.A k) = n == k
same_base bases.Fp bases.Fp = true
same_base bases.Sp bases.Sp = true
same_base b c = false

abbrev pub same_addr : Addr → Addr → Bool
same_addr a b = same_name a.name b.name && (a.offset == b.offset)

abbrev pub is_number : ℕ → Operand32 → Bool
is_number n (operands.Num k) = n == k
is_number n o = false

abbrev pub is_register : ℕ → Operand32 → Bool
is_register n (operands.Reg k) = n == k
is_register n o = false

abbrev pub is_at : ℕ → Base32 → Operand32 → Bool
is_at d b (operands.At e c) = (d == e) && same_base b c
is_at d b o = false

abbrev pub is_deferred : ℕ → Base32 → Operand32 → Bool
is_deferred d b (operands.Deferred e c) = (d == e) && same_base b c
is_deferred d b o = false

abbrev pub is_addr : Addr → Operand32 → Bool
is_addr a (operands.Addr b) = same_addr a b
is_addr a o = false

abbrev pub same_operand : Operand32 → Operand32 → Bool
same_operand (operands.Num n) o = is_number n o
same_operand (operands.Reg n) o = is_register n o
same_operand (operands.At d b) o = is_at d b o
same_operand (operands.Deferred d b) o = is_deferred d b o
same_operand (operands.Addr a) o = is_addr a o
