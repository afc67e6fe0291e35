-- How registers are written, and their bits in an entry mask.
use Rattle.std.specs.Prelude.{◌≡◌, ℕ, ◌^◌, Bool, false, ◌==◌, ◌&&◌, ◌||◌, nat_lt, if◌then◌else◌, bit_or, List}
use Rattle.std.specs.Prelude.{Option, Some, None, codes}
use Rattle.std.specs.List.{list_any}
use Rattle.std.specs.Int.{bit_at}
use Rattle.gg_base.specs.Numbers.{truth}
use Rattle.vax_core.specs.declared.register.Reg.{Reg}
use Rattle.vax_core.specs.declared.register.Reg.TheVariants.{R0, R1, R2, R3, R4, R5, R6, R7, R8, R9, R10, R11, Ap, Fp, Sp}
use Rattle.vax_core.specs.declared.operand.Base.{Base}
use Rattle.vax_core.specs.declared.operand.Base.TheVariants as bases
use Rattle.vax_core.specs.declared.operand.Operand.{Operand}

-- a register's spelling
abbrev pub reg_text : Reg → List ℕ
reg_text R0 = codes "r0"
reg_text R1 = codes "r1"
reg_text R2 = codes "r2"
reg_text R3 = codes "r3"
reg_text R4 = codes "r4"
reg_text R5 = codes "r5"
reg_text R6 = codes "r6"
reg_text R7 = codes "r7"
reg_text R8 = codes "r8"
reg_text R9 = codes "r9"
reg_text R10 = codes "r10"
reg_text R11 = codes "r11"
reg_text Ap = codes "ap"
reg_text Fp = codes "fp"
reg_text Sp = codes "sp"

-- a register's number; ap, fp and sp are the registers 12, 13 and 14
abbrev pub reg_number : Reg → ℕ
reg_number R0 = 0
reg_number R1 = 1
reg_number R2 = 2
reg_number R3 = 3
reg_number R4 = 4
reg_number R5 = 5
reg_number R6 = 6
reg_number R7 = 7
reg_number R8 = 8
reg_number R9 = 9
reg_number R10 = 10
reg_number R11 = 11
reg_number Ap = 12
reg_number Fp = 13
reg_number Sp = 14

-- a register's bit in an entry mask; ap, fp and sp have none
abbrev pub reg_bit : Reg → ℕ
reg_bit r = if nat_lt (reg_number r) 12 then 2 ^ reg_number r else 0

-- the register that a base names
abbrev pub base_register : Base → Option Reg
base_register (bases.Imm a) = None
base_register (bases.Reg r) = Some r
base_register (bases.Def r) = Some r
base_register (bases.Inc r) = Some r
base_register (bases.IncDef r) = Some r
base_register (bases.Dec r) = Some r
base_register (bases.Disp a r) = Some r
base_register (bases.DispDef a r) = Some r
base_register (bases.Abs n) = None
base_register (bases.Rel a) = None
base_register (bases.RelDef a) = None

-- whether the general register of this number is named
abbrev pub is_named : Option Reg → ℕ → Bool
is_named None n = false
is_named (Some r) n = (reg_number r == n) && nat_lt n 12

abbrev pub operand_names : Operand → ℕ → Bool
operand_names o n = is_named (base_register o.base) n || is_named o.index n

abbrev pub operands_name : List Operand → ℕ → Bool
operands_name os n = list_any (λ (o : Operand). operand_names o n) os

-- the same as sets of bits
abbrev pub named_bits : Option Reg → ℕ
named_bits None = 0
named_bits (Some r) = reg_bit r

abbrev pub operand_bits : Operand → ℕ
operand_bits o = bit_or (named_bits (base_register o.base)) (named_bits o.index)

-- bit n of the set is there exactly where rn is named
abbrev pub IsSetOf : ℕ → (ℕ → Bool) → Type 0
IsSetOf set named = (n : ℕ) → bit_at set n ≡ truth (named n)
