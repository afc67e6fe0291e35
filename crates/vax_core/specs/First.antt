-- Names that a code begins with and calls, and the plainest operands.
use Rattle.std.specs.Prelude.{ℕ, List, None, codes}
use Rattle.vax_core.specs.declared.register.Reg.{Reg}
use Rattle.vax_core.specs.declared.operand.Base.TheVariants as bases
use Rattle.vax_core.specs.declared.operand.Operand.{Operand}

abbrev pub main_name : List ℕ
main_name = codes "_main"

abbrev pub putchar_name : List ℕ
putchar_name = codes "_putchar"

-- `$n`
abbrev pub imm : ℕ → Operand
imm n = record { base = bases.Imm (record { name = None; offset = n }); index = None }

-- `r`
abbrev pub in_reg : Reg → Operand
in_reg r = record { base = bases.Reg r; index = None }
