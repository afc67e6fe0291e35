-- The number of a register is below 15.
use Rattle.std.proofs.Common.{◌≤◌, arith}
use Rattle.vax_core.specs.declared.register.Reg.{Reg}
use Rattle.vax_core.specs.declared.register.Reg.TheVariants.{R0, R1, R2, R3, R4, R5, R6, R7, R8, R9, R10, R11, Ap, Fp, Sp}
use Rattle.vax_core.specs.Registers.{reg_number}

pub small_register : (r : Reg) → reg_number r ≤ 14
small_register R0 = omega arith
small_register R1 = omega arith
small_register R2 = omega arith
small_register R3 = omega arith
small_register R4 = omega arith
small_register R5 = omega arith
small_register R6 = omega arith
small_register R7 = omega arith
small_register R8 = omega arith
small_register R9 = omega arith
small_register R10 = omega arith
small_register R11 = omega arith
small_register Ap = omega arith
small_register Fp = omega arith
small_register Sp = omega arith
