-- There are 15 registers.
use Rattle.std.proofs.Common.{◌<◌, lit<}
use Rattle.vax_core.specs.declared.register.Reg.{Reg}
use Rattle.vax_core.specs.declared.register.Reg.TheVariants.{R0, R1, R2, R3, R4, R5, R6, R7, R8, R9, R10, R11, Ap, Fp, Sp}
use Rattle.vax_core.specs.Registers.{reg_number}

pub reg_below : (r : Reg) → reg_number r < 15
reg_below R0 = lit< tt
reg_below R1 = lit< tt
reg_below R2 = lit< tt
reg_below R3 = lit< tt
reg_below R4 = lit< tt
reg_below R5 = lit< tt
reg_below R6 = lit< tt
reg_below R7 = lit< tt
reg_below R8 = lit< tt
reg_below R9 = lit< tt
reg_below R10 = lit< tt
reg_below R11 = lit< tt
reg_below Ap = lit< tt
reg_below Fp = lit< tt
reg_below Sp = lit< tt
