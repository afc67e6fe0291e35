-- Numbers of registers.
use Rattle.std.proofs.Common.{◌<◌, arith}
use Rattle.vax_core.specs.declared.register.Reg.{Reg}
use Rattle.vax_core.specs.declared.register.Reg.TheVariants.{R0}
use Rattle.vax_core.specs.Registers.{reg_number}

pub number_low : (r : Reg) → reg_number r < 15
number_low R0 = omega arith
number_low r = omega arith
