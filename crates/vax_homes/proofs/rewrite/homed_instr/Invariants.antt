use Rattle.std.proofs.Common.{◌≡◌, map, take}
use Rattle.vax_homes.specs.Homing.{homed_operand}
use Rattle.vax_homes.proofs.rewrite.homed_instr.Given as goal

-- the operands so far
abbrev pub invariant-loop-o : goal.invariant-loop-o
invariant-loop-o l = l.operands ≡ map (homed_operand l.homes) (take l.o-index l.old)
