use Rattle.std.proofs.Common.{◌≡◌, ◌++◌, drop, length}
use Rattle.std.specs.Prelude.{map}
use Rattle.c_program.specs.Programs.{routine}
use Rattle.c_lower_scheme.specs.Programs.{lower_all}
use Rattle.c_lower_code.proofs.program.lower_all.Given as goal

abbrev pub invariant-loop-of : goal.invariant-loop-of
invariant-loop-of l = l.functions.items ++ lower_all l.pointer l.count (map routine (drop l.of-index l.routines)) l.labels ≡ lower_all l.pointer (length l.routines) (map routine l.routines) 0
