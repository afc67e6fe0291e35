use Rattle.std.proofs.Common.{◌≡◌, ◌≤◌, drop, min}
use Rattle.std.specs.Prelude.{max}
use Rattle.c_program.specs.Statements.{acts}
use Rattle.c_program.specs.Need.{largest_of}
use Rattle.c_program.proofs.need.+largest.Given as goal

abbrev pub invariant-largest_of-loop-a : goal.invariant-largest_of-loop-a
invariant-largest_of-loop-a l = (min (max l.most (largest_of (acts (drop l.a-index l.row)))) 4294967295 ≡ min (largest_of (acts l.row)) 4294967295) × (l.most ≤ 4294967295)
