use Rattle.std.proofs.Common.{◌≡◌, ◌≤◌, drop, min}
use Rattle.std.specs.Prelude.{max, map}
use Rattle.c_program.specs.Statements.{declaration}
use Rattle.c_program.specs.Need.{declared_nodes}
use Rattle.c_program.proofs.need.declared_nodes.Given as goal

abbrev pub invariant-loop-d : goal.invariant-loop-d
invariant-loop-d l = (min (max l.most (declared_nodes (map declaration (drop l.d-index l.ds)))) 4294967295 ≡ min (declared_nodes (map declaration l.ds)) 4294967295) × (l.most ≤ 4294967295)
