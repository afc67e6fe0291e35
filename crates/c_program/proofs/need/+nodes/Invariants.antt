use Rattle.std.proofs.Common.{◌≡◌, ◌+◌, ◌≤◌, drop, min}
use Rattle.c_types.specs.Typed.{expressions_of}
use Rattle.c_program.specs.Need.{all_nodes}
use Rattle.c_program.proofs.need.+nodes.Given as goal

abbrev pub invariant-all_nodes-loop-e : goal.invariant-all_nodes-loop-e
invariant-all_nodes-loop-e l = (min (l.sum + all_nodes (expressions_of (drop l.e-index l.es))) 4294967295 ≡ min (all_nodes (expressions_of l.es)) 4294967295) × (l.sum ≤ 4294967295)
