use Rattle.std.proofs.Common.{◌≡◌, ◌++◌, drop}
use Rattle.c_lower_scheme.specs.Spelling.{spelled_all}
use Rattle.c_lower_parts.specs.Views.{all_items}
use Rattle.c_lower_code.proofs.program.spelled_items.Given as goal

abbrev pub invariant-loop-one : goal.invariant-loop-one
invariant-loop-one l = l.leaves.items ++ spelled_all (all_items (drop l.one-index l.items)) ≡ spelled_all (all_items l.items)
