use Rattle.std.proofs.Common.{◌≡◌, ◌≤◌, length}
use Rattle.std.specs.Option.{option_map}
use Rattle.md_types.specs.Expand.{rule_behind, cut_behind}
use Rattle.md_types.proofs.expanding.rule_behind.Given as goal

abbrev pub invariant-loop-rest : goal.invariant-loop-rest
invariant-loop-rest l =
    (option_map (cut_behind l.rest) (rule_behind l.rest) ≡ option_map (cut_behind l.lines) (rule_behind l.lines))
    × (length l.rest ≤ length l.lines)

abbrev pub decreases-loop-rest : goal.decreases-loop-rest
decreases-loop-rest l = length l.rest
