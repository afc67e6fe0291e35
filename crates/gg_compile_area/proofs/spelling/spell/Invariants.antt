use Rattle.std.proofs.Common.{◌≡◌, ◌≤◌, ◌++◌, drop}
use Rattle.gg_compile_law.specs.Spelling.{spelled}
use Rattle.gg_compile_area.proofs.spelling.spell.Given as goal

-- what is still to be spelled stands behind the items so far
abbrev pub invariant-loop-at : goal.invariant-loop-at
invariant-loop-at l =
    (l.state.zeros ≤ l.at)
    × (l.items.items ++ spelled l.objects l.state.passed l.state.zeros l.state.links.now l.at (drop l.at l.o.bytes)
    ≡ l.fn.items.items ++ spelled l.objects 0 0 l.o.links 0 l.o.bytes)
