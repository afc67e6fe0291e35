use Rattle.std.proofs.Common.{take}
use Rattle.tree_core.specs.Grammar.{kids}
use Rattle.lr_check_nodes.specs.Growing.{HaveKids}
use Rattle.lr_check_nodes.proofs.growing.Growing.add_kids.Given as goal

abbrev pub invariant-loop-sort : goal.invariant-loop-sort
invariant-loop-sort l = HaveKids l.fn.self l.self (take l.sort-index (kids l.fn.token)) l.numbers.items
