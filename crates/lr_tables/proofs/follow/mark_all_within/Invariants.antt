use Rattle.std.proofs.Common.{◌≡◌, drop}
use Rattle.lr_tables.specs.Looking.{all_within}
use Rattle.lr_tables.proofs.follow.mark_all_within.Given as goal

abbrev pub invariant-loop-rule : goal.invariant-loop-rule
invariant-loop-rule l = all_within l.token l.firsts (drop l.rule-index l.rules) l.set ≡ all_within l.token l.firsts l.rules l.fn.set
