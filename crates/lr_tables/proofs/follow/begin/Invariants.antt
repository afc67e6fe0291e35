use Rattle.std.proofs.Common.{◌≡◌, drop}
use Rattle.lr_tables.specs.Looking.{begun}
use Rattle.lr_tables.proofs.follow.begin.Given as goal

abbrev pub invariant-loop-rule : goal.invariant-loop-rule
invariant-loop-rule l = begun l.token (drop l.rule-index l.rules) l.set ≡ begun l.token l.rules l.fn.set
