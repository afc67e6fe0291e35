use Rattle.std.proofs.Common.{◌≡◌, ◌+◌, drop}
use Rattle.sel_parse.specs.Shown.{rules_refused}
use Rattle.sel_parse.proofs.showing.rules_refused.Given as goal

abbrev pub invariant-loop-number : goal.invariant-loop-number
invariant-loop-number g l =
    rules_refused g.T.Templates.meaning.effect l.classes 1 l.rules ≡ rules_refused g.T.Templates.meaning.effect l.classes (l.number + 1) (drop l.number l.rules)
