use Rattle.std.proofs.Common.{◌+◌, ◌*◌, ◌-◌, length}
use Rattle.c_phrases.specs.Classes.{seen}
use Rattle.c_phrases.specs.Shapes.{exp_list}
use Rattle.c_syntax.specs.Reads.{ArgumentsSoFar}
use Rattle.c_syntax.proofs.expressions.+expression.Given as goal

abbrev pub decreases-expression : goal.decreases-expression
decreases-expression l = (200 - l.level) * 8 + 6

abbrev pub decreases-commas : goal.decreases-commas
decreases-commas l = (200 - l.level) * 8 + 5

abbrev pub decreases-assignment : goal.decreases-assignment
decreases-assignment l = (200 - l.level) * 8 + 4

abbrev pub decreases-unassigned : goal.decreases-unassigned
decreases-unassigned l = (200 - l.level) * 8 + 3

abbrev pub decreases-conditional : goal.decreases-conditional
decreases-conditional l = (200 - l.level) * 8 + 2

abbrev pub decreases-binary : goal.decreases-binary
decreases-binary l = (200 - l.level) * 8 + 1

abbrev pub decreases-cast : goal.decreases-cast
decreases-cast l = (200 - l.level) * 8 + 3

abbrev pub decreases-unary : goal.decreases-unary
decreases-unary l = (200 - l.level) * 8 + 2

abbrev pub decreases-sizeof : goal.decreases-sizeof
decreases-sizeof l = (200 - l.level) * 8 + 3

abbrev pub decreases-primary : goal.decreases-primary
decreases-primary l = (200 - l.level) * 8 + 1

abbrev pub decreases-parenthesised : goal.decreases-parenthesised
decreases-parenthesised l = (200 - l.level) * 8 + 0

abbrev pub decreases-named : goal.decreases-named
decreases-named l = (200 - l.level) * 8 + 0

abbrev pub decreases-arguments : goal.decreases-arguments
decreases-arguments l = (200 - l.level) * 8 + 5

abbrev pub decreases-postfix : goal.decreases-postfix
decreases-postfix l = (200 - l.level) * 8 + 0

abbrev pub invariant-arguments-loop-after : goal.invariant-arguments-loop-after
invariant-arguments-loop-after l = ArgumentsSoFar l.fn.level (seen l.fn.tokens) (exp_list l.list.items) (seen l.rest)

abbrev pub decreases-arguments-loop-after : goal.decreases-arguments-loop-after
decreases-arguments-loop-after l = length (seen l.rest)
