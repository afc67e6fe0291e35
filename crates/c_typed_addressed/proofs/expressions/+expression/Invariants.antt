use Rattle.std.proofs.Common.{◌≡◌, drop}
use Rattle.c_phrases.specs.Shapes.{exp_list}
use Rattle.c_typed_scope.specs.Views.{scope}
use Rattle.c_typed_addressed.specs.Expressions.{marks_of_all}
use Rattle.c_typed_addressed.specs.Views.{marks}
use Rattle.c_typed_addressed.proofs.expressions.+expression.Given as goal

abbrev pub invariant-expressions-loop-e : goal.invariant-expressions-loop-e
invariant-expressions-loop-e l = marks_of_all (scope l.blocks) (exp_list (drop l.e-index l.es)) (marks l.found) ≡ marks_of_all (scope l.blocks) (exp_list l.es) (marks l.fn.found)
