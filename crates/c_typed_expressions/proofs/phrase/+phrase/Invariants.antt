use Rattle.std.proofs.Common.{drop}
use Rattle.c_typed_scope.specs.Views.{scope, area}
use Rattle.c_typed_expressions.proofs.Rows.{SoFar}
use Rattle.c_typed_expressions.proofs.phrase.+phrase.Given as goal

abbrev pub invariant-expressions-loop-e : goal.invariant-expressions-loop-e
invariant-expressions-loop-e l = SoFar l.functions.names l.functions.signatures.items (scope l.blocks) l.es (area l.fn.layout) l.xs.items (drop l.e-index l.es) (area l.layout)
