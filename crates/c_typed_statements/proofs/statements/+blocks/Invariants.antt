use Rattle.std.proofs.Common.{drop}
use Rattle.c_typed_objects.specs.Views.{state}
use Rattle.c_typed_statements.proofs.Blocks.{SoFar}
use Rattle.c_typed_statements.proofs.statements.+blocks.Given as goal

abbrev pub invariant-items-loop-i : goal.invariant-items-loop-i
invariant-items-loop-i l = SoFar l.functions.names l.functions.signatures.items l.gives l.looping l.row (state l.fn.environment) l.actions.items (drop l.i-index l.row) (state l.environment)
