use Rattle.std.proofs.Common.{rules}
use Rattle.c_typed_scope.specs.Views.{scope}
use Rattle.c_typed_addressed.specs.Views.{marks}
use Rattle.c_typed_addressed.proofs.Calls.{in_call}
use Rattle.c_typed_addressed.proofs.expressions.+expression.Goals as goal

pub expression-returns-in-Call : goal.expression-returns-in-Call
expression-returns-in-Call t c =
    in_call (scope c.args.blocks.now) c.args.e.now c.in-Call.name c.in-Call.at c.in-Call.open c.in-Call.arguments c.deref-in-Call.result.now (marks c.args.found.now)
    (marks c.expressions.new.found) c.in-Call.is (search rules) c.expressions.ensures
