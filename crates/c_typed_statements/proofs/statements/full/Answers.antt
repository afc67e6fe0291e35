use Rattle.c_phrases.specs.Shapes.{exp}
use Rattle.c_typed_scope.specs.Views.{area}
use Rattle.c_typed_objects.specs.Views.{state}
use Rattle.c_typed_statements.proofs.Conditions.{full_turns}
use Rattle.c_typed_statements.proofs.statements.full.Goals as goal

pub returns : goal.returns
returns c = full_turns c.args.functions.now.names c.args.functions.now.signatures.items (exp c.args.e.now) (state c.args.environment.now) (area c.expression.new.layout) c.expression.result
    c.expression.ensures
