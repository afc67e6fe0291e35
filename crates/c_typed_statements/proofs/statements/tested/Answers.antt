use Rattle.std.proofs.lemmas.Result.{err_from_is_err_and}
use Rattle.c_types.specs.Typed.{expression_of}
use Rattle.c_phrases.specs.Shapes.{exp}
use Rattle.c_typed_objects.specs.Views.{state}
use Rattle.c_typed_statements.proofs.Conditions.{condition_turns, condition_fails}
use Rattle.c_typed_statements.proofs.statements.tested.Goals as goal

pub returns-in_err-x : goal.returns-in_err-x
returns-in_err-x c =
    let p = err_from_is_err_and c.from_residual.result c.from_residual.ensures.1 in
    rw (p.1, p.2) (condition_fails c.args.functions.now.names c.args.functions.now.signatures.items (exp c.args.e.now) (state c.args.environment.now) c.in_err-x.field-0.0 c.in_err-x.ensures)

pub returns : goal.returns
returns c = condition_turns c.args.functions.now.names c.args.functions.now.signatures.items (exp c.args.e.now) (state c.args.environment.now) (state c.full.new.environment)
    (expression_of c.in_ok-x.x) c.first.result c.condition.result c.in_ok-x.ensures c.first.ensures c.condition.ensures
