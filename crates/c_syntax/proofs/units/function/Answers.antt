use Rattle.std.proofs.lemmas.Result.{err_from_is_err_and}
use Rattle.c_phrases.specs.Classes.{seen}
use Rattle.c_phrases.specs.UnitShapes.{params_of}
use Rattle.c_syntax.proofs.Closing.{function_body_err, function_params_err}
use Rattle.c_syntax.proofs.units.function.Goals as goal

pub returns-in_err-params-clause-fails : goal.returns-in_err-params-clause-fails
returns-in_err-params-clause-fails c =
    let p = err_from_is_err_and c.from_residual.result c.from_residual.ensures.1 in
    rw (p.1, p.2) (function_params_err c.args.stars c.args.name c.args.at c.args.bracket (seen c.args.tokens.now) c.in_err-params.field-0.0 c.in_err-params.ensures.fails)

pub returns-in_err-body-clause-fails : goal.returns-in_err-body-clause-fails
returns-in_err-body-clause-fails c =
    let p = err_from_is_err_and c.from_residual-in_err-body.result c.from_residual-in_err-body.ensures.1 in
    rw (p.1, p.2) (function_body_err c.args.stars c.args.name c.args.at c.args.bracket (seen c.args.tokens.now) (seen c.in_ok-params.rest.now) (params_of c.in_ok-params.params)
    c.in_err-body.field-0.0 c.in_ok-params.ensures.read c.in_err-body.ensures.fails)
