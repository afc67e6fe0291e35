use Rattle.std.proofs.lemmas.Result.{err_from_is_err_and}
use Rattle.c_phrases.specs.Classes.{seen}
use Rattle.c_syntax.proofs.Closing.{params_err}
use Rattle.c_syntax.proofs.units.params.Goals as goal

pub returns-in_err-list-clause-fails : goal.returns-in_err-list-clause-fails
returns-in_err-list-clause-fails c =
    let p = err_from_is_err_and c.from_residual.result c.from_residual.ensures.1 in
    rw (p.1, p.2) (params_err c.args.level (seen c.args.tokens.now) c.in_err-list.field-0.0 c.in_default.ensures.none c.in_err-list.ensures.fails)
