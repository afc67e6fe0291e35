use Rattle.std.proofs.lemmas.Result.{err_from_is_err_and}
use Rattle.c_phrases.specs.Classes.{seen}
use Rattle.c_syntax.proofs.Closing.{body_err, body_none}
use Rattle.c_syntax.proofs.units.body.Goals as goal

pub returns-in_err-inner-clause-fails : goal.returns-in_err-inner-clause-fails
returns-in_err-inner-clause-fails c =
    let p = err_from_is_err_and c.from_residual.result c.from_residual.ensures.1 in
    rw (p.1, p.2) (body_none (seen c.args.tokens.now) c.in_err-inner.field-0.0 c.in_default.ensures.none c.in_err-inner.ensures.other)

pub returns-in_err-items-clause-fails : goal.returns-in_err-items-clause-fails
returns-in_err-items-clause-fails c =
    let p = err_from_is_err_and c.from_residual-in_err-items.result c.from_residual-in_err-items.ensures.1 in
    rw (p.1, p.2) (body_err c.in_ok-up.up (seen c.args.tokens.now) (seen c.in_ok-inner.inner.now) c.in_err-items.field-0.0 c.in_ok-inner.ensures.found c.in_ok-up.ensures.opened
    c.in_err-items.ensures.fails)
