use Rattle.std.proofs.lemmas.Result.{err_from_is_err_and}
use Rattle.c_phrases.specs.Classes.{seen}
use Rattle.c_syntax.proofs.Closing.{external_declared_err, external_spec_err}
use Rattle.c_syntax.proofs.units.external.Goals as goal

pub returns-in_err-spec-clause-fails : goal.returns-in_err-spec-clause-fails
returns-in_err-spec-clause-fails c =
    let p = err_from_is_err_and c.from_residual.result c.from_residual.ensures.1 in
    rw (p.1, p.2) (external_spec_err (seen c.args.tokens.now) (seen c.static_word-static_at.result.1.now) c.static_word-static_at.result.0 c.in_err-spec.field-0.0
    c.static_word-static_at.ensures.leads (c.in_err-spec.ensures.fails 0))

pub returns-in_err-declared-clause-fails : goal.returns-in_err-declared-clause-fails
returns-in_err-declared-clause-fails c =
    let p = err_from_is_err_and c.from_residual-in_err-declared.result c.from_residual-in_err-declared.ensures.1 in
    rw (p.1, p.2) (external_declared_err (seen c.args.tokens.now) (seen c.static_word-static_at.result.1.now) (seen c.in_ok-spec.rest.now) c.static_word-static_at.result.0
    c.in_ok-spec.spec c.in_err-declared.field-0.0 c.static_word-static_at.ensures.leads c.in_ok-spec.ensures.read c.in_err-declared.ensures.fails)
