use Rattle.std.proofs.lemmas.Result.{err_from_is_err_and}
use Rattle.c_phrases.specs.Classes.{seen}
use Rattle.c_phrases.specs.UnitShapes.{length_of}
use Rattle.c_syntax.proofs.Closing.{param_leads, param_length_err, param_spec_err}
use Rattle.c_syntax.proofs.units.param.Goals as goal

pub returns-in_err-spec-clause-fails : goal.returns-in_err-spec-clause-fails
returns-in_err-spec-clause-fails c =
    let p = err_from_is_err_and c.from_residual.result c.from_residual.ensures.1 in
    rw (p.1, p.2) (param_spec_err c.args.level (seen c.args.tokens.now) c.in_err-spec.field-0.0 (c.in_err-spec.ensures.fails c.args.level))

pub returns-in_err-length-clause-fails : goal.returns-in_err-length-clause-fails
returns-in_err-length-clause-fails c =
    let p = err_from_is_err_and c.from_residual-in_err-length.result c.from_residual-in_err-length.ensures.1 in
    rw (p.1, p.2) (param_length_err c.args.level (seen c.args.tokens.now) (seen c.in_ok-spec.rest.now) (seen c.in_ok-stars.rest.now) (seen c.in_ok-name.rest.now) c.in_ok-spec.spec
    c.in_ok-stars.stars c.in_ok-name.name c.in_err-length.field-0.0 c.in_ok-spec.ensures.read c.in_ok-stars.ensures.read (c.in_ok-name.ensures.leads c.args.level) c.in_err-length.ensures.fails)

pub returns-clause-leads : goal.returns-clause-leads
returns-clause-leads c = param_leads c.args.level (seen c.args.tokens.now) (seen c.in_ok-spec.rest.now) (seen c.in_ok-stars.rest.now) (seen c.in_ok-name.rest.now)
    (seen c.in_ok-length.rest.now) c.in_ok-spec.spec c.in_ok-stars.stars c.in_ok-name.name (length_of c.in_ok-length.length) c.in_ok-spec.ensures.read c.in_ok-stars.ensures.read
    (c.in_ok-name.ensures.leads c.args.level) c.in_ok-length.ensures.leads
