use Rattle.std.proofs.lemmas.Result.{err_from_is_err_and}
use Rattle.c_phrases.specs.Classes.{seen}
use Rattle.c_phrases.specs.UnitShapes.{declarator_of}
use Rattle.c_syntax.proofs.Closing.{local_first_err, local_more_err, local_spec_err}
use Rattle.c_syntax.proofs.statements.local.Goals as goal

pub returns-in_err-spec-clause-fails : goal.returns-in_err-spec-clause-fails
returns-in_err-spec-clause-fails c =
    let p = err_from_is_err_and c.from_residual.result c.from_residual.ensures.1 in
    rw (p.1, p.2) (local_spec_err c.args.level (seen c.args.tokens.now) (seen c.storage-storage.result.1.now) c.storage-storage.result.0 c.in_err-spec.field-0.0
    c.storage-storage.ensures.leads (c.in_err-spec.ensures.fails c.args.level))

pub returns-in_err-first-clause-fails : goal.returns-in_err-first-clause-fails
returns-in_err-first-clause-fails c =
    let p = err_from_is_err_and c.from_residual-in_err-first.result c.from_residual-in_err-first.ensures.1 in
    rw (p.1, p.2) (local_first_err c.args.level (seen c.args.tokens.now) (seen c.storage-storage.result.1.now) (seen c.in_ok-spec.rest.now) c.storage-storage.result.0 c.in_ok-spec.spec
    c.in_err-first.field-0.0 c.storage-storage.ensures.leads c.in_ok-spec.ensures.read c.in_err-first.ensures.fails)

pub returns-in_err-declarators-clause-fails : goal.returns-in_err-declarators-clause-fails
returns-in_err-declarators-clause-fails c =
    let p = err_from_is_err_and c.from_residual-in_err-declarators.result c.from_residual-in_err-declarators.ensures.1 in
    rw (p.1, p.2) (local_more_err c.args.level (seen c.args.tokens.now) (seen c.storage-storage.result.1.now) (seen c.in_ok-spec.rest.now) (seen c.in_ok-first.rest.now)
    c.storage-storage.result.0 c.in_ok-spec.spec (declarator_of c.in_ok-first.first) c.in_err-declarators.field-0.0 c.storage-storage.ensures.leads c.in_ok-spec.ensures.read
    c.in_ok-first.ensures.leads c.in_err-declarators.ensures.fails)
