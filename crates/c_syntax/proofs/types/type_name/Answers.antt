use Rattle.std.proofs.lemmas.Result.{err_from_is_err_and}
use Rattle.c_phrases.specs.Classes.{seen}
use Rattle.c_syntax.proofs.Closing.{type_err}
use Rattle.c_syntax.proofs.types.type_name.Goals as goal

pub returns-in_err-spec-clause-fails : goal.returns-in_err-spec-clause-fails
returns-in_err-spec-clause-fails c = λ n.
    let p = err_from_is_err_and c.from_residual.result c.from_residual.ensures.1 in
    rw (p.1, p.2) (type_err n (seen c.args.tokens.now) c.in_err-spec.field-0.0 (c.in_err-spec.ensures.fails n))
