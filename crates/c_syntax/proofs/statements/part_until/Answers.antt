use Rattle.std.proofs.lemmas.Result.{err_from_is_err_and}
use Rattle.c_phrases.specs.Classes.{seen}
use Rattle.c_phrases.specs.Shapes.{exp}
use Rattle.c_syntax.proofs.Closing.{part_end, part_err}
use Rattle.c_syntax.proofs.statements.part_until.Goals as goal

pub returns-in_err-value-clause-fails : goal.returns-in_err-value-clause-fails
returns-in_err-value-clause-fails c =
    let p = err_from_is_err_and c.from_residual.result c.from_residual.ensures.1 in
    rw (p.1, p.2) (part_err c.args.end c.args.level (seen c.args.tokens.now) c.in_err-value.field-0.0 c.in_default.ensures.none c.in_err-value.ensures.fails)

pub returns-in_err-rest-clause-fails : goal.returns-in_err-rest-clause-fails
returns-in_err-rest-clause-fails c =
    let p = err_from_is_err_and c.from_residual-in_err-rest.result c.from_residual-in_err-rest.ensures.1 in
    rw (p.1, p.2) (part_end c.args.end c.args.level c.in_ok-value.field-0-2 (seen c.args.tokens.now) (seen c.in_ok-value.rest.now) (exp c.in_ok-value.value.value) c.in_err-rest.field-0.0
    c.in_default.ensures.none c.in_ok-value.ensures.read c.in_err-rest.ensures.other)
