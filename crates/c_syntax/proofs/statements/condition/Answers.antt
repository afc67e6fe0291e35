use Rattle.std.proofs.lemmas.Result.{err_from_is_err_and}
use Rattle.c_phrases.specs.Classes.{seen}
use Rattle.c_phrases.specs.Shapes.{exp}
use Rattle.c_syntax.proofs.Closing.{condition_close, condition_none}
use Rattle.c_syntax.proofs.statements.condition.Goals as goal

pub returns-in_default-clause-fails : goal.returns-in_default-clause-fails
returns-in_default-clause-fails c = condition_none c.args.level (seen c.args.tokens.now) c.not_here.result c.not_here.ensures c.in_default.ensures.none

pub returns-in_err-rest-clause-fails : goal.returns-in_err-rest-clause-fails
returns-in_err-rest-clause-fails c =
    let p = err_from_is_err_and c.from_residual-in_err-rest.result c.from_residual-in_err-rest.ensures.1 in
    rw (p.1, p.2) (condition_close c.args.level c.in_ok-up.up c.in_ok-value.field-0-2 c.in-Some.«open» (seen c.args.tokens.now) (seen c.in-Some.inner.now) (seen c.in_ok-value.rest.now)
    (exp c.in_ok-value.value.value) c.in_err-rest.field-0.0 c.in-Some.ensures.found c.in_ok-up.ensures.opened c.in_ok-value.ensures.read c.in_err-rest.ensures.other)
