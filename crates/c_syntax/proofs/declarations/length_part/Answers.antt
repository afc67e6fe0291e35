use Rattle.std.proofs.lemmas.Result.{err_from_is_err_and}
use Rattle.c_phrases.specs.Classes.{seen}
use Rattle.c_phrases.specs.Shapes.{exp}
use Rattle.c_syntax.proofs.Closing.{length_close, length_empty, length_err, length_none, length_value}
use Rattle.c_syntax.proofs.declarations.length_part.Goals as goal

pub returns-in_default-clause-leads : goal.returns-in_default-clause-leads
returns-in_default-clause-leads c = length_none c.args.level (seen c.args.tokens.now) c.in_default.ensures.none

pub returns-in-Some-take_mark-clause-leads : goal.returns-in-Some-take_mark-clause-leads
returns-in-Some-take_mark-clause-leads c = length_empty c.args.level c.in_ok-up.up c.in-Some.«open» (seen c.args.tokens.now) (seen c.in-Some.inner.now) (seen c.in-Some-take_mark.rest.now)
    c.in-Some.ensures.found c.in_ok-up.ensures.opened c.in-Some-take_mark.ensures.found

pub returns-in_err-value-clause-fails : goal.returns-in_err-value-clause-fails
returns-in_err-value-clause-fails c =
    let p = err_from_is_err_and c.from_residual-in_err-value.result c.from_residual-in_err-value.ensures.1 in
    rw (p.1, p.2) (length_err c.args.level c.in_ok-up.up c.in-Some.«open» (seen c.args.tokens.now) (seen c.in-Some.inner.now) c.in_err-value.field-0.0 c.in-Some.ensures.found
    c.in_ok-up.ensures.opened c.in_default-take_mark.ensures.none c.in_err-value.ensures.fails)

pub returns-in_err-rest-clause-fails : goal.returns-in_err-rest-clause-fails
returns-in_err-rest-clause-fails c =
    let p = err_from_is_err_and c.from_residual-in_err-rest.result c.from_residual-in_err-rest.ensures.1 in
    rw (p.1, p.2) (length_close c.args.level c.in_ok-up.up c.in_ok-value.field-0-2 c.in-Some.«open» (seen c.args.tokens.now) (seen c.in-Some.inner.now) (seen c.in_ok-value.rest.now)
    (exp c.in_ok-value.value.value) c.in_err-rest.field-0.0 c.in-Some.ensures.found c.in_ok-up.ensures.opened c.in_default-take_mark.ensures.none c.in_ok-value.ensures.read
    c.in_ok-value.ensures.leads c.in_err-rest.ensures.other)

pub returns-clause-leads : goal.returns-clause-leads
returns-clause-leads c = rw c.into_inner.ensures (length_value c.args.level c.in_ok-up.up c.in_ok-value.field-0-2 c.in-Some.«open» (seen c.args.tokens.now) (seen c.in-Some.inner.now)
    (seen c.in_ok-value.rest.now) (seen c.in_ok-rest.rest.now) (exp c.in_ok-value.value.value) c.in-Some.ensures.found c.in_ok-up.ensures.opened c.in_default-take_mark.ensures.none
    c.in_ok-value.ensures.read c.in_ok-rest.ensures.found)
