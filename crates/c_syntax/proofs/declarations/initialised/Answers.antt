use Rattle.std.proofs.lemmas.Result.{err_from_is_err_and}
use Rattle.c_phrases.specs.Classes.{seen}
use Rattle.c_phrases.specs.UnitShapes.{init_of}
use Rattle.c_syntax.proofs.Closing.{initialised_err, initialised_none, initialised_some}
use Rattle.c_syntax.proofs.declarations.initialised.Goals as goal

pub returns-in_default-clause-leads : goal.returns-in_default-clause-leads
returns-in_default-clause-leads c = initialised_none c.args.level (seen c.args.tokens.now) c.in_default.ensures.none

pub returns-in_err-with-clause-fails : goal.returns-in_err-with-clause-fails
returns-in_err-with-clause-fails c =
    let p = err_from_is_err_and c.from_residual.result c.from_residual.ensures.1 in
    rw (p.1, p.2) (initialised_err c.args.level c.in-Some.at (seen c.args.tokens.now) (seen c.in-Some.after.now) c.in_err-with.field-0.0 c.in-Some.ensures.found c.in_err-with.ensures.fails)

pub returns-clause-leads : goal.returns-clause-leads
returns-clause-leads c = initialised_some c.args.level c.in-Some.at (seen c.args.tokens.now) (seen c.in-Some.after.now) (seen c.in_ok-with.rest.now) (init_of c.in_ok-with.with)
    c.in-Some.ensures.found c.in_ok-with.ensures.leads
