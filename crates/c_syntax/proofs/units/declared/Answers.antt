use Rattle.std.proofs.Common.{rules}
use Rattle.std.proofs.lemmas.Result.{err_from_is_err_and}
use Rattle.c_phrases.specs.Classes.{seen}
use Rattle.c_phrases.specs.UnitShapes.{declarator_of}
use Rattle.c_syntax.proofs.Closing.{declared_behind_err, declared_function_err, declared_more_err, declared_none}
use Rattle.c_syntax.proofs.Exits.{err_map}
use Rattle.c_syntax.proofs.units.declared.Goals as goal

pub returns-in_default-clause-fails : goal.returns-in_default-clause-fails
returns-in_default-clause-fails c = declared_none (seen c.args.tokens.now) (seen c.in_ok-stars.rest.now) c.in_ok-stars.stars c.not_here.result c.in_ok-stars.ensures.read (search rules)
    c.not_here.ensures

pub returns-in-Some-take_mark-clause-fails : goal.returns-in-Some-take_mark-clause-fails
returns-in-Some-take_mark-clause-fails c = err_map c.function.result _ _
    (λ f h. declared_function_err c.in-Some.at c.in-Some-take_mark.«open» c.in-Some.name c.in_ok-stars.stars (seen c.args.tokens.now) (seen c.in_ok-stars.rest.now)
    (seen c.in-Some.rest.now) (seen c.in-Some-take_mark.inner.now) f c.in_ok-stars.ensures.read (search rules) c.in-Some-take_mark.ensures.found h) c.function.ensures.fails

pub returns-in_err-first-clause-fails : goal.returns-in_err-first-clause-fails
returns-in_err-first-clause-fails c =
    let p = err_from_is_err_and c.from_residual-in_err-first.result c.from_residual-in_err-first.ensures.1 in
    rw (p.1, p.2) (declared_behind_err c.in-Some.at c.in-Some.name c.in_ok-stars.stars (seen c.args.tokens.now) (seen c.in_ok-stars.rest.now) (seen c.in-Some.rest.now)
    c.in_err-first.field-0.0 c.in_ok-stars.ensures.read (search rules) c.in_default-take_mark.ensures.none c.in_err-first.ensures.fails)

pub returns-in_err-list-clause-fails : goal.returns-in_err-list-clause-fails
returns-in_err-list-clause-fails c =
    let p = err_from_is_err_and c.from_residual-in_err-list.result c.from_residual-in_err-list.ensures.1 in
    rw (p.1, p.2) (declared_more_err c.in-Some.at c.in-Some.name c.in_ok-stars.stars (seen c.args.tokens.now) (seen c.in_ok-stars.rest.now) (seen c.in-Some.rest.now)
    (seen c.in_ok-first.rest.now) (declarator_of c.in_ok-first.first) c.in_err-list.field-0.0 c.in_ok-stars.ensures.read (search rules) c.in_default-take_mark.ensures.none
    c.in_ok-first.ensures.leads c.in_err-list.ensures.fails)
