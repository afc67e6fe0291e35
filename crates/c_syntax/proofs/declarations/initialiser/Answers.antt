use Rattle.std.proofs.lemmas.Result.{err_from_is_err_and}
use Rattle.gg_base.proofs.Facts.{if_ok}
use Rattle.c_phrases.specs.Classes.{seen}
use Rattle.c_phrases.specs.Shapes.{exp}
use Rattle.c_phrases.specs.UnitShapes.{init_of}
use Rattle.c_syntax.proofs.Closing.{init_elements, init_elements_err, init_value, init_value_err}
use Rattle.c_syntax.proofs.Exits.{err_map}
use Rattle.c_syntax.proofs.declarations.initialiser.Goals as goal

pub returns-in_err-value-clause-fails : goal.returns-in_err-value-clause-fails
returns-in_err-value-clause-fails c =
    let p = err_from_is_err_and c.from_residual.result c.from_residual.ensures.1 in
    rw (p.1, p.2) (init_value_err c.args.level (seen c.args.tokens.now) c.in_err-value.field-0.0 c.in_default.ensures.none c.in_err-value.ensures.fails)

pub returns-in_default-clause-leads : goal.returns-in_default-clause-leads
returns-in_default-clause-leads c = rw c.into_inner.ensures (init_value c.args.level c.in_ok-value.field-0-2 (seen c.args.tokens.now) (seen c.in_ok-value.rest.now)
    (exp c.in_ok-value.value.value) c.in_default.ensures.none c.in_ok-value.ensures.read)

pub returns-clause-fails : goal.returns-clause-fails
returns-clause-fails c = err_map c.elements.result _ _ (λ f h. init_elements_err c.args.level c.in_ok-up.up (seen c.args.tokens.now) (seen c.in-Some.inner.now) f c.in-Some.ensures.found
    c.in_ok-up.ensures.opened h) c.elements.ensures.fails

pub returns-clause-leads : goal.returns-clause-leads
returns-clause-leads c = if_ok c.elements.result _ _ (λ x h. init_elements c.args.level c.in_ok-up.up (seen c.args.tokens.now) (seen c.in-Some.inner.now) (seen x.1.now) (init_of x.0)
    c.in-Some.ensures.found c.in_ok-up.ensures.opened h) c.elements.ensures.read
