use Rattle.std.proofs.Common.{rules}
use Rattle.gg_base.proofs.Facts.{if_ok}
use Rattle.c_phrases.specs.Classes.{seen}
use Rattle.c_phrases.specs.UnitShapes.{declarator_of}
use Rattle.c_syntax.proofs.Closing.{declarator_err, declarator_leads, declarator_none}
use Rattle.c_syntax.proofs.Exits.{err_map}
use Rattle.c_syntax.proofs.declarations.declarator.Goals as goal

pub returns-in_default-clause-fails : goal.returns-in_default-clause-fails
returns-in_default-clause-fails c = declarator_none c.args.level (seen c.args.tokens.now) (seen c.in_ok-stars.rest.now) c.in_ok-stars.stars c.not_here.result c.in_ok-stars.ensures.read
    (search rules) c.not_here.ensures

pub returns-clause-fails : goal.returns-clause-fails
returns-clause-fails c = err_map c.declarator_behind.result _ _ (λ f h.
    declarator_err c.args.level c.in-Some.at c.in-Some.name (seen c.args.tokens.now) (seen c.in_ok-stars.rest.now) (seen c.in-Some.after.now) c.in_ok-stars.stars f
    c.in_ok-stars.ensures.read (search rules) h) c.declarator_behind.ensures.fails

pub returns-clause-leads : goal.returns-clause-leads
returns-clause-leads c = if_ok c.declarator_behind.result _ _ (λ x h. declarator_leads c.args.level c.in-Some.at c.in-Some.name (seen c.args.tokens.now) (seen c.in_ok-stars.rest.now)
    (seen c.in-Some.after.now) (seen x.1.now) c.in_ok-stars.stars (declarator_of x.0) c.in_ok-stars.ensures.read (search rules) h) c.declarator_behind.ensures.leads
