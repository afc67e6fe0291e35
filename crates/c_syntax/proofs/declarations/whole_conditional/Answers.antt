use Rattle.std.proofs.lemmas.Result.{err_from_is_err_and}
use Rattle.gg_base.proofs.Facts.{if_ok}
use Rattle.c_phrases.specs.Classes.{seen}
use Rattle.c_phrases.specs.Shapes.{exp}
use Rattle.c_syntax.proofs.Closing.{cond_err, cond_leads_on, cond_tail}
use Rattle.c_syntax.proofs.Exits.{err_map}
use Rattle.c_syntax.proofs.declarations.whole_conditional.Goals as goal

pub returns-in_err-operand-clause-fails : goal.returns-in_err-operand-clause-fails
returns-in_err-operand-clause-fails c =
    let p = err_from_is_err_and c.from_residual.result c.from_residual.ensures.1 in
    rw (p.1, p.2) (cond_err c.args.level (seen c.args.tokens.now) c.in_err-operand.field-0.0 c.in_err-operand.ensures.fails)

pub returns-clause-fails : goal.returns-clause-fails
returns-clause-fails c = err_map c.conditional.result _ _ (λ f h. cond_tail c.args.level c.in_ok-operand.now (seen c.args.tokens.now) (seen c.in_ok-operand.rest.now)
    (exp c.in_ok-operand.operand.value) f c.in_ok-operand.ensures.read h) c.conditional.ensures.fails

pub returns-clause-leads : goal.returns-clause-leads
returns-clause-leads c = if_ok c.conditional.result _ _ (λ x h. cond_leads_on c.args.level c.in_ok-operand.now x.2 (seen c.args.tokens.now) (seen c.in_ok-operand.rest.now) (seen x.1.now)
    (exp c.in_ok-operand.operand.value) c.in_ok-operand.ensures.read h) c.conditional.ensures.leads
