use Rattle.std.proofs.lemmas.Result.{err_from_is_err_and}
use Rattle.c_phrases.specs.Classes.{seen}
use Rattle.c_phrases.specs.Shapes.{exp, exp_list}
use Rattle.c_syntax.proofs.Closing.{elements_comma, elements_err, elements_first_err}
use Rattle.c_syntax.proofs.ExpressionLaws.{arguments_more, arguments_shorter, list_push}
use Rattle.c_syntax.proofs.declarations.elements.Goals as goal

pub loop-last-smaller : goal.loop-last-smaller
loop-last-smaller c = arguments_shorter c.args.level c.in_ok-next.field-0-2 (seen c.loop-last.rest.now) (seen c.in_ok-after.after.now) (seen c.in_ok-next.behind.now)
    (exp c.in_ok-next.next.value) c.in_ok-after.ensures.found c.in_ok-next.ensures.read

pub loop-last-preserved : goal.loop-last-preserved
loop-last-preserved c = rw (c.in_ok-put-2.ensures.items, list_push c.loop-last.items.items c.in_ok-next.next.value)
    (arguments_more c.args.level c.in_ok-next.field-0-2 (seen c.args.tokens.now) (seen c.loop-last.rest.now) (seen c.in_ok-after.after.now) (seen c.in_ok-next.behind.now)
    (exp_list c.loop-last.items.items) (exp c.in_ok-next.next.value) c.loop-last.invariant c.in_ok-after.ensures.found c.in_ok-next.ensures.read)

pub returns-in_err-first-clause-fails : goal.returns-in_err-first-clause-fails
returns-in_err-first-clause-fails c =
    let p = err_from_is_err_and c.from_residual.result c.from_residual.ensures.1 in
    rw (p.1, p.2) (elements_first_err c.args.level (seen c.args.tokens.now) c.in_err-first.field-0.0 c.in_err-first.ensures.fails)

pub returns-in_err-after-clause-fails : goal.returns-in_err-after-clause-fails
returns-in_err-after-clause-fails c =
    let p = err_from_is_err_and c.from_residual-in_err-after.result c.from_residual-in_err-after.ensures.1 in
    rw (p.1, p.2) (elements_comma c.args.level (seen c.args.tokens.now) (seen c.loop-last.rest.now) (exp_list c.loop-last.items.items) c.in_err-after.field-0.0 c.loop-last.invariant
    c.in_default.ensures.none c.in_err-after.ensures.other)

pub returns-in_err-next-clause-fails : goal.returns-in_err-next-clause-fails
returns-in_err-next-clause-fails c =
    let p = err_from_is_err_and c.from_residual-in_err-next.result c.from_residual-in_err-next.ensures.1 in
    rw (p.1, p.2) (elements_err c.args.level (seen c.args.tokens.now) (seen c.loop-last.rest.now) (seen c.in_ok-after.after.now) (exp_list c.loop-last.items.items) c.in_err-next.field-0.0
    c.loop-last.invariant c.in_ok-after.ensures.found c.in_default-take_mark.ensures.none c.in_err-next.ensures.fails)
