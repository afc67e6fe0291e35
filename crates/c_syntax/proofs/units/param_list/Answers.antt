use Rattle.std.proofs.lemmas.Result.{err_from_is_err_and}
use Rattle.c_phrases.specs.Classes.{seen}
use Rattle.c_phrases.specs.UnitShapes.{param_list, param_of}
use Rattle.c_syntax.proofs.Closing.{list_close, list_err, list_first_err, params_begin_leads, params_more_leads}
use Rattle.c_syntax.proofs.UnitLaws.{params_begin, params_more, params_push, params_shorter}
use Rattle.c_syntax.proofs.units.param_list.Goals as goal

pub loop-after-init : goal.loop-after-init
loop-after-init c = (
  rw (c.in_ok-push.ensures.items, c.new-list.ensures.items)
      (params_begin c.args.level (seen c.args.tokens.now) (param_of c.in_ok-first.first) (seen c.in_ok-first.rest.now) c.in_ok-first.ensures.read),
  params_begin_leads c.args.level (seen c.args.tokens.now) (seen c.in_ok-first.rest.now) (param_of c.in_ok-first.first) c.in_ok-first.ensures.leads,
)

pub loop-after-smaller : goal.loop-after-smaller
loop-after-smaller c = params_shorter c.args.level (seen c.loop-after.rest.now) (seen c.in-Some.after.now) (seen c.in_ok-next.behind.now) (param_of c.in_ok-next.next)
    c.in-Some.ensures.found c.in_ok-next.ensures.read

pub loop-after-preserved : goal.loop-after-preserved
loop-after-preserved c = (
  rw (c.in_ok-push-2.ensures.items, params_push c.loop-after.list.items c.in_ok-next.next)
      (params_more c.args.level (seen c.args.tokens.now) (seen c.loop-after.rest.now) (seen c.in-Some.after.now) (seen c.in_ok-next.behind.now) (param_list c.loop-after.list.items)
      (param_of c.in_ok-next.next) c.loop-after.invariant.0 c.in-Some.ensures.found c.in_ok-next.ensures.read),
  params_more_leads c.args.level (seen c.args.tokens.now) (seen c.loop-after.rest.now) (seen c.in-Some.after.now) (seen c.in_ok-next.behind.now) (param_of c.in_ok-next.next)
      c.loop-after.invariant.1 c.in-Some.ensures.found c.in_ok-next.ensures.leads,
)

pub returns-in_err-first-clause-fails : goal.returns-in_err-first-clause-fails
returns-in_err-first-clause-fails c =
    let p = err_from_is_err_and c.from_residual.result c.from_residual.ensures.1 in
    rw (p.1, p.2) (list_first_err c.args.level (seen c.args.tokens.now) c.in_err-first.field-0.0 c.in_err-first.ensures.fails)

pub returns-in_err-next-clause-fails : goal.returns-in_err-next-clause-fails
returns-in_err-next-clause-fails c =
    let p = err_from_is_err_and c.from_residual-in_err-next.result c.from_residual-in_err-next.ensures.1 in
    rw (p.1, p.2) (list_err c.args.level (seen c.args.tokens.now) (seen c.loop-after.rest.now) (seen c.in-Some.after.now) c.in_err-next.field-0.0 c.loop-after.invariant.1
    c.in-Some.ensures.found c.in_err-next.ensures.fails)

pub returns-in_err-last-clause-fails : goal.returns-in_err-last-clause-fails
returns-in_err-last-clause-fails c =
    let p = err_from_is_err_and c.from_residual-in_err-last.result c.from_residual-in_err-last.ensures.1 in
    rw (p.1, p.2) (list_close c.args.level (seen c.args.tokens.now) (seen c.loop-after.rest.now) c.in_err-last.field-0.0 c.loop-after.invariant.1 c.in_default.ensures.none c.in_err-last.ensures.other)
