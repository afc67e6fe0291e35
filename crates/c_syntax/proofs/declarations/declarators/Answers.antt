use Rattle.std.proofs.lemmas.Result.{err_from_is_err_and}
use Rattle.c_phrases.specs.Classes.{seen}
use Rattle.c_phrases.specs.UnitShapes.{declarator_of, declarators_of}
use Rattle.c_phrases.specs.UnitSpelling.{onto_declarator}
use Rattle.c_syntax.proofs.Closing.{more_begin, more_comma, more_err, more_step}
use Rattle.c_syntax.proofs.ListLaws.{declarators_begin, declarators_more, declarators_push, declarators_shorter}
use Rattle.c_syntax.proofs.declarations.declarators.Goals as goal

pub loop-last-init : goal.loop-last-init
loop-last-init c = (
  rw (c.in_ok-push.ensures.items, c.new-list.ensures.items) (declarators_begin c.args.level (declarator_of c.args.first) (seen c.args.tokens.now) c.requires),
  more_begin c.args.level (seen c.args.tokens.now),
)

pub loop-last-smaller : goal.loop-last-smaller
loop-last-smaller c = declarators_shorter c.args.level (seen c.loop-last.rest.now) (seen c.in_ok-after.after.now) (seen c.in_ok-next.behind.now) (declarator_of c.in_ok-next.next)
    c.in_ok-after.ensures.found c.in_ok-next.ensures.read

pub loop-last-preserved : goal.loop-last-preserved
loop-last-preserved c = (
  rw (c.in_ok-push-2.ensures.items, declarators_push c.loop-last.list.items c.in_ok-next.next)
      (declarators_more c.args.level (onto_declarator (declarator_of c.args.first) (seen c.args.tokens.now)) (seen c.loop-last.rest.now) (seen c.in_ok-after.after.now)
      (seen c.in_ok-next.behind.now) (declarators_of c.loop-last.list.items) (declarator_of c.in_ok-next.next) c.loop-last.invariant.0 c.in_ok-after.ensures.found c.in_ok-next.ensures.read),
  more_step c.args.level (seen c.args.tokens.now) (seen c.loop-last.rest.now) (seen c.in_ok-after.after.now) (seen c.in_ok-next.behind.now) (declarator_of c.in_ok-next.next)
      c.loop-last.invariant.1 c.in_ok-after.ensures.found c.in_ok-next.ensures.leads,
)

pub returns-in_err-after-clause-fails : goal.returns-in_err-after-clause-fails
returns-in_err-after-clause-fails c =
    let p = err_from_is_err_and c.from_residual-in_err-after.result c.from_residual-in_err-after.ensures.1 in
    rw (p.1, p.2) (more_comma c.args.level (seen c.args.tokens.now) (seen c.loop-last.rest.now) c.in_err-after.field-0.0 c.loop-last.invariant.1 c.in_default.ensures.none c.in_err-after.ensures.other)

pub returns-in_err-next-clause-fails : goal.returns-in_err-next-clause-fails
returns-in_err-next-clause-fails c =
    let p = err_from_is_err_and c.from_residual-in_err-next.result c.from_residual-in_err-next.ensures.1 in
    rw (p.1, p.2) (more_err c.args.level (seen c.args.tokens.now) (seen c.loop-last.rest.now) (seen c.in_ok-after.after.now) c.in_err-next.field-0.0 c.loop-last.invariant.1
    c.in_ok-after.ensures.found c.in_err-next.ensures.fails)
