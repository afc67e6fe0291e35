use Rattle.std.proofs.Common.{rules}
use Rattle.std.proofs.lemmas.Result.{err_from_is_err_and}
use Rattle.c_phrases.specs.Classes.{seen}
use Rattle.c_phrases.specs.UnitShapes.{external_of, externals_of}
use Rattle.c_syntax.proofs.Closing.{after_end, whole_begin, whole_err, whole_more}
use Rattle.c_syntax.proofs.UnitLaws.{external_shorter, externals_more, externals_push, unit_ends}
use Rattle.c_syntax.proofs.units.unit.Goals as goal

pub loop-end-init : goal.loop-end-init
loop-end-init c = (search rules, whole_begin (seen c.args.tokens.now))

pub loop-end-smaller : goal.loop-end-smaller
loop-end-smaller c = external_shorter (seen c.loop-end.rest.now) (external_of c.in_ok-next.next) (seen c.in_ok-next.behind.now) c.in_ok-next.ensures.read

pub loop-end-preserved : goal.loop-end-preserved
loop-end-preserved c = (
  rw (c.in_ok-push.ensures.items, externals_push c.loop-end.externals.items c.in_ok-next.next)
      (externals_more (seen c.args.tokens.now) (seen c.loop-end.rest.now) (seen c.in_ok-next.behind.now) (externals_of c.loop-end.externals.items) (external_of c.in_ok-next.next)
      c.loop-end.invariant.0 c.in_ok-next.ensures.read),
  whole_more (seen c.args.tokens.now) (seen c.loop-end.rest.now) (seen c.in_ok-next.behind.now) (external_of c.in_ok-next.next)
      c.loop-end.invariant.1 c.in_default.ensures.none c.in_ok-next.ensures.read,
)

pub returns-in-Some-clause-read : goal.returns-in-Some-clause-read
returns-in-Some-clause-read c = unit_ends (seen c.args.tokens.now) (seen c.loop-end.rest.now) (seen c.in-Some.behind.now) (externals_of c.loop-end.externals.items) c.in-Some.end
    c.loop-end.invariant.0 c.in-Some.ensures.found c.in_ok-nothing_behind.ensures.nothing

pub returns-in_err-nothing_behind-clause-fails : goal.returns-in_err-nothing_behind-clause-fails
returns-in_err-nothing_behind-clause-fails c =
    let p = err_from_is_err_and c.from_residual.result c.from_residual.ensures.1 in
    rw (p.1, p.2) (after_end (seen c.args.tokens.now) (seen c.loop-end.rest.now) (seen c.in-Some.behind.now) c.in-Some.end c.in_err-nothing_behind.field-0.0 c.loop-end.invariant.1
    c.in-Some.ensures.found c.in_err-nothing_behind.ensures.other)

pub returns-in_err-next-clause-fails : goal.returns-in_err-next-clause-fails
returns-in_err-next-clause-fails c =
    let p = err_from_is_err_and c.from_residual-in_err-next.result c.from_residual-in_err-next.ensures.1 in
    rw (p.1, p.2) (whole_err (seen c.args.tokens.now) (seen c.loop-end.rest.now) c.in_err-next.field-0.0 c.loop-end.invariant.1 c.in_default.ensures.none c.in_err-next.ensures.fails)
