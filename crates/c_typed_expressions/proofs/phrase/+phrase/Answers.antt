use Rattle.std.proofs.Common.{rules}
use Rattle.std.proofs.lemmas.Result.{err_from_is_err_and}
use Rattle.c_typed_scope.specs.Views.{scope, area}
use Rattle.c_typed_expressions.proofs.Rows.{call_fails, call_goes, steps, ends_at}
use Rattle.c_typed_expressions.proofs.phrase.+phrase.Goals as goal

pub expression-returns-in_err-xs-in-Call : goal.expression-returns-in_err-xs-in-Call
expression-returns-in_err-xs-in-Call t c =
    let p = err_from_is_err_and c.from_residual-in_err-xs-in-Call.result c.from_residual-in_err-xs-in-Call.ensures.1 in
    rw (p.1, p.2) (call_fails c.args.functions.now.names c.args.functions.now.signatures.items (scope c.args.blocks.now) c.args.e.now c.in-Call.name c.in-Call.at c.in-Call.open
    c.in-Call.arguments c.in_ok-number-in-Call.number c.deref-in-Call.result.now (area c.args.layout.now) c.in_err-xs-in-Call.field-0.0 c.in-Call.is (search rules) (search rules)
    c.in_err-xs-in-Call.ensures.typed)

pub expression-returns-in_ok-xs-in-Call : goal.expression-returns-in_ok-xs-in-Call
expression-returns-in_ok-xs-in-Call t c =
    call_goes c.args.functions.now.names c.args.functions.now.signatures.items (scope c.args.blocks.now) c.args.e.now c.in-Call.name c.in-Call.at c.in-Call.open c.in-Call.arguments
    c.in_ok-number-in-Call.number c.deref-in-Call.result.now c.deref-in-Call-2.result.now c.in_ok-xs-in-Call.xs.items (area c.args.layout.now) (area c.expressions.new.layout)
    c.called.result c.in-Call.is (search rules) (search rules) (search rules) c.in_ok-xs-in-Call.ensures.typed c.called.ensures

pub expressions-loop-e-preserved : goal.expressions-loop-e-preserved
expressions-loop-e-preserved t c =
    steps c.args.functions.now.names c.args.functions.now.signatures.items (scope c.args.blocks.now) c.args.es.now (area c.args.layout.now) c.loop-e.xs.items c.loop-e.e-index
    c.e-item.result c.e-item.result (area c.loop-e.layout) (area c.expression.new.layout) c.in_ok-x.x c.push.new.self.items c.loop-e-test.true c.e-item.is (search rules)
    c.in_ok-x.ensures c.loop-e.invariant

pub expressions-returns-clause-typed : goal.expressions-returns-clause-typed
expressions-returns-clause-typed t c = ends_at c.args.functions.now.names c.args.functions.now.signatures.items (scope c.args.blocks.now) c.args.es.now (area c.args.layout.now)
    c.loop-e.xs.items c.loop-e.e-index (area c.loop-e.layout) c.loop-e-test.false c.loop-e.invariant
