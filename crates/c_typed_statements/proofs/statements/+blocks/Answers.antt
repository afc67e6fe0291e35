use Rattle.std.proofs.Common.{rules}
use Rattle.std.proofs.lemmas.Result.{err_from_is_err_and}
use Rattle.c_typed_objects.specs.Views.{state}
use Rattle.c_typed_statements.proofs.Blocks.{steps, fails, ends_at, block_fails, block_ends, empty_ends}
use Rattle.c_typed_statements.proofs.statements.+blocks.Goals as goal

pub items-loop-i-preserved : goal.items-loop-i-preserved
items-loop-i-preserved t c =
    steps c.args.functions.now.names c.args.functions.now.signatures.items c.args.gives c.args.looping c.args.row.now (state c.args.environment.now) c.loop-i.actions.items c.loop-i.i-index
    c.i-item.result c.i-item.result (state c.loop-i.environment) (state c.one_item.new.environment) c.in_ok-a.a c.push.new.self.items c.loop-i-test.true c.i-item.is (search rules)
    c.in_ok-a.ensures c.loop-i.invariant

pub items-returns : goal.items-returns
items-returns t c =
    ends_at c.args.functions.now.names c.args.functions.now.signatures.items c.args.gives c.args.looping c.args.row.now (state c.args.environment.now) c.loop-i.actions.items
    c.loop-i.i-index (state c.loop-i.environment) c.loop-i-test.false c.loop-i.invariant

pub statement-returns-in_err-actions-in-Block : goal.statement-returns-in_err-actions-in-Block
statement-returns-in_err-actions-in-Block t c =
    let p = err_from_is_err_and c.from_residual.result c.from_residual.ensures.1 in
    rw (p.1, p.2) (block_fails c.args.functions.now.names c.args.functions.now.signatures.items c.args.gives c.args.looping c.args.s.now c.in-Block.row c.deref.result.now
    (state c.args.environment.now) c.in_err-actions-in-Block.field-0.0 c.in-Block.is (search rules) c.in_err-actions-in-Block.ensures)

pub statement-returns-in_ok-actions-in-Block : goal.statement-returns-in_ok-actions-in-Block
statement-returns-in_ok-actions-in-Block t c =
    block_ends c.args.functions.now.names c.args.functions.now.signatures.items c.args.gives c.args.looping c.args.s.now c.in-Block.row c.deref.result.now (state c.args.environment.now)
    (state c.block.new.environment) c.in_ok-actions-in-Block.actions c.in-Block.is (search rules) c.in_ok-actions-in-Block.ensures

pub statement-returns-in-Empty : goal.statement-returns-in-Empty
statement-returns-in-Empty t c =
    empty_ends c.args.functions.now.names c.args.functions.now.signatures.items c.args.gives c.args.looping c.args.s.now c.new.result (state c.args.environment.now) c.in-Empty.is c.new.ensures.items

pub items-returns-in_err-a : goal.items-returns-in_err-a
items-returns-in_err-a t c =
    let p = err_from_is_err_and c.from_residual.result c.from_residual.ensures.1 in
    rw (p.1, p.2) (fails c.args.functions.now.names c.args.functions.now.signatures.items c.args.gives c.args.looping c.args.row.now (state c.args.environment.now) c.loop-i.actions.items
    c.loop-i.i-index c.i-item.result c.i-item.result (state c.loop-i.environment) c.in_err-a.field-0.0 c.loop-i-test.true c.i-item.is c.in_err-a.ensures c.loop-i.invariant)
