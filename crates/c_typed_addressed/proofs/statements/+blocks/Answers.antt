use Rattle.std.proofs.Common.{◌∙◌}
use Rattle.c_typed_addressed.specs.Views.{searched}
use Rattle.c_typed_addressed.proofs.Blocks.{in_block, item_step}
use Rattle.c_typed_addressed.proofs.statements.+blocks.Goals as goal

pub items-loop-i-preserved : goal.items-loop-i-preserved
items-loop-i-preserved t c =
    item_step c.args.row.now c.loop-i.i-index c.i-item.result c.i-item.result (searched c.loop-i.state) (searched c.one_item.new.state) c.loop-i-test.true c.i-item.is c.in_ok-one_item.ensures
    ∙ c.loop-i.invariant

pub statement-returns-in-Block : goal.statement-returns-in-Block
statement-returns-in-Block t c =
    in_block c.block.result c.args.s.now c.in-Block.row c.deref.result.now (searched c.args.state.now) (searched c.block.new.state) c.in-Block.is c.deref.ensures.value c.block.ensures
