use Rattle.std.proofs.Common.{◌∙◌}
use Rattle.lr_tables.specs.Numbering.{kernels}
use Rattle.lr_tables.specs.Rows.{row_of}
use Rattle.lr_tables.proofs.RowTurns.{rows_turn, rows_done}
use Rattle.lr_tables.proofs.rows.rows_of.Goals as goal

pub loop-kernel-init : goal.loop-kernel-init
loop-kernel-init c = c.new-rows.ensures.items

pub loop-kernel-preserved : goal.loop-kernel-preserved
loop-kernel-preserved c =
    c.in_ok-push.ensures.items ∙ rows_turn (row_of c.args.rules.now c.args.stmt c.args.classes (kernels c.args.sets.now.keys)) c.as_slice-kernel-items.result.now c.loop-kernel.kernel-index
    c.kernel-item.result _ _ _
    c.loop-kernel-test.true c.kernel-item.is c.loop-kernel.invariant c.as_slice-in-loop-kernel.ensures.value c.in_ok-row.ensures

pub returns : goal.returns
returns c = rows_done (row_of c.args.rules.now c.args.stmt c.args.classes (kernels c.args.sets.now.keys)) c.args.sets.now.keys c.as_slice-kernel-items.result.now c.loop-kernel.kernel-index
    _ c.loop-kernel.invariant c.loop-kernel-test.false c.as_slice-kernel-items.ensures.keys
