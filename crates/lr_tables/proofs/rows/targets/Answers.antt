use Rattle.std.proofs.Common.{◌∙◌, ap}
use Rattle.lr_tables.specs.Numbering.{kernels}
use Rattle.lr_tables.specs.Rows.{target_of}
use Rattle.lr_tables.proofs.RowTurns.{targets_none, targets_turn}
use Rattle.lr_tables.proofs.rows.targets.Goals as goal

pub loop-symbol-init : goal.loop-symbol-init
loop-symbol-init c = c.new-targets.ensures.items ∙ targets_none _ _ _ _

pub loop-symbol-preserved : goal.loop-symbol-preserved
loop-symbol-preserved c = c.in_ok-push.ensures.items ∙ targets_turn _ _ _ _ c.loop-symbol.symbol _ _ _ c.loop-symbol.invariant c.in_ok-kernel.ensures
    (c.target_of.ensures ∙ ap (target_of (kernels c.args.sets.now.keys)) c.as_slice.ensures.value)
