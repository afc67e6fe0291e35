use Rattle.std.proofs.Common.{◌≡◌, ◌≤◌, length}
use Rattle.lr_tables.specs.declared.numbering.TheConstants.{MAX_STATES}
use Rattle.lr_tables.specs.Numbering.{kernels, row_entered}
use Rattle.lr_tables.proofs.numbering.enter_row.Given as goal

abbrev pub invariant-loop-symbol : goal.invariant-loop-symbol
invariant-loop-symbol l = record {
  entered : kernels l.sets.keys ≡ row_entered l.rules l.stmt l.items (kernels l.fn.sets.keys) l.symbol;
  few : length l.sets.keys ≤ MAX_STATES;
}
