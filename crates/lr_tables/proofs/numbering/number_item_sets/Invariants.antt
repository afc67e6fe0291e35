use Rattle.std.proofs.Common.{◌≡◌, ◌≤◌, ◌-◌, length}
use Rattle.lr_tables.specs.declared.numbering.TheConstants.{MAX_STATES}
use Rattle.lr_tables.specs.Numbering.{kernels, found}
use Rattle.lr_tables.proofs.numbering.number_item_sets.Given as goal

abbrev pub invariant-loop-kernel : goal.invariant-loop-kernel
invariant-loop-kernel l = record {
  found : kernels l.sets.keys ≡ found l.rules l.stmt l.classes l.at;
  few : length l.sets.keys ≤ MAX_STATES;
  within : l.at ≤ length l.sets.keys;
}

abbrev pub decreases-loop-kernel : goal.decreases-loop-kernel
decreases-loop-kernel l = MAX_STATES - l.at
