-- Each sum's own tree.
use Rattle.std.proofs.Common.{[], ◌++◌, ◌∙◌}
use Rattle.lr_check_sets.specs.Samples.{EverySumHasItsTree}
use Rattle.lr_check_sets.proofs.Reached.{hold, symbols-hold}
use Rattle.lr_check_sets.proofs.Fixed.{pushes, symbols-pushes}
use Rattle.lr_check_sets.proofs.Fixed_sums.{FixedTree, fixed_sum}

pub every_sum_has_its_tree : EverySumHasItsTree
every_sum_has_its_tree G A no_end no_empty trees exact q k t s h =
    let f : FixedTree A q k t s = fixed_sum G A no_end no_empty trees exact h in
    record {
      answers = f.answers ++ [];
      its_kids = f.its_kids;
      leads = λ a z w at e g. (pushes f.depths z, hold s [], (symbols-pushes f.depths z ∙ e, symbols-hold s [], f.runs [] a z w at e g));
    }
