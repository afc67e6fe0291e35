use Rattle.std.proofs.Common.{List, ap, ◌∙◌}
use Rattle.tree_core.specs.declared.program.TreeItem.{TreeItem}
use Rattle.tree_core.specs.declared.program.TreeFn.{TreeFn}
use Rattle.tree_core.specs.declared.items.Mention.TheVariants as mention
use Rattle.tree_core.specs.Items.{labels}
use Rattle.tree_core.specs.Window.{least}
use Rattle.tree_core.proofs.Lists_of_labels.{least_goes}
use Rattle.tree_core.proofs.labels.least_of_all.Goals as goal

pub loop-function-preserved : goal.loop-function-preserved
loop-function-preserved c = record {
  same = least_goes c.args.from c.loop-function.best c.least_of-best.result _ c.loop-function.function-index c.args.functions.now c.function-item.result c.loop-function-test.true
      (c.least_of-best.ensures.least ∙ ap (λ (items : List TreeItem). least c.args.from c.loop-function.best (labels mention.Stands items))
      (c.as_slice.ensures ∙ ap (λ (f : TreeFn). f.items) c.function-item.is)) c.loop-function.invariant.same;
  small = c.least_of-best.ensures.small;
}
