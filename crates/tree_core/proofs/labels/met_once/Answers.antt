use Rattle.std.proofs.Common.{ap, ◌∙◌}
use Rattle.tree_core.specs.declared.program.TreeFn.{TreeFn}
use Rattle.tree_core.specs.Window.{has}
use Rattle.tree_core.proofs.Lists_of_labels.{function_met, function_unmet}
use Rattle.tree_core.proofs.labels.met_once.Goals as goal

pub returns-then-not-meet_once : goal.returns-then-not-meet_once
returns-then-not-meet_once c =
    function_unmet c.meet_once.result c.loop-function.window.base c.args.base (has c.loop-function.window) (has c.meet_once.new.window) _ c.loop-function.function-index
    c.args.functions.now c.function-item.result c.as_slice.result.now c.if-not-meet_once.true c.loop-function.invariant.base
    (c.as_slice.ensures ∙ ap (λ (f : TreeFn). f.items) c.function-item.is) c.loop-function-test.true c.meet_once.ensures.met c.loop-function.invariant.same

pub loop-function-preserved : goal.loop-function-preserved
loop-function-preserved c = record {
  base = c.meet_once.ensures.base ∙ c.loop-function.invariant.base;
  same = function_met c.meet_once.result c.loop-function.window.base c.args.base (has c.loop-function.window) (has c.meet_once.new.window) _ c.loop-function.function-index
      c.args.functions.now c.function-item.result c.as_slice.result.now c.if-not-meet_once.false c.loop-function.invariant.base
      (c.as_slice.ensures ∙ ap (λ (f : TreeFn). f.items) c.function-item.is) c.loop-function-test.true c.meet_once.ensures.met c.loop-function.invariant.same;
}
