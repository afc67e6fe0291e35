use Rattle.std.proofs.Common.{◌∙◌}
use Rattle.tree_core.specs.Window.{has}
use Rattle.tree_core.proofs.Lists_of_links.{link_met, link_unmet}
use Rattle.tree_core.proofs.objects.met_once.Goals as goal

pub returns-then-not-meet_four : goal.returns-then-not-meet_four
returns-then-not-meet_four c =
    link_unmet c.meet_four.result c.loop-link.window.base c.args.base (has c.loop-link.window) (has c.meet_four.new.window) _ c.loop-link.link-index c.args.links.now _ c.from.result
    c.from.ensures c.if-not-meet_four.true c.loop-link.invariant.base c.loop-link-test.true c.meet_four.ensures.met c.loop-link.invariant.same

pub loop-link-preserved : goal.loop-link-preserved
loop-link-preserved c = record {
  base = c.meet_four.ensures.base ∙ c.loop-link.invariant.base;
  same = link_met c.meet_four.result c.loop-link.window.base c.args.base (has c.loop-link.window) (has c.meet_four.new.window) _ c.loop-link.link-index c.args.links.now _ c.from.result
      c.from.ensures c.if-not-meet_four.false c.loop-link.invariant.base c.loop-link-test.true c.meet_four.ensures.met c.loop-link.invariant.same;
}
