use Rattle.tree_core.specs.Grammar.{kids}
use Rattle.lr_check_nodes.proofs.Wholes.{kids_turn_at}
use Rattle.lr_check_nodes.proofs.growing.Growing.add_kids.Goals as goal

pub loop-sort-preserved : goal.loop-sort-preserved
loop-sort-preserved c = kids_turn_at c.args.self.now c.loop-sort.self c.add_smallest.new.self c.kids-sort-items.result.now (kids c.args.token) c.loop-sort.sort-index c.in_ok-kid.kid _
    c.loop-sort.numbers.items c.push.new.self.items c.kids-sort-items.ensures c.loop-sort.invariant c.loop-sort-test.true c.in_ok-kid.ensures c.in_ok-push.ensures.items
