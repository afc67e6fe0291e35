use Rattle.std.proofs.Common.{ap, sym, subst, arith}
use Rattle.lr_check_nodes.specs.Pruned.{IsPruned, PrunedView}
use Rattle.lr_check_nodes.proofs.Renumbering.{pruned_all}
use Rattle.lr_check_nodes.proofs.pruning.prune.Goals as goal

pub returns : goal.returns
returns c = subst (IsPruned c.args.nodes.now) (sym (ap (λ (p : PrunedView). p.nodes) c.pruned-2.view_is))
    (pruned_all c.args.nodes.now c.in_ok-marks.marks.items c.loop-number.pruned c.loop-number.number c.requires c.in_ok-marks.ensures c.loop-number.invariant (omega (arith, c.loop-number-test.false)))
