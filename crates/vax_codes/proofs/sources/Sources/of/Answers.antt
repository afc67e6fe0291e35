use Rattle.std.proofs.Common.{length, Some}
use Rattle.vax_codes.proofs.Gathering.{none_come, goal_inside, item_more}
use Rattle.vax_codes.proofs.sources.Sources.of.Goals as goal

pub loop-place-init : goal.loop-place-init
loop-place-init c = none_come c.args.items.now _ c.in_ok-sources.ensures

pub put-requires : goal.put-requires
put-requires c =
    goal_inside c.args.items.now (Some c.index-items-place.result) (length c.loop-place.sources) c.goal.result (c.goal.ensures c.args.items.now c.in_ok-nexts.ensures) c.loop-place.invariant.each

pub loop-place-preserved : goal.loop-place-preserved
loop-place-preserved c =
    item_more c.args.items.now c.loop-place.place c.loop-place.sources c.loop-place.invariant c.index-items-place.result c.goal.result c.put.new.self c.loop-place-test.true c.index-items-place.is
    (c.goal.ensures c.args.items.now c.in_ok-nexts.ensures) c.in_ok-put.ensures
