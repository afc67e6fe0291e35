use Rattle.std.proofs.Common.{◌≡◌, length, arith}
use Rattle.lr_check_found.specs.lr_check_sets.specs.Table.{automaton_of}
use Rattle.lr_check_complete.specs.Sets.{IsComplete}
use Rattle.lr_check_complete.proofs.Complete_sets.{no_more_sums}
use Rattle.lr_check_complete.proofs.rounds.complete.Goals as goal

pub returns-then-is_done : goal.returns-then-is_done
returns-then-is_done c =
    let z = c.is_done.ensures.items c.if-is_done.true in
    let zero : length c.in_ok-items.items.items ≡ 0 = omega (arith, z) in
    let done : IsComplete (automaton_of c.args.tables.now) c.loop-round.found = c.in_ok-items.ensures.complete zero (c.is_done.ensures.all c.if-is_done.true) in
    record { complete = done; few = no_more_sums (automaton_of c.args.tables.now) c.loop-round.found done; within = c.loop-round.invariant.room; full = tt }

pub loop-round-init : goal.loop-round-init
loop-round-init c = record { found = c.in_ok-found.ensures.found; room = c.in_ok-found.ensures.room }
