use Rattle.std.proofs.Common.{refl}
use Rattle.gg_base.specs.declared.run.End.TheVariants as ends
use Rattle.l32_machine.specs.declared.turn.Turn32.TheVariants as turns
use Rattle.l32_machine.specs.View.{state}
use Rattle.l32_machine.specs.Running.{break_of, steps}
use Rattle.l32_machine.proofs.Stepping.{went, wrote, stopped}
use Rattle.l32_machine.proofs.running.run32_for.Goals as goal
use Rattle.l32_machine.proofs.running.run32_for.Goals.{in-Going, in-Wrote+in_ok-push-in-Wrote}

pub loop-preserved : goal.loop-preserved
loop-preserved c =
    let whole = steps c.args.count (state c.args.machine.now) in
    let old = c.args.out.now.items in
    elim c.match-step.branch [
      | in-Going w ↦ rw w.out-is (went whole old c.loop.out.items (state c.loop.machine) (state c.step.new.self) c.args.count c.loop.counter c.loop-test.true w.in-Going.ensures c.loop.invariant)
      | in-Wrote+in_ok-push-in-Wrote w ↦ rw (w.out-is, w.in_ok-push-in-Wrote.ensures.items)
          (wrote w.in-Wrote.byte whole old c.loop.out.items (state c.loop.machine) (state c.step.new.self) c.args.count c.loop.counter c.loop-test.true w.in-Wrote.ensures c.loop.invariant)
    ]

pub returns-in-Ended : goal.returns-in-Ended
returns-in-Ended c =
    stopped (turns.Ended c.in-Ended.value) (ends.Ended c.in-Ended.value) (steps c.args.count (state c.args.machine.now)) c.args.out.now.items c.loop.out.items (state c.loop.machine)
    (state c.step.new.self) c.args.count c.loop.counter refl c.loop-test.true c.in-Ended.ensures c.loop.invariant

pub returns-in-Trapped : goal.returns-in-Trapped
returns-in-Trapped c =
    stopped turns.Trapped ends.Trapped (steps c.args.count (state c.args.machine.now)) c.args.out.now.items c.loop.out.items (state c.loop.machine) (state c.step.new.self) c.args.count
    c.loop.counter refl c.loop-test.true c.in-Trapped.ensures c.loop.invariant

pub returns-in-Broken : goal.returns-in-Broken
returns-in-Broken c =
    rw c.kind.ensures (stopped (turns.Broken c.in-Broken.kind) (ends.Broken (break_of c.in-Broken.kind)) (steps c.args.count (state c.args.machine.now)) c.args.out.now.items c.loop.out.items (state c.loop.machine)
    (state c.step.new.self) c.args.count c.loop.counter refl c.loop-test.true c.in-Broken.ensures c.loop.invariant)
