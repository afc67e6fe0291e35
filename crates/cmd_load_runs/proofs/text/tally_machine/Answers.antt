use Rattle.std.proofs.Common.{arith}
use Rattle.vax_machine.specs.View.{state}
use Rattle.vax_machine.specs.Running.{steps}
use Rattle.cmd_load_runs.proofs.Counting.{went, put}
use Rattle.cmd_load_runs.proofs.text.tally_machine.Goals as goal

pub loop-number-preserved-in-Going : goal.loop-number-preserved-in-Going
loop-number-preserved-in-Going c = record {
  within = omega (arith, c.loop-number-test.true);
  does =
      went (steps c.args.count (state c.args.machine.now)) c.args.count c.loop-number.number c.loop-number.output.items (state c.loop-number.machine)
      (state c.step.new.self) c.loop-number-test.true c.in-Going.ensures c.loop-number.invariant.does;
}

pub loop-number-preserved : goal.loop-number-preserved
loop-number-preserved c = record {
  within = omega (arith, c.loop-number-test.true);
  does =
      rw c.in_ok-push-in-Wrote.ensures.items
      (put (steps c.args.count (state c.args.machine.now)) c.args.count c.loop-number.number c.in-Wrote.byte c.loop-number.output.items
      (state c.loop-number.machine) (state c.step.new.self) c.loop-number-test.true c.in-Wrote.ensures c.loop-number.invariant.does);
}
