use Rattle.std.proofs.Common.{◌≤◌, ◌-◌}
use Rattle.vax_machine.specs.View.{state}
use Rattle.vax_machine.specs.Running.{steps}
use Rattle.cmd_load_runs.proofs.Counting.{Does}
use Rattle.cmd_load_runs.proofs.text.tally_machine.Given as goal

abbrev pub invariant-loop-number : goal.invariant-loop-number
invariant-loop-number l = record {
  within : l.number ≤ l.count;
  does : Does (steps l.count (state l.initial.machine)) l.count l.output.items l.number (state l.machine);
}

abbrev pub decreases-loop-number : goal.decreases-loop-number
decreases-loop-number l = l.count - l.number
