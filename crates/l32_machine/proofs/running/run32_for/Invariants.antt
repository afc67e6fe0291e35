use Rattle.std.proofs.Common.{◌-◌}
use Rattle.l32_machine.specs.View.{state}
use Rattle.l32_machine.specs.Running.{steps}
use Rattle.l32_machine.proofs.Stepping.{Stands}
use Rattle.l32_machine.proofs.running.run32_for.Given as goal

-- the steps that are left give what is left of the run
abbrev pub invariant-loop : goal.invariant-loop
invariant-loop l = Stands (steps l.count (state l.initial.machine)) l.initial.out.items l.out.items (steps (l.count - l.counter) (state l.machine))
