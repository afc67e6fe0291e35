use Rattle.std.proofs.Common.{◌≡◌, ◌-◌}
use Rattle.vax_machine.specs.View.{state}
use Rattle.vax_machine.specs.Calls.{all_reserved}
use Rattle.vax_machine.proofs.machine.Machine.reserve_all.Given as goal

-- what is left to be reserved gives the whole answer
abbrev pub invariant-loop : goal.invariant-loop
invariant-loop l = all_reserved (l.count - l.counter) (state l.self) ≡ all_reserved l.count (state l.initial.self)
