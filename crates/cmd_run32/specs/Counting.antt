-- A machine's run with a number of steps, as it is written.
use Rattle.std.specs.Prelude.{ℕ}
use Rattle.l32_machine.specs.State.{State}
use Rattle.l32_machine.specs.Running.{steps}
use Rattle.cmd_session.specs.Running.{Coming, coming_of}

-- what is to come of a state that may do so many steps
abbrev pub coming : ℕ → State → Coming
coming count m = coming_of (steps count m)
