-- Runs of a code: each step is counted.
use Rattle.std.specs.Prelude.{◌≡◌, ℕ, zero, suc, List, [], ◌++◌}
use Rattle.gg_base.specs.declared.run.Break.{Break}
use Rattle.gg_base.specs.declared.run.Break.TheVariants as run_breaks
use Rattle.gg_base.specs.declared.run.End.{End}
use Rattle.gg_base.specs.declared.run.End.TheVariants as ends
use Rattle.gg_base.specs.Runs.{Outcome, Runs, byte_first, one_first, stop}
use Rattle.l32_core.specs.declared.code.Code32.{Code32}
use Rattle.l32_machine.specs.declared.turn.Break32.{Break32}
use Rattle.l32_machine.specs.declared.turn.Break32.TheVariants as breaks
use Rattle.l32_machine.specs.declared.turn.Stop32.{Stop32}
use Rattle.l32_machine.specs.declared.turn.Stop32.TheVariants as stops
use Rattle.l32_machine.specs.State.{State}
use Rattle.l32_machine.specs.Step.{Next, Goes, Writes, Stops, step_of}
use Rattle.l32_machine.specs.Loading.{start}

-- a break as the end of a run
abbrev pub break_of : Break32 → Break
break_of breaks.Access = run_breaks.Access
break_of breaks.BadCode = run_breaks.BadCode
break_of breaks.StackFull = run_breaks.StackFull

abbrev pub end_of : Stop32 → End
end_of (stops.Ended value) = ends.Ended value
end_of stops.Trapped = ends.Trapped
end_of (stops.Broken kind) = ends.Broken (break_of kind)

-- what is still to come behind a step
abbrev pub behind : Next → (State → Outcome) → Outcome
behind (Goes m) go = go m
behind (Writes b m) go = byte_first b (go m)
behind (Stops e) go = stop (end_of e) 0

-- at most n steps of a state
abbrev pub steps : ℕ → State → Outcome
steps zero m = record { output = []; end = ends.Spent; number = 0 }
steps (suc n) m = one_first (behind (step_of m) (steps n))

-- the run of a state
abbrev pub state_run : State → Runs
state_run m n = steps n m

-- the run of a code on an input, from the call of `_main`
abbrev pub run : Code32 → List ℕ → Runs
run c input = state_run (start c input)

-- a run has ended so, and its output was put behind what was there
pub record Ran (outcome : Outcome) (old new : List ℕ) (end : End) : Type 0 where
  pub ended : outcome.end ≡ end
  pub output : new ≡ old ++ outcome.output
