-- Runs of a code: each step is counted.
use Rattle.std.specs.Prelude.{◌≡◌, ℕ, zero, suc, List, [], ◌++◌}
use Rattle.gg_base.specs.declared.run.End.{End}
use Rattle.gg_base.specs.declared.run.End.TheVariants as ends
use Rattle.gg_base.specs.Runs.{Outcome, Runs, byte_first, one_first, stop}
use Rattle.vax_core.specs.declared.code.Code.{Code}
use Rattle.vax_machine.specs.declared.turn.Stop.{Stop}
use Rattle.vax_machine.specs.declared.turn.Stop.TheVariants as stops
use Rattle.vax_machine.specs.State.{State}
use Rattle.vax_machine.specs.Step.{Next, Goes, Writes, Stops, step_of}
use Rattle.vax_machine.specs.Loading.{start}

abbrev pub end_of : Stop → End
end_of (stops.Ended value) = ends.Ended value
end_of stops.Trapped = ends.Trapped
end_of (stops.Broken kind) = ends.Broken kind

-- what is still to come behind a step
abbrev pub behind : Next → (State → Outcome) → Outcome
behind (Goes m) go = go m
behind (Writes b m) go = byte_first b (go m)
behind (Stops e) go = stop (end_of e) 0

-- at most n steps of a state
abbrev pub steps : ℕ → State → Outcome
steps zero m = record { output = []; end = ends.Spent; number = 0 }
steps (suc n) m = one_first (behind (step_of m) (steps n))

-- the run of a state
abbrev pub state_run : State → Runs
state_run m n = steps n m

-- the run of a code on an input, from the call of `_main`
abbrev pub run : Code → List ℕ → Runs
run c input = state_run (start c input)

-- a run has ended so, and its output was put behind what was there
pub record Ran (outcome : Outcome) (old new : List ℕ) (end : End) : Type 0 where
  pub ended : outcome.end ≡ end
  pub output : new ≡ old ++ outcome.output
