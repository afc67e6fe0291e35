-- What is counted in a run of a code: its calls and its jumps backward.
use Rattle.std.specs.Prelude.{ℕ, zero, suc, ◌+◌, nat_lt, List, length, if◌then◌else◌}
use Rattle.vax_core.specs.declared.code.Code.{Code}
use Rattle.vax_machine.specs.State.{State}
use Rattle.vax_machine.specs.Step.{Next, Goes, Writes, Stops, step_of}
use Rattle.vax_machine.specs.Loading.{start}

-- By how many frames are live before a step and behind it, and by the places there. A call makes one frame more, and is counted. A return
-- makes one less, and is not. Any other step stays in its frame, and is counted where it does not come further in the code.
abbrev pub counted_by : ℕ → ℕ → ℕ → ℕ → ℕ
counted_by frames_before frames_behind place_before place_behind =
    if nat_lt frames_before frames_behind then 1
    else if nat_lt frames_behind frames_before then 0
    else if nat_lt place_before place_behind then 0 else 1

abbrev pub counted_between : State → State → ℕ
counted_between m n = counted_by (length m.frames) (length n.frames) m.place n.place

-- 1 for a step that is counted, 0 for any other one
abbrev pub counted_step : State → Next → ℕ
counted_step m (Goes n) = counted_between m n
counted_step m (Writes b n) = counted_between m n
counted_step m (Stops e) = 0

-- what is counted behind a step
abbrev pub counted_behind : Next → (State → ℕ) → ℕ
counted_behind (Goes n) go = go n
counted_behind (Writes b n) go = go n
counted_behind (Stops e) go = 0

-- how many of the first steps of a state are counted
abbrev pub counted_steps : ℕ → State → ℕ
counted_steps zero m = 0
counted_steps (suc n) m = counted_step m (step_of m) + counted_behind (step_of m) (counted_steps n)

-- how many calls and jumps backward are among the first n instructions of a code's run; the call of `_main`, which begins it, is none of them
abbrev pub counted_in : Code → List ℕ → ℕ → ℕ
counted_in c input n = counted_steps n (start c input)
