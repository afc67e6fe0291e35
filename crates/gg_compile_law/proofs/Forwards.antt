-- What is asked of a run, where steps lead to another.
use Rattle.std.proofs.Common.{◌≡◌, ℕ, ◌+◌, ◌≤◌, List, ◌++◌, ap, ◌∙◌, arith}
use Rattle.gg_base.specs.declared.run.End.{End}
use Rattle.gg_base.specs.declared.run.End.TheVariants.{Ended, Trapped, Wild, Deep, Spent, Broken}
use Rattle.gg_base.specs.Follows.{AsksAt}
use Rattle.vax_machine.specs.declared.turn.Stop.TheVariants as stops
use Rattle.vax_machine.specs.State.{State}
use Rattle.vax_machine.specs.Running.{steps, state_run}
use Rattle.vax_machine_lists.specs.Runs.{Leads, Halts}

module _ (m n : State) (w : List ℕ) (count : ℕ) (h : Leads m w count n) where
  written : (i : ℕ) (o : List ℕ) → (steps i n).output ≡ o → (steps (count + i) m).output ≡ w ++ o
  written i o e = h.output i ∙ ap (λ (l : List ℕ). w ++ l) e

  -- what is asked of the run behind the steps is asked of the run before them, with the bytes in front; so many more may be counted
  pub asks_led : (i j : ℕ) → j ≤ count + i → (e : End) (o : List ℕ) → AsksAt i e o (state_run n) → AsksAt j e (w ++ o) (state_run m)
  asks_led i j le (Ended s) o a = (count + a.0, written a.0 o a.1, h.end a.0 ∙ a.2)
  asks_led i j le Trapped o a = (count + a.0, written a.0 o a.1, h.end a.0 ∙ a.2)
  asks_led i j le Spent o a = (count + a.0, written a.0 o a.1, h.end a.0 ∙ a.2, omega (arith, a.3, le))
  asks_led i j le Wild o a = (count + a.0, written a.0 o a.1)
  asks_led i j le Deep o a = (count + a.0, written a.0 o a.1)
  asks_led i j le (Broken k) o a = tt

-- the run is over after some steps
pub asks_trapped : (m : State) (w : List ℕ) (count i : ℕ) → Halts m w count stops.Trapped → AsksAt i Trapped w (state_run m)
asks_trapped m w count i h = (count + 0, h.output 0, h.end 0)

pub asks_ended : (m : State) (w : List ℕ) (count i v : ℕ) → Halts m w count (stops.Ended v) → AsksAt i (Ended v) w (state_run m)
asks_ended m w count i v h = (count + 0, h.output 0, h.end 0)
