-- Steps one after another, and what is asked of a run before them.
use Rattle.std.specs.Prelude.{ℕ, ◌+◌, ◌≤◌, List, [], ◌++◌}
use Rattle.gg_base.specs.declared.run.End.{End}
use Rattle.gg_base.specs.declared.run.End.TheVariants.{Ended, Trapped}
use Rattle.gg_base.specs.Runs.{Runs}
use Rattle.gg_base.specs.Follows.{AsksAt}
use Rattle.run_leads.specs.Leads.{Leads, Halts}

pub record LeadsCompose : Type 0 where
  pub none : (r : Runs) → Leads r [] 0 r
  pub further : (r s t : Runs) (v w : List ℕ) (i j : ℕ) → Leads r v i s → Leads s w j t → Leads r (v ++ w) (i + j) t
  pub halts : (r s : Runs) (v w : List ℕ) (i j : ℕ) (e : End) → Leads r v i s → Halts s w j e → Halts r (v ++ w) (i + j) e

-- what is asked of the run behind steps is asked of the run before them, with their bytes in front; so many more may be counted
abbrev pub LeadsAsk : Type 0
LeadsAsk =
    (r s : Runs) (w : List ℕ) (count : ℕ) → Leads r w count s → (i j : ℕ) → j ≤ count + i → (e : End) (o : List ℕ) → AsksAt i e o s
    → AsksAt j e (w ++ o) r

-- a run that is over is what is asked of it
pub record HaltsAnswer : Type 0 where
  pub ended : (r : Runs) (w : List ℕ) (count i v : ℕ) → Halts r w count (Ended v) → AsksAt i (Ended v) w r
  pub trapped : (r : Runs) (w : List ℕ) (count i : ℕ) → Halts r w count Trapped → AsksAt i Trapped w r
