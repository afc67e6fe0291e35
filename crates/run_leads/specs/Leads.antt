-- When steps lead from one run to another.
use Rattle.std.specs.Prelude.{◌≡◌, ℕ, ◌+◌, List, ◌++◌}
use Rattle.gg_base.specs.declared.run.End.{End}
use Rattle.gg_base.specs.Runs.{Runs}

-- So many steps of a run lead to another run and write these bytes: what comes behind them is what the other does.
pub record Leads (r : Runs) (written : List ℕ) (count : ℕ) (s : Runs) : Type 0 where
  pub output : (i : ℕ) → (r (count + i)).output ≡ written ++ (s i).output
  pub end : (i : ℕ) → (r (count + i)).end ≡ (s i).end

-- After so many steps a run is over; it has written these bytes.
pub record Halts (r : Runs) (written : List ℕ) (count : ℕ) (e : End) : Type 0 where
  pub output : (i : ℕ) → (r (count + i)).output ≡ written
  pub end : (i : ℕ) → (r (count + i)).end ≡ e
