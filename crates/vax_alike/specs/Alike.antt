-- When two codes behave alike.
use Rattle.std.specs.Prelude.{ℕ, List}
use Rattle.gg_base.specs.declared.run.End.{End}
use Rattle.gg_base.specs.declared.run.End.TheVariants.{Ended, Trapped, Broken}
use Rattle.gg_base.specs.Runs.{Runs}
use Rattle.gg_base.specs.Follows.{Says, Reaches}
use Rattle.vax_core.specs.declared.code.Code.{Code}
use Rattle.vax_machine.specs.Loading.{Loads}
use Rattle.vax_machine.specs.Running.{run}
use Rattle.vax_machine_lists.specs.Sound.{AllBelow}

-- What the end of an answer of one run asks of the other run: where the run is over there, the other says so too, with the same output.
abbrev pub AsksEnd : End → List ℕ → Runs → Type 0
AsksEnd (Ended s) output b = Says b output (Ended s)
AsksEnd Trapped output b = Says b output Trapped
AsksEnd (Broken k) output b = Says b output (Broken k)
AsksEnd e output b = Unit {0}

-- Each end of one run is an end of the other, and each of its outputs a prefix of one of the other's.
pub record IsCovered (a b : Runs) : Type 0 where
  pub ends : (n : ℕ) → AsksEnd (a n).end (a n).output b
  pub outputs : (n : ℕ) → Reaches b (a n).output

-- Two runs do the same.
pub record AlikeRuns (a b : Runs) : Type 0 where
  pub ahead : IsCovered a b
  pub back : IsCovered b a

-- Two codes behave alike: where the first can be run, so can the second, and on every input of bytes their runs do the same.
pub record Alike (c d : Code) : Type 0 where
  pub loads : Loads c → Loads d
  pub runs : Loads c → (input : List ℕ) → AllBelow 256 input → AlikeRuns (run c input) (run d input)
