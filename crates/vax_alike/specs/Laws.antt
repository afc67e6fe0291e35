-- Laws: codes whose places correspond behave alike; what a code's run follows, an alike code's run follows; alike goes on.
use Rattle.std.specs.Prelude.{ℕ, List}
use Rattle.gg_base.specs.Runs.{Runs}
use Rattle.gg_base.specs.Follows.{Follows}
use Rattle.vax_core.specs.declared.code.Code.{Code}
use Rattle.vax_machine.specs.State.{State}
use Rattle.vax_machine.specs.Running.{run}
use Rattle.vax_machine_lists.specs.Sound.{AllBelow}
use Rattle.vax_alike.specs.Alike.{AlikeRuns, Alike}
use Rattle.vax_alike.specs.Corresponding.{Standing, Correspond}

-- Where the places of two codes correspond, their runs do the same.
abbrev pub CorrespondingRunsAreAlike : Type 1
CorrespondingRunsAreAlike =
    (At : Standing) (Reads : ℕ → Type 0) (Ready : State → Type 0) (c d : Code) → Correspond c d At Reads Ready
    → (input : List ℕ) → AllBelow 256 input → AlikeRuns (run c input) (run d input)

-- What a code's run follows is followed by the run of each code that does the same.
abbrev pub AlikeRunsFollow : Type 0
AlikeRunsFollow =
    (a : Runs) (c d : Code) (input : List ℕ) → AlikeRuns (run c input) (run d input) → Follows a (run c input) → Follows a (run d input)

-- A code behaves as itself; what behaves alike may be put in its place.
abbrev pub AlikeIsSame : Type 0
AlikeIsSame = (c : Code) → Alike c c

abbrev pub AlikeGoesOn : Type 0
AlikeGoesOn = (c d e : Code) → Alike c d → Alike d e → Alike c e
