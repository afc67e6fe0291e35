-- The answers of a program's run, one after another.
use Rattle.std.specs.Prelude.{ℕ, zero, suc, pred, List, [], ◌∷◌, drop, length}
use Rattle.gg_base.specs.declared.run.End.{End}
use Rattle.gg_base.specs.declared.run.End.TheVariants as ends
use Rattle.gg_base.specs.declared.run.SourceTurn.{SourceTurn}
use Rattle.gg_base.specs.declared.run.SourceTurn.TheVariants as turns
use Rattle.gg_base.specs.Runs.{Runs}

-- Bytes are written before other answers.
abbrev pub writing : List ℕ → List SourceTurn → List SourceTurn
writing [] more = more
writing (b ∷ bs) more = turns.Wrote b ∷ writing bs more

-- the last answer; no program's run breaks
abbrev pub last : End → List SourceTurn
last (ends.Ended v) = turns.Ended v ∷ []
last ends.Trapped = turns.Trapped ∷ []
last ends.Wild = turns.Wild ∷ []
last ends.Deep = turns.Deep ∷ []
last ends.Spent = turns.Spent ∷ []
last (ends.Broken kind) = []

-- where a run would go on, it counts a moment, and other answers follow
abbrev pub counting : End → List SourceTurn → List SourceTurn
counting (ends.Ended v) more = last (ends.Ended v)
counting ends.Trapped more = last ends.Trapped
counting ends.Wild more = last ends.Wild
counting ends.Deep more = last ends.Deep
counting ends.Spent more = turns.Going ∷ more
counting (ends.Broken kind) more = last (ends.Broken kind)

-- what a run does behind the first moment that it counts
abbrev pub behind_first : Runs → Runs
behind_first r n =
    record { output = drop (length (r 0).output) (r (suc n)).output; end = (r (suc n)).end; number = pred (r (suc n)).number }

-- What is answered one after another, where so many moments may be counted: all that is written before the first of them, that moment, and
-- what comes behind it; the last answer is that of the end.
abbrev pub answers : Runs → ℕ → List SourceTurn
answers r zero = writing (r 0).output (last (r 0).end)
answers r (suc n) = writing (r 0).output (counting (r 0).end (answers (behind_first r) n))
