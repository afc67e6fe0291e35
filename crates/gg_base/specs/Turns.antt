-- The answers of a run that is done turn by turn, one after another, and where it stands between two of them.
use Rattle.std.specs.Prelude.{◌≡◌, ℕ, ◌+◌, List, [], ◌∷◌}
use Rattle.gg_base.specs.declared.run.End.{End}
use Rattle.gg_base.specs.declared.run.End.TheVariants as ends
use Rattle.gg_base.specs.declared.run.Finish.{Finish}
use Rattle.gg_base.specs.declared.run.Finish.TheVariants as finish
use Rattle.gg_base.specs.declared.run.SourceTurn.{SourceTurn}
use Rattle.gg_base.specs.declared.run.SourceTurn.TheVariants as turns
use Rattle.gg_base.specs.Runs.{Outcome, Remaining}

-- the end of a run that finishes so
abbrev pub end_of : Finish → End
end_of (finish.Ended v) = ends.Ended v
end_of finish.Trapped = ends.Trapped
end_of finish.Wild = ends.Wild
end_of finish.Deep = ends.Deep

-- the answer at that end
abbrev pub turn_of : Finish → SourceTurn
turn_of (finish.Ended v) = turns.Ended v
turn_of finish.Trapped = turns.Trapped
turn_of finish.Wild = turns.Wild
turn_of finish.Deep = turns.Deep

-- An answer is the first of those that were still to come; that of the end is answered again and again.
abbrev pub Answers : SourceTurn → List SourceTurn → List SourceTurn → Type 0
Answers turns.Going old new = old ≡ turns.Going ∷ new
Answers (turns.Wrote b) old new = old ≡ turns.Wrote b ∷ new
Answers (turns.Ended v) old new = (old ≡ turns.Ended v ∷ []) × (new ≡ old)
Answers turns.Trapped old new = (old ≡ turns.Trapped ∷ []) × (new ≡ old)
Answers turns.Wild old new = (old ≡ turns.Wild ∷ []) × (new ≡ old)
Answers turns.Deep old new = (old ≡ turns.Deep ∷ []) × (new ≡ old)
Answers turns.Spent old new = (old ≡ turns.Spent ∷ []) × (new ≡ old)

-- the number counts from the run's begin
abbrev pub counted_from : ℕ → Outcome → Outcome
counted_from taken o = record { output = o.output; end = o.end; number = taken + o.number }

-- a run that is done turn by turn: the answers that are still to come, and what else is
pub record Turns : Type 0 where
  pub answers : List SourceTurn
  pub remaining : Remaining
