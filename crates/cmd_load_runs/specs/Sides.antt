-- Where a run ends, and when it ends like another.
use Rattle.std.specs.Prelude.{◌≡◌, ◌<◌, ℕ, List}
use Rattle.gg_base.specs.declared.run.End.TheVariants.{Ended, Spent}
use Rattle.gg_base.specs.Runs.{Outcome, Runs}

-- the run ends with this number, having written this output, with this value; with no smaller number it ends
pub record EndsAt (r : Runs) (number : ℕ) (output : List ℕ) (value : ℕ) : Type 0 where
  pub ends : r number ≡ record { output = output; end = Ended value; number = number }
  pub least : (n : ℕ) → n < number → (r n).end ≡ Spent

-- With a number that is enough for it, the run has written what the outcome has, and ended with this value.
pub record HasEndedLike (r : Runs) (o : Outcome) (value n : ℕ) : Type 0 where
  pub is : r n ≡ record { output = o.output; end = Ended value; number = (r n).number }
  pub at : EndsAt r (r n).number o.output value

abbrev pub EndsLike : Runs → Outcome → ℕ → Type 0
EndsLike r o value = (n : ℕ) → ((r n).end ≡ Spent → ⊥) → HasEndedLike r o value n
