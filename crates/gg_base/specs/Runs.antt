-- What is said of every run, of a source, of trees and of code.
use Rattle.std.specs.Prelude.{◌≡◌, ℕ, zero, suc, ◌+◌, ◌<◌, ◌≤◌, List, [], ◌∷◌, ◌++◌, Bool}
use Rattle.gg_base.specs.declared.run.End.{End}
use Rattle.gg_base.specs.declared.run.End.TheVariants.{Ended, Trapped, Wild, Deep, Spent}
use Rattle.gg_base.specs.declared.run.SourceTurn.{SourceTurn}
use Rattle.gg_base.specs.declared.run.SourceTurn.TheVariants as turns

-- what is still to come of a run: its output, its end, and how many moments are counted before the end
pub record Outcome : Type 0 where
  pub output : List ℕ
  pub end : End
  pub number : ℕ

-- a run: its outcome for each number of moments that may be counted
abbrev pub Runs : Type 0
Runs = ℕ → Outcome

-- a byte is written first
abbrev pub byte_first : ℕ → Outcome → Outcome
byte_first b o = record { output = b ∷ o.output; end = o.end; number = o.number }

abbrev pub emit : ℕ → Runs → Runs
emit b r n = byte_first b (r n)

-- a moment is counted first; where none may be, the run is spent
abbrev pub one_first : Outcome → Outcome
one_first o = record { output = o.output; end = o.end; number = suc o.number }

abbrev pub counted : Runs → Runs
counted r zero = record { output = []; end = Spent; number = 0 }
counted r (suc n) = one_first (r n)

-- the run ends here
abbrev pub stop : End → Runs
stop e n = record { output = []; end = e; number = 0 }

-- A run has one end, which it reaches with each number from the end's own on, and with no smaller one.
pub record OneEnd (r : Runs) : Type 0 where
  -- no more is counted than may be
  pub within : (n : ℕ) → (r n).number ≤ n
  -- a run that is spent has counted all that it may
  pub spent : (n : ℕ) → (r n).end ≡ Spent → (r n).number ≡ n
  -- with a larger number the output goes on
  pub longer : (m n : ℕ) → m ≤ n → (more : List ℕ) × ((r n).output ≡ (r m).output ++ more)
  -- an end is reached with each number from its own on
  pub stays : (m n : ℕ) → ((r n).end ≡ Spent → ⊥) → (r n).number ≤ m → r m ≡ r n
  -- and with no smaller one
  pub before : (m n : ℕ) → m < (r n).number → (r m).end ≡ Spent

-- where a run that is done step by step stands: what is still to come, how many moments are counted so far, and whether memory has failed
pub record Remaining : Type 0 where
  pub outcome : Outcome
  pub taken : ℕ
  pub failed : Bool

-- so many more are counted
abbrev pub after : ℕ → Remaining → Remaining
after amount old = record { outcome = old.outcome; taken = old.taken + amount; failed = old.failed }

-- at an end no output was left, the end is that one, and the count is its number
abbrev pub Closed : ℕ → Remaining → End → Remaining → Type 0
Closed amount old e new = (old.outcome ≡ record { output = []; end = e; number = old.taken + amount }) × (new ≡ after amount old)

-- what an answer says of the run before it and behind it, where it counted so many moments
abbrev pub AdvancesBy : ℕ → Remaining → SourceTurn → Remaining → Type 0
AdvancesBy amount old turns.Going new = new ≡ after amount old
AdvancesBy amount old (turns.Wrote b) new = (old.outcome ≡ byte_first b new.outcome) × (new.taken ≡ old.taken + amount)
    × (new.failed ≡ old.failed)
AdvancesBy amount old (turns.Ended s) new = Closed amount old (Ended s) new
AdvancesBy amount old turns.Trapped new = Closed amount old Trapped new
AdvancesBy amount old turns.Wild new = Closed amount old Wild new
AdvancesBy amount old turns.Deep new = Closed amount old Deep new
AdvancesBy amount old turns.Spent new = Closed amount old Spent new

-- a source counts where it answers that it goes on, and nowhere else
abbrev pub amount_of : SourceTurn → ℕ
amount_of turns.Going = 1
amount_of (turns.Wrote b) = 0
amount_of (turns.Ended s) = 0
amount_of turns.Trapped = 0
amount_of turns.Wild = 0
amount_of turns.Deep = 0
amount_of turns.Spent = 0

abbrev pub Advances : Remaining → SourceTurn → Remaining → Type 0
Advances old turn new = AdvancesBy (amount_of turn) old turn new
