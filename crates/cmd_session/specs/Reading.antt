-- What a source gives in a call.
use Rattle.std.specs.Prelude.{◌≡◌, ◌<◌, ◌≤◌, ℕ, List, [], ◌++◌, length, Option, Some, None, Result, Ok, Err}
use Rattle.gg_outside.specs.declared.traits.Source.{Ghosts as Source}
use Rattle.gg_outside.specs.Outside.{Rose, RoseAtMostOnce, next_count}
use Rattle.cmd_session.specs.declared.input.InputFault.{InputFault}
use Rattle.cmd_session.specs.declared.input.InputFault.TheVariants as faults

-- an input before and after a call: what is left of it, where it tells that, and its count of faults
pub record Intake : Type 0 where
  pub old : Option (List ℕ)
  pub new : Option (List ℕ)
  pub before : ℕ
  pub now : ℕ

-- from one state of a source to another
abbrev pub intake : {S : Type 0} → Source S → S → S → Intake
intake source old new = record { old = source.left old; new = source.left new; before = source.faults old; now = source.faults new }

-- these bytes were taken from the front, where it is told
abbrev pub Loses : Option (List ℕ) → Option (List ℕ) → List ℕ → Type 0
Loses None new bytes = Unit {0}
Loses (Some old) new bytes = (rest : List ℕ) × (old ≡ bytes ++ rest) × (new ≡ Some rest)

-- these bytes were all that was left, and nothing is left, where it is told
abbrev pub LosesAll : Option (List ℕ) → Option (List ℕ) → List ℕ → Type 0
LosesAll None new bytes = Unit {0}
LosesAll (Some old) new bytes = (bytes ≡ old) × (new ≡ Some [])

-- the input gave all that it had left: these bytes
abbrev pub GivesAll : Intake → List ℕ → Type 0
GivesAll input bytes = LosesAll input.old input.new bytes

-- no more bytes than these were taken
pub record TakesAtMost (most : ℕ) (input : Intake) : Type 0 where
  pub taken : List ℕ
  pub within : length taken ≤ most
  pub loses : Loses input.old input.new taken

-- more bytes than the limit are left, where it is told
abbrev pub HasOver : ℕ → Option (List ℕ) → Type 0
HasOver limit None = Unit {0}
HasOver limit (Some left) = limit < length left

-- the input counted no fault
abbrev pub IsUnbroken : Intake → Type 0
IsUnbroken input = input.now ≡ input.before

-- the input counted one fault
abbrev pub Fails : Intake → Type 0
Fails input = Rose input.before input.now

-- the input counted one fault or none
abbrev pub FailsAtMostOnce : Intake → Type 0
FailsAtMostOnce input = RoseAtMostOnce input.before input.now

-- nothing was taken of the input, and it counted no fault
pub record IsUntaken (input : Intake) : Type 0 where
  pub left : input.new ≡ input.old
  pub unbroken : IsUnbroken input

-- the input's count of faults behind its reading, by the answer
abbrev pub count_after : {T : Type 0} → ℕ → Result T InputFault → ℕ
count_after count (Ok x) = count
count_after count (Err faults.NoMemory) = count
count_after count (Err faults.Failed) = next_count count
count_after count (Err faults.TooLong) = count

-- so many bytes were moved from the front to the end of others, none only where nothing was left
abbrev pub Moves : ℕ → Option (List ℕ) → Option (List ℕ) → List ℕ → List ℕ → Type 0
Moves n None new had has = Unit {0}
Moves n (Some old) new had has = (front : List ℕ) × (has ≡ had ++ front) × (Loses (Some old) new front) × (n ≡ 0 → old ≡ [])
