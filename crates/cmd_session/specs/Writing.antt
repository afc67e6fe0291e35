-- What a sink gains in a call.
use Rattle.std.specs.Prelude.{◌≡◌, ◌⊎◌, ℕ, List, ◌++◌, Option, Some, None}
use Rattle.gg_outside.specs.declared.traits.Sink.{Ghosts as Sink}
use Rattle.gg_outside.specs.Outside.{Rose, RoseAtMostOnce}

-- a sink before and after a call: what it holds, where it tells that, and its count of faults
pub record Change : Type 0 where
  pub old : Option (List ℕ)
  pub new : Option (List ℕ)
  pub before : ℕ
  pub now : ℕ

-- from one state of a sink to another
abbrev pub change : {S : Type 0} → Sink S → S → S → Change
change sink old new = record { old = sink.told old; new = sink.told new; before = sink.faults old; now = sink.faults new }

-- what is held now is what was held before and these bytes, where it is told
abbrev pub Adds : Option (List ℕ) → Option (List ℕ) → List ℕ → Type 0
Adds None new bytes = Unit {0}
Adds (Some old) new bytes = new ≡ Some (old ++ bytes)

-- the sink gained these bytes
abbrev pub Gains : Change → List ℕ → Type 0
Gains sink bytes = Adds sink.old sink.new bytes

-- the sink gained a front of these bytes
pub record GainsFront (sink : Change) (bytes : List ℕ) : Type 0 where
  pub front : List ℕ
  pub rest : List ℕ
  pub split : bytes ≡ front ++ rest
  pub gains : Gains sink front

-- the sink counted no fault
abbrev pub IsQuiet : Change → Type 0
IsQuiet sink = sink.now ≡ sink.before

-- the sink counted one fault
abbrev pub Rises : Change → Type 0
Rises sink = Rose sink.before sink.now

-- the sink counted one fault or none
abbrev pub RisesAtMostOnce : Change → Type 0
RisesAtMostOnce sink = RoseAtMostOnce sink.before sink.now

-- the sink gained nothing and counted no fault
pub record IsUntouched (sink : Change) : Type 0 where
  pub held : sink.new ≡ sink.old
  pub quiet : IsQuiet sink

-- the sink gained these bytes and counted no fault
pub record TakesAll (sink : Change) (bytes : List ℕ) : Type 0 where
  pub gains : Gains sink bytes
  pub quiet : IsQuiet sink

-- a write failed: the sink gained a front of these bytes and counted that one fault, so nothing was written behind it
pub record IsCut (sink : Change) (bytes : List ℕ) : Type 0 where
  pub front : GainsFront sink bytes
  pub rises : Rises sink

-- a report gained this line or, where a write of it failed, a front of it
abbrev pub Reports : Change → List ℕ → Type 0
Reports report line = TakesAll report line ⊎ IsCut report line
