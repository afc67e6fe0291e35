-- Two codes that do the same piece by piece: what has to be shown of the pieces between places that stand to each other.
use Rattle.std.specs.Prelude.{◌≡◌, ℕ, ◌+◌, List, Some, None, slice_get}
use Rattle.vax_machine_lists.specs.vax_core.specs.declared.register.Reg.TheVariants.{R0}
use Rattle.vax_machine_lists.specs.vax_core.specs.declared.code.Code.{Code}
use Rattle.vax_machine_lists.specs.vax_core.specs.declared.code.CodeItem.{CodeItem}
use Rattle.vax_machine_lists.specs.vax_core.specs.First.{main_name}
use Rattle.vax_machine_lists.specs.vax_machine.specs.declared.turn.Stop.{Stop}
use Rattle.vax_machine_lists.specs.vax_machine.specs.State.{State, reg}
use Rattle.vax_machine_lists.specs.vax_machine.specs.Labels.{next_item, label_place}
use Rattle.vax_machine_lists.specs.vax_machine.specs.Calls.{entry_mask, called, silent, returned}
use Rattle.vax_machine_lists.specs.vax_machine.specs.Step.{Stops, act, step_of}
use Rattle.vax_machine_lists.specs.vax_machine.specs.Loading.{blank, start}
use Rattle.vax_machine_lists.specs.Sound.{AllBelow, Behind}
use Rattle.vax_pairs.specs.Ways.{Way, Nearer}
use Rattle.vax_pairs.specs.Standing.{Seen, IsSteady, Later, Entering, Even, Stands}

-- Rel: names of relations; Holds: what each says; At: a place of the first code stands to one of the second, with a relation, and
-- a number that falls where only one of the two goes on
module _ (Rel : Type 0) (Holds : Rel → Seen → Seen → Type 0) (At : ℕ → ℕ → ℕ → Rel → Type 0) where
  module _ (cs ds : List CodeItem) where
    -- Calls with these registers to two places come to the same mask, and to places behind it that stand to each other; or neither
    -- comes to a mask.
    pub record Enters (place other : ℕ) (us vs : List ℕ) : Type 0 where
      pub mask : entry_mask (slice_get ds (next_item ds other)) ≡ entry_mask (slice_get cs (next_item cs place))
      pub into : (mask : ℕ) → entry_mask (slice_get cs (next_item cs place)) ≡ Some mask
          → (k : ℕ) × ((r : Rel) × (At k (next_item cs place + 1) (next_item ds other + 1) r × Entering Rel Holds At r us vs))

    -- both call the same function with as many arguments, in these states
    pub record Call (x y : State) : Type 0 where
      pub count : ℕ
      pub name : List ℕ
      pub from : State
      pub other : State
      pub does : act x ≡ silent (called from count (label_place cs name) (Some from.place))
      pub others_does : act y ≡ silent (called other count (label_place ds name) (Some other.place))
      pub items : from.items ≡ cs
      pub others_items : other.items ≡ ds
      pub even : Even Rel Holds At from other
      pub enters : Enters (label_place cs name) (label_place ds name) from.registers other.registers
      pub behind : (k : ℕ) × ((r : Rel) × (At k from.place other.place r × Later Rel Holds At r from.registers other.registers))

  -- both return with the same result, in these states
  pub record Return (x y : State) : Type 0 where
    pub from : State
    pub other : State
    pub does : act x ≡ returned from
    pub others_does : act y ≡ returned other
    pub even : Even Rel Holds At from other
    pub result : reg other R0 ≡ reg from R0
    pub steady : IsSteady from
    pub others_steady : IsSteady other

  -- What becomes of two states that stand to each other. Both write the same bytes on their ways and then
  pub data Meets (cs ds : List CodeItem) (k : ℕ) (m n : State) : Type 0 where
    -- come to places that stand to each other,
    Onward : (i j l : ℕ) (w : List ℕ) (x y : State) (r : Rel) → Way x m w i → Way y n w j → Nearer i j l k
        → Stands Rel Holds At l r x y → Meets cs ds k m n
    -- are over in the same way,
    Ending : (i j : ℕ) (w : List ℕ) (x y : State) (e : Stop) → Way x m w i → Way y n w j
        → step_of x ≡ Stops e → step_of y ≡ Stops e → Meets cs ds k m n
    -- call,
    Calling : (i j : ℕ) (w : List ℕ) (x y : State) → Way x m w i → Way y n w j
        → x.over ≡ None → y.over ≡ None → Call cs ds x y → Meets cs ds k m n
    -- or return
    Returning : (i j : ℕ) (w : List ℕ) (x y : State) → Way x m w i → Way y n w j
        → x.over ≡ None → y.over ≡ None → Return x y → Meets cs ds k m n

-- what holds of each state of a code's runs
pub record Invariant (c : Code) (Ready : State → Type 0) : Type 0 where
  pub begins : (input : List ℕ) → AllBelow 256 input → (start c input).over ≡ None → Ready (start c input)
  pub goes_on : (m : State) → Ready m → Behind Ready (step_of m)

-- Two codes do the same piece by piece.
pub record Piecewise (Rel : Type 0) (Holds : Rel → Seen → Seen → Type 0) (At : ℕ → ℕ → ℕ → Rel → Type 0)
    (Ready OthersReady : State → Type 0) (c d : Code) : Type 0 where
  pub area : d.area ≡ c.area
  pub invariant : Invariant c Ready
  pub others_invariant : Invariant d OthersReady
  pub main : (input : List ℕ)
      → Enters Rel Holds At c.items d.items (label_place c.items main_name) (label_place d.items main_name)
      (blank c input).registers (blank d input).registers
  pub meets : (k : ℕ) (r : Rel) (m n : State) → Stands Rel Holds At k r m n → Ready m → OthersReady n
      → Meets Rel Holds At c.items d.items k m n
