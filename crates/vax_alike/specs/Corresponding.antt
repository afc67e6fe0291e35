-- What is to be shown of two codes, place by place, that their runs do the same: a simulation in which the first code may do steps alone,
-- each time only so many.
use Rattle.std.specs.Prelude.{◌≡◌, ℕ, ◌+◌, ◌<◌, Bool, true, false, ◌||◌, List, Option, Some, None, Ok, slice_get}
use Rattle.vax_core.specs.declared.code.Code.{Code}
use Rattle.vax_core.specs.declared.code.Instr.{Instr}
use Rattle.vax_core.specs.declared.code.CodeItem.{CodeItem}
use Rattle.vax_core.specs.declared.code.CodeItem.TheVariants as item_kind
use Rattle.vax_core.specs.First.{main_name}
use Rattle.vax_machine.specs.declared.function.Action.{Action}
use Rattle.vax_machine.specs.declared.function.Action.TheVariants.{Compute, Push, Branch, Call, Return}
use Rattle.vax_machine.specs.declared.function.Conditions.{Conditions}
use Rattle.vax_machine.specs.declared.function.Function.{Function}
use Rattle.vax_machine.specs.declared.function.Function.TheVariants as functions
use Rattle.vax_machine.specs.declared.function.Test.{Test}
use Rattle.vax_machine.specs.declared.function.Test.TheVariants as test
use Rattle.vax_machine.specs.State.{State}
use Rattle.vax_machine.specs.Functions.{action_of}
use Rattle.vax_machine.specs.Labels.{next_item, label_place, has_label, is_service}
use Rattle.vax_machine.specs.Calls.{entry_mask}
use Rattle.vax_machine.specs.Step.{act, step_of}
use Rattle.vax_machine.specs.Loading.{start}
use Rattle.vax_machine_lists.specs.Sound.{AllBelow, Behind}

-- A place of the first code stands to a place of the second; the first code has done what it does alone there in fewer than so many steps.
abbrev pub Standing : Type 1
Standing = ℕ → ℕ → ℕ → Type 0

abbrev pub Somewhere : Standing → ℕ → ℕ → Type 0
Somewhere At p q = (k : ℕ) × At k p q

-- the run may come behind the instruction
abbrev pub falls : Action → Bool
falls (Compute f) = true
falls Push = true
falls (Branch test.Always) = false
falls (Branch t) = true
falls Call = true
falls Return = false

-- C is as it was behind what is computed
abbrev pub keeps_carry : Function → Bool
keeps_carry (functions.Copy size) = true
keeps_carry functions.Clear = true
keeps_carry functions.Complement = true
keeps_carry functions.BitSet = true
keeps_carry functions.BitClear = true
keeps_carry functions.ExclusiveOr = true
keeps_carry functions.BitTest = true
keeps_carry f = false

-- whether a branch is taken hangs on C
abbrev pub asks_carry : Test → Bool
asks_carry test.LessUnsigned = true
asks_carry test.LessOrEqualUnsigned = true
asks_carry test.GreaterUnsigned = true
asks_carry test.GreaterOrEqualUnsigned = true
asks_carry t = false

abbrev pub is_instr : Option CodeItem → Bool
is_instr None = false
is_instr (Some (item_kind.Label n)) = false
is_instr (Some (item_kind.Globl n)) = false
is_instr (Some (item_kind.Mask m)) = false
is_instr (Some (item_kind.Instr i)) = true

-- a call names a service or a label of the code
abbrev pub IsDefined : List CodeItem → Option (List ℕ) → Type 0
IsDefined cs None = Unit {0}
IsDefined cs (Some f) = (is_service f || has_label cs f) ≡ true

module _ (cs ds : List CodeItem) (At : Standing) (Reads : ℕ → Type 0) (Ready : State → Type 0) where
  -- where a branch of the first code goes, and one of the second; a call names the same
  abbrev pub Targets : Action → Option (List ℕ) → Option (List ℕ) → Type 0
  Targets (Compute f) t u = Unit {0}
  Targets Push t u = Unit {0}
  Targets (Branch x) None u = u ≡ None
  Targets (Branch x) (Some l) u = (n : List ℕ) × (u ≡ Some n) × Somewhere At (label_place cs l) (label_place ds n)
  Targets Call t u = (u ≡ t) × IsDefined cs t
  Targets Return t u = Unit {0}

  -- where C may be read behind an instruction that leaves it, C may be read before it; and a branch may read it
  abbrev pub Carries : Action → Option (List ℕ) → ℕ → ℕ → Type 0
  Carries (Compute f) t p behind = keeps_carry f ≡ true → Reads behind → Reads p
  Carries Push t p behind = Reads behind → Reads p
  Carries (Branch x) None p behind = Unit {0}
  Carries (Branch x) (Some l) p behind =
      (asks_carry x ≡ true → Reads p) × (falls (Branch x) ≡ true → Reads behind → Reads p) × (Reads (label_place cs l) → Reads p)
  Carries Call t p behind = Unit {0}
  Carries Return t p behind = Unit {0}

  -- The run stands at a place of each code; the next items are instructions that do the same.
  pub record DoTheSame (i j : Instr) (p q : ℕ) : Type 0 where
    pub op : j.op ≡ i.op
    pub operands : j.operands ≡ i.operands
    pub targets : Targets (action_of i.op) i.target j.target
    pub carries : Carries (action_of i.op) i.target p (next_item cs p + 1)
    pub behind : falls (action_of i.op) ≡ true → Somewhere At (next_item cs p + 1) (next_item ds q + 1)

  -- The first code goes from one place to another, and no more comes of it than another C where C may not be read.
  pub record Stays (m : State) (p to : ℕ) : Type 0 where
    pub conditions : Conditions
    pub acts : act m ≡ Ok (None, record m { place = to; conditions = conditions })
    pub negative : conditions.negative ≡ m.conditions.negative
    pub zero : conditions.is_zero ≡ m.conditions.is_zero
    pub carry : Reads to → Reads p × (conditions.carry ≡ m.conditions.carry)

  -- what is next at two places that stand to each other, the first code having fewer than k steps to do alone
  pub data Meets (k p q : ℕ) : Type 0 where
    -- no instruction in either
    Neither : is_instr (slice_get cs (next_item cs p)) ≡ false → is_instr (slice_get ds (next_item ds q)) ≡ false → Meets k p q
    -- instructions that do the same
    Both : (i j : Instr) → slice_get cs (next_item cs p) ≡ Some (item_kind.Instr i)
        → slice_get ds (next_item ds q) ≡ Some (item_kind.Instr j) → DoTheSame i j p q → Meets k p q
    -- a step of the first code alone
    Alone : (to j : ℕ) → j < k → At j to q
        → ((m : State) → m.items ≡ cs → m.place ≡ p → m.over ≡ None → Ready m → Stays m p to) → Meets k p q

-- Calls to two places come to the same mask, with places behind it that stand to each other; or neither comes to a mask.
pub record EnterAlike (cs ds : List CodeItem) (At : Standing) (place other : ℕ) : Type 0 where
  pub mask : entry_mask (slice_get ds (next_item ds other)) ≡ entry_mask (slice_get cs (next_item cs place))
  pub behind : (mask : ℕ) → entry_mask (slice_get cs (next_item cs place)) ≡ Some mask
      → Somewhere At (next_item cs place + 1) (next_item ds other + 1)

-- The places of two codes correspond.
--   At: which place of the second code stands to a place of the first
--   Reads: at which places of the first code C may be read; N and Z are the same everywhere
--   Ready: what holds of each state of the first code's runs
pub record Correspond (c d : Code) (At : Standing) (Reads : ℕ → Type 0) (Ready : State → Type 0) : Type 0 where
  pub area : d.area ≡ c.area
  pub main : has_label c.items main_name ≡ true
  pub enters : (l : List ℕ) → has_label c.items l ≡ true → EnterAlike c.items d.items At (label_place c.items l) (label_place d.items l)
  pub meets : (k p q : ℕ) → At k p q → Meets c.items d.items At Reads Ready k p q
  pub begins : (input : List ℕ) → AllBelow 256 input → (start c input).over ≡ None → Ready (start c input)
  pub goes_on : (m : State) → m.items ≡ c.items → m.over ≡ None → Ready m → Behind Ready (step_of m)
