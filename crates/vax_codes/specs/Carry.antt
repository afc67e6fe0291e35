-- Where the condition code C may be read.
use Rattle.std.specs.Prelude.{◌≡◌, ℕ, ◌+◌, true, List, Option, Some, None, slice_get}
use Rattle.vax_core.specs.declared.code.Instr.{Instr}
use Rattle.vax_core.specs.declared.code.CodeItem.{CodeItem}
use Rattle.vax_core.specs.declared.code.CodeItem.TheVariants as item_kind
use Rattle.vax_machine.specs.declared.function.Action.{Action}
use Rattle.vax_machine.specs.declared.function.Action.TheVariants.{Compute, Push, Branch, Call, Return}
use Rattle.vax_machine.specs.declared.function.Function.{Function}
use Rattle.vax_machine.specs.declared.function.Test.{Test}
use Rattle.vax_machine.specs.Functions.{action_of}
use Rattle.vax_machine.specs.Labels.{label_place}
use Rattle.vax_alike.specs.Corresponding.{falls, keeps_carry, asks_carry}

-- what a set of places holds at which C may be read; the least such set is that of which the pass asks
abbrev pub AsksCarry : (ℕ → Type 0) → List CodeItem → Action → Option (List ℕ) → ℕ → Type 0
AsksCarry R cs (Compute f) t p = keeps_carry f ≡ true → R (p + 1) → R p
AsksCarry R cs Push t p = R (p + 1) → R p
AsksCarry R cs (Branch x) None p = Unit {0}
AsksCarry R cs (Branch x) (Some l) p =
    (asks_carry x ≡ true → R p) × (falls (Branch x) ≡ true → R (p + 1) → R p) × (R (label_place cs l) → R p)
AsksCarry R cs Call t p = Unit {0}
AsksCarry R cs Return t p = Unit {0}

pub record IsCarrySet (R : ℕ → Type 0) (cs : List CodeItem) : Type 0 where
  pub labels : (p : ℕ) (n : List ℕ) → slice_get cs p ≡ Some (item_kind.Label n) → R (p + 1) → R p
  pub globls : (p : ℕ) (n : List ℕ) → slice_get cs p ≡ Some (item_kind.Globl n) → R (p + 1) → R p
  pub instrs : (p : ℕ) (i : Instr) → slice_get cs p ≡ Some (item_kind.Instr i) → AsksCarry R cs (action_of i.op) i.target p

-- The least such set: the places at which C may be read.
module _ (cs : List CodeItem) where
  pub data MayRead : ℕ → Type 0 where
    asked : (p : ℕ) (i : Instr) (t : Test) → slice_get cs p ≡ Some (item_kind.Instr i) → action_of i.op ≡ Branch t
        → asks_carry t ≡ true → MayRead p
    at_label : (p : ℕ) (n : List ℕ) → slice_get cs p ≡ Some (item_kind.Label n) → MayRead (p + 1) → MayRead p
    at_globl : (p : ℕ) (n : List ℕ) → slice_get cs p ≡ Some (item_kind.Globl n) → MayRead (p + 1) → MayRead p
    kept_by : (p : ℕ) (i : Instr) (f : Function) → slice_get cs p ≡ Some (item_kind.Instr i) → action_of i.op ≡ Compute f
        → keeps_carry f ≡ true → MayRead (p + 1) → MayRead p
    pushed_by : (p : ℕ) (i : Instr) → slice_get cs p ≡ Some (item_kind.Instr i) → action_of i.op ≡ Push → MayRead (p + 1) → MayRead p
    passed_by : (p : ℕ) (i : Instr) (t : Test) → slice_get cs p ≡ Some (item_kind.Instr i) → action_of i.op ≡ Branch t
        → falls (Branch t) ≡ true → MayRead (p + 1) → MayRead p
    gone_to : (p : ℕ) (i : Instr) (t : Test) (l : List ℕ) → slice_get cs p ≡ Some (item_kind.Instr i) → action_of i.op ≡ Branch t
        → i.target ≡ Some l → MayRead (label_place cs l) → MayRead p
