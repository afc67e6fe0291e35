-- What an instruction of a template takes of its operands on the machine, by what their terms say.
use Rattle.std.specs.Prelude.{◌≡◌, ℕ, ◌≤◌, Bool, true, false, List, [], ◌∷◌, length, map, take, Option, Some, None, Ok}
use Rattle.std.specs.List.{AllByRecursion}
use Rattle.gg_base.specs.declared.size.Size.{Size}
use Rattle.gg_base.specs.declared.size.Size.TheVariants.{Long}
use Rattle.vax_target_operands.specs.term_core.specs.Shape.{Shape}
use Rattle.vax_target_operands.specs.sel_target.specs.Values.{IsRead}
use Rattle.vax_core.specs.declared.register.Reg.TheVariants.{R0}
use Rattle.vax_core.specs.declared.op.Access.{Access}
use Rattle.vax_core.specs.declared.op.Access.TheVariants as accesses
use Rattle.vax_core.specs.declared.op.OperandKind.{OperandKind}
use Rattle.vax_machine.specs.declared.operands.Location.{Location}
use Rattle.vax_machine.specs.declared.operands.Location.TheVariants as locations
use Rattle.vax_machine.specs.declared.operands.Destination.{Destination}
use Rattle.vax_machine.specs.declared.operands.Arguments.{Arguments as Numbers}
use Rattle.vax_machine.specs.State.{State}
use Rattle.vax_target_operands.specs.vax_confined.specs.Confined as confined
use Rattle.vax_target_operands.specs.vax_confined.specs.Confined.{may_touch, in_area}
use Rattle.vax_target_operands.specs.vax_templates.specs.declared.form.Form.{Form}
use Rattle.vax_target_operands.specs.vax_templates.specs.declared.setting.Own.TheVariants as own
use Rattle.vax_target_operands.specs.vax_templates.specs.Targets.{Target, ToOwn, ToSlot, ToHome, ToMemory, ToZero, ToSaved}
use Rattle.vax_target_operands.specs.vax_templates.specs.Taking.{Arguments, all_evaluated}
use Rattle.vax_target_operands.specs.vax_templates.specs.Filled.{operand_in, filled}
use Rattle.vax_target_operands.specs.Scenes.{Scene, worth, filling_at, IsSavedLocal, Sees}
use Rattle.vax_target_operands.specs.vax_target_confined.specs.Claims.{StandsAt}
use Rattle.vax_target_operands.specs.Places.{own_at, IsHome, BaseIsShort, MayBeRead}
use Rattle.vax_target_operands.specs.Conditions.{IsNarrow}

-- a symbol's own place, where that may be touched
pub record IsHomeTarget (c : Scene) (m : State) (i : ℕ) (size : Size) (l : Location) : Type 0 where
  pub place : Location
  pub home : IsHome c m i size place
  pub is : may_touch m (own_at c i) place size ≡ true → l ≡ place

-- a location is what is to be written, where that may be touched; only a statement writes something else than `%0`
abbrev pub IsTarget : Scene → State → Target → Location → Size → Type 0
IsTarget c m ToOwn l size = StandsAt m (operand_in c.program c.own) size l × (size ≡ Long) × (c.setting.own ≡ own.Register)
IsTarget c m (ToSlot z) l size = StandsAt m (operand_in c.program c.own) size l × (z ≡ size) × ((y : Size) × (c.setting.own ≡ own.Slot y))
IsTarget c m (ToHome z i) l size = IsHomeTarget c m i size l × (z ≡ size) × (c.setting.is_statement ≡ true)
IsTarget c m (ToMemory z a) l size =
    (in_area m (worth c a) size ≡ true → l ≡ locations.Memory (worth c a)) × (z ≡ size) × (c.setting.is_statement ≡ true)
IsTarget c m ToZero l size = (l ≡ locations.Register R0) × (c.setting.is_statement ≡ true)
IsTarget c m (ToSaved i) l size =
    StandsAt m (operand_in c.program (filling_at c i)) size l × IsSavedLocal c (filling_at c i) × (c.setting.is_statement ≡ true)

abbrev pub IsDestination : Scene → State → Option Target → Option Destination → Type 0
IsDestination c m None None = Unit {0}
IsDestination c m None (Some d) = ⊥
IsDestination c m (Some t) None = ⊥
IsDestination c m (Some t) (Some d) = IsTarget c m t d.location d.size

-- memory that is read can be, and the address of memory that is written
abbrev pub AreRead : Scene → List Shape → Type 0
AreRead c ts = AllByRecursion (λ (t : Shape). IsRead c.view t) ts

abbrev pub CanAim : Scene → Option Target → Type 0
CanAim c (Some (ToMemory z a)) = c.setting.is_statement ≡ true → IsRead c.view a
CanAim c t = Unit {0}

-- a number that is read is of the operand's size
abbrev pub IsOfSize : OperandKind → ℕ → Type 0
IsOfSize k n = k.access ≡ accesses.Read → IsNarrow k.size n

abbrev pub AreOfSize : List OperandKind → ℕ → ℕ → Type 0
AreOfSize [] a b = Unit {0}
AreOfSize (k ∷ []) a b = IsOfSize k a
AreOfSize (k ∷ j ∷ ks) a b = IsOfSize k a × IsOfSize j b

abbrev pub AtSize : Option Destination → Size → Type 0
AtSize None size = Unit {0}
AtSize (Some d) size = d.size ≡ size

abbrev pub last_size : List OperandKind → Size
last_size [] = Long
last_size (k ∷ []) = k.size
last_size (k ∷ j ∷ ks) = last_size (j ∷ ks)

-- what is taken on the confined machine is what the terms say
pub record AreArguments (c : Scene) (m : State) (kinds : List OperandKind) (x : Arguments) (y : Numbers) : Type 0 where
  pub first : y.first ≡ worth c x.first
  pub second : y.second ≡ worth c x.second
  pub destination : IsDestination c m x.target y.destination
  pub at_size : AtSize y.destination (last_size kinds)
  pub sizes : AreOfSize kinds y.first y.second

-- an operand's access has a destination
abbrev pub aims : Access → Bool
aims accesses.Read = false
aims accesses.Modify = true
aims accesses.Write = true
aims accesses.Address = false
aims accesses.Count = false

-- only the last operand is written
abbrev pub LastIsWritten : List OperandKind → Type 0
LastIsWritten [] = Unit {0}
LastIsWritten (k ∷ []) = Unit {0}
LastIsWritten (k ∷ j ∷ ks) = (aims k.access ≡ false) × LastIsWritten (j ∷ ks)

-- the operands of a line that are spelled
pub record MayStand (c : Scene) (zero : Option Shape) (f : Form) : Type 0 where
  pub short : BaseIsShort f.base
  pub may : MayBeRead c zero f

-- the confined machine takes what the terms say
pub record Takes (c : Scene) (m : State) (kinds : List OperandKind) (forms : List Form) (n : ℕ) (x : Arguments) : Type 0 where
  pub numbers : Numbers
  pub is : confined.all_evaluated kinds (map (filled c.program c.holes c.own) (take n forms)) m ≡ Ok (numbers, m)
  pub so : AreArguments c m kinds x numbers

-- Where what is read can be read, and no operand has a wrong size, an instruction's operands are evaluated, and nothing changes by that.
abbrev pub OperandsAreTaken : Type 0
OperandsAreTaken = (c : Scene) (zero : Option Shape) (m : State) (kinds : List OperandKind) (forms : List Form) (n : ℕ) (x : Arguments) →
    Sees c zero m → LastIsWritten kinds → length kinds ≤ n → AllByRecursion (MayStand c zero) forms →
    all_evaluated c.setting c.roles zero kinds forms ≡ Ok x → x.missized ≡ false → AreRead c x.reads → CanAim c x.target
    → Takes c m kinds forms n x
