-- What an instruction of a template takes of its operands on the machine, by what their terms say.
use Rattle.std.specs.Prelude.{◌≡◌, ℕ, ◌<◌, true, false, ◌||◌, ◌&&◌, not, Bool, List, [], ◌∷◌, Option, Some, None, Ok, map, take}
use Rattle.std.specs.List.{AllByRecursion, list_all}
use Rattle.gg_base.specs.declared.size.Size.{Size}
use Rattle.l32_target_operands.specs.judging_laws.specs.term_core.specs.Shape.{Shape}
use Rattle.l32_target_operands.specs.judging_laws.specs.sel_target.specs.declared.attr.Attr.TheVariants as attr
use Rattle.l32_target_operands.specs.judging_laws.specs.sel_target.specs.Values.{IsRead}
use Rattle.l32_target_operands.specs.judging_laws.specs.vax_templates.specs.declared.setting.Hole.TheVariants as hole_kind
use Rattle.l32_target_operands.specs.judging_laws.specs.vax_templates.specs.declared.setting.Own.TheVariants as own
use Rattle.l32_target_operands.specs.judging_laws.specs.vax_templates.specs.Targets.{Target, ToOwn, ToSlot, ToHome, ToMemory, ToZero, ToSaved}
use Rattle.l32_target_operands.specs.judging_laws.specs.vax_templates.specs.Taking.{Taken, Arguments}
use Rattle.l32_target_operands.specs.l32_templates.specs.l32_core.specs.declared.op.Role.{Role}
use Rattle.l32_target_operands.specs.l32_templates.specs.l32_core.specs.declared.op.Role.TheVariants as roles
use Rattle.l32_target_operands.specs.l32_templates.specs.l32_core.specs.declared.op.Part.{Part}
use Rattle.l32_target_operands.specs.l32_templates.specs.l32_core.specs.declared.op.Part.TheVariants as parts
use Rattle.l32_target_operands.specs.l32_templates.specs.l32_core.specs.declared.operand.Operand32.{Operand32}
use Rattle.l32_target_operands.specs.l32_templates.specs.l32_machine.specs.declared.operands.Destination.{Destination}
use Rattle.l32_target_operands.specs.l32_templates.specs.l32_machine.specs.declared.operands.Destination.TheVariants as destinations
use Rattle.l32_target_operands.specs.l32_templates.specs.l32_machine.specs.declared.operands.Evaluated.{Evaluated}
use Rattle.l32_target_operands.specs.l32_templates.specs.l32_machine.specs.declared.operands.Evaluated.TheVariants as evaluations
use Rattle.l32_target_operands.specs.l32_templates.specs.l32_machine.specs.declared.operands.Arguments.{Arguments as Numbers}
use Rattle.l32_target_operands.specs.l32_templates.specs.l32_machine.specs.State.{State}
use Rattle.l32_target_operands.specs.l32_templates.specs.l32_machine.specs.Operands as machine
use Rattle.l32_target_operands.specs.l32_templates.specs.declared.form.Form.{Form}
use Rattle.l32_target_operands.specs.l32_templates.specs.Filled.{operand_in, filled}
use Rattle.l32_target_operands.specs.l32_target_meaning.specs.Reading.{named}
use Rattle.l32_target_operands.specs.Scenes.{Scene, worth, role_at, filling_at}
use Rattle.l32_target_operands.specs.Places.{FormIsShort, MayBeRead}

-- Where a result goes; only a statement writes something else than `%0`.
abbrev pub IsTarget : Scene → State → Target → Destination → Type 0
IsTarget c m ToOwn (destinations.Register n) = (c.own ≡ attr.Reg n) × (n < 12) × (c.setting.own ≡ own.Register)
IsTarget c m ToZero (destinations.Register n) = (n ≡ 0) × (c.setting.is_statement ≡ true)
IsTarget c m (ToSlot z) (destinations.Memory a size) =
    (z ≡ size) × (named m (operand_in c.program c.own) ≡ Some a) × ((y : Size) × (c.setting.own ≡ own.Slot y))
IsTarget c m (ToHome z i) (destinations.Memory a size) =
    (z ≡ size) × (named m (operand_in c.program (filling_at c i)) ≡ Some a) × (c.setting.is_statement ≡ true)
IsTarget c m (ToMemory z x) (destinations.Memory a size) = (z ≡ size) × (a ≡ worth c x) × (c.setting.is_statement ≡ true)
IsTarget c m (ToSaved i) (destinations.Memory a size) =
    (named m (operand_in c.program (filling_at c i)) ≡ Some a) × (c.setting.is_statement ≡ true) × (role_at c i ≡ hole_kind.Saved)
IsTarget c m t d = ⊥

abbrev pub IsDestination : Scene → State → Option Target → Option Destination → Type 0
IsDestination c m None None = Unit {0}
IsDestination c m None (Some d) = ⊥
IsDestination c m (Some t) None = ⊥
IsDestination c m (Some t) (Some d) = IsTarget c m t d

-- memory that is read can be, and so can the address of memory that is written
abbrev pub AreRead : Scene → List Shape → Type 0
AreRead c ts = AllByRecursion (λ (t : Shape). IsRead c.view t) ts

abbrev pub CanAim : Scene → Option Target → Type 0
CanAim c (Some (ToMemory z a)) = c.setting.is_statement ≡ true → IsRead c.view a
CanAim c t = Unit {0}

-- ---- one operand

-- what an operand gives is what its term says
abbrev pub IsTaken : Scene → State → Taken → Evaluated → Type 0
IsTaken c m t (evaluations.Number v) = (t.target ≡ None) × (v ≡ worth c t.term)
IsTaken c m t (evaluations.Goes d) = (to : Target) × (t.target ≡ Some to) × IsTarget c m to d

pub record Evaluates (c : Scene) (m : State) (role : Role) (o : Operand32) (t : Taken) : Type 0 where
  pub given : Evaluated
  pub is : machine.evaluated m role o ≡ Ok given
  pub so : IsTaken c m t given

-- ---- all operands

-- an operand is written
abbrev pub is_aimed : Role → Bool
is_aimed roles.Destination = true
is_aimed (roles.Store size) = true
is_aimed role = false

abbrev pub aims : Part → Bool
aims parts.Label = false
aims (parts.Operand role) = is_aimed role

-- no operand is written behind one that is written
abbrev pub aims_once : List Part → Bool
aims_once [] = true
aims_once (p ∷ ps) = (not (aims p) || list_all (λ (q : Part). not (aims q)) ps) && aims_once ps

-- what is taken on the machine is what the terms say
pub record AreArguments (c : Scene) (m : State) (x : Arguments) (y : Numbers) : Type 0 where
  pub first : y.first ≡ worth c x.first
  pub second : y.second ≡ worth c x.second
  pub destination : IsDestination c m x.target y.destination

-- the operands of a line that are spelled
pub record MayStand (c : Scene) (zero : Option Shape) (f : Form) : Type 0 where
  pub short : FormIsShort f
  pub may : MayBeRead c zero f

pub record Takes (c : Scene) (m : State) (ps : List Part) (forms : List Form) (n : ℕ) (x : Arguments) : Type 0 where
  pub numbers : Numbers
  pub is : machine.all_evaluated m ps (map (filled c.program c.holes c.own) (take n forms)) ≡ Ok numbers
  pub so : AreArguments c m x numbers
