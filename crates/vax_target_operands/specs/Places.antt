-- Where an operand of a template stands when its line is run.
use Rattle.std.specs.Prelude.{◌≡◌, ℕ, ◌^◌, ◌<◌, Bool, true, false, Option, Some, None, IsSome, Ok}
use Rattle.gg_base.specs.declared.size.Size.{Size}
use Rattle.gg_base.specs.declared.size.Size.TheVariants.{Long}
use Rattle.vax_target_meaning.specs.term_core.specs.Shape.{Shape, Symbol}
use Rattle.vax_target_meaning.specs.sel_target.specs.Values.{IsRead}
use Rattle.vax_core.specs.declared.register.Reg.{Reg}
use Rattle.vax_core.specs.declared.register.Reg.TheVariants.{R0}
use Rattle.vax_core.specs.declared.operand.Operand.{Operand}
use Rattle.vax_target_meaning.specs.vax_confined.specs.Confined.{is_own_place, may_touch}
use Rattle.vax_target_meaning.specs.vax_machine.specs.declared.operands.Location.{Location}
use Rattle.vax_target_meaning.specs.vax_machine.specs.declared.operands.Location.TheVariants as locations
use Rattle.vax_target_meaning.specs.vax_machine.specs.State.{State, reg}
use Rattle.vax_target_meaning.specs.vax_templates.specs.declared.form.Number.{Number}
use Rattle.vax_target_meaning.specs.vax_templates.specs.declared.form.Number.TheVariants as number
use Rattle.vax_target_meaning.specs.vax_templates.specs.declared.form.Base.{Base}
use Rattle.vax_target_meaning.specs.vax_templates.specs.declared.form.Base.TheVariants as base
use Rattle.vax_target_meaning.specs.vax_templates.specs.declared.form.Form.{Form}
use Rattle.vax_target_meaning.specs.vax_templates.specs.Filled.{operand_in, filled}
use Rattle.vax_target_meaning.specs.vax_templates.specs.Standing.{Where, Immediate, Register, OwnRegister, RegisterZero}
use Rattle.vax_target_meaning.specs.vax_templates.specs.Standing.{Value, Place, Local}
use Rattle.vax_target_meaning.specs.vax_templates.specs.Standing.{SavedPlace, Saved, At, form_where}
use Rattle.vax_target_meaning.specs.Reading.{names}
use Rattle.vax_target_meaning.specs.vax_templates.specs.Judging.{spells_symbol}
use Rattle.vax_target_confined.specs.Claims.{StandsAt, IsReadAt}
use Rattle.vax_target_operands.specs.Scenes.{Scene, worth, filling_at, IsSavedLocal, is_lost, Sees}

-- a register with a number in it
pub record InRegister (m : State) (l : Location) (n : ℕ) : Type 0 where
  pub register : Reg
  pub is : l ≡ locations.Register register
  pub holds : reg m register ≡ n

-- what fills a symbol is a place of the innermost call
abbrev pub own_at : Scene → ℕ → Bool
own_at c i = is_own_place (operand_in c.program (filling_at c i))

-- the place of a symbol, which has its value where it has one
pub record IsHome (c : Scene) (m : State) (i : ℕ) (size : Size) (l : Location) : Type 0 where
  pub address : ℕ
  pub is : l ≡ locations.Memory address
  pub named_so : names (operand_in c.program (filling_at c i)) size m ≡ Some address
  pub holds : IsSome (c.view.symbol i) → IsReadAt m (own_at c i) l size (worth c (Symbol i))

-- a location is where an operand stands by its template; the operand may be a place of the innermost call
abbrev pub IsWhere : Scene → State → Bool → Where → Size → Location → Type 0
IsWhere c m own (Immediate t) size l = l ≡ locations.Number (worth c t)
IsWhere c m own (Register t) size l = InRegister m l (worth c t)
IsWhere c m own OwnRegister size l = StandsAt m (operand_in c.program c.own) size l × (may_touch m own l size ≡ true)
IsWhere c m own RegisterZero size l = l ≡ locations.Register R0
IsWhere c m own (Value z i) size l = IsReadAt m own l size (worth c (Symbol i))
IsWhere c m own (Place z i) size l = IsHome c m i size l × (own ≡ own_at c i)
IsWhere c m own (Local i) size l = IsHome c m i size l × (own ≡ own_at c i) × IsReadAt m own l size (worth c (Symbol i))
IsWhere c m own (SavedPlace z i) size l = l ≡ locations.Memory (worth c (Symbol i))
IsWhere c m own (Saved i) size l =
    StandsAt m (operand_in c.program (filling_at c i)) size l × IsSavedLocal c (filling_at c i) × (may_touch m own l size ≡ true)
IsWhere c m own (At a p) size l = l ≡ locations.Memory (worth c a)

abbrev pub IsReadIfAny : Scene → Option Shape → Type 0
IsReadIfAny c None = Unit {0}
IsReadIfAny c (Some p) = IsRead c.view p

-- what is needed to find a place: the operand has the size of its symbol, and the pointer can be read
abbrev pub CanStand : Scene → Where → Size → Type 0
CanStand c (Value z i) size = z ≡ size
CanStand c (Place z i) size = z ≡ size
CanStand c (Local i) size = Long ≡ size
CanStand c (SavedPlace z i) size = z ≡ size
CanStand c (At a p) size = IsReadIfAny c p
CanStand c w size = Unit {0}

-- an operand stands where its template says
pub record Stands (c : Scene) (m : State) (o : Operand) (w : Where) (size : Size) : Type 0 where
  pub place : Location
  pub at : StandsAt m o size place
  pub is : IsWhere c m (is_own_place o) w size place

-- ---- the law

-- the numbers of an operand are longwords
abbrev pub IsShort : Number → Type 0
IsShort (number.Itself n) = n < 2 ^ 32
IsShort (number.Symbol i) = Unit {0}

abbrev pub BaseIsShort : Base → Type 0
BaseIsShort (base.Immediate n) = IsShort n
BaseIsShort (base.Displacement n i) = IsShort n
BaseIsShort (base.DisplacementDeferred n i) = IsShort n
BaseIsShort (base.Absolute n) = IsShort n
BaseIsShort b = Unit {0}

-- an operand that is spelled before `%0` took an operand's register, or spells none
abbrev pub MayBeRead : Scene → Option Shape → Form → Type 0
MayBeRead c zero f = is_lost c zero ≡ true → spells_symbol c.roles f ≡ false

-- Each operand with its holes filled stands where its template says.
abbrev pub OperandsStand : Type 0
OperandsStand = (c : Scene) (zero : Option Shape) (m : State) (f : Form) (size : Size) (w : Where) →
    Sees c zero m → BaseIsShort f.base → MayBeRead c zero f → form_where c.setting c.roles zero f size ≡ Ok w → CanStand c w size →
    Stands c m (filled c.program c.holes c.own f) w size
