-- Where an operand of a template stands when its line is run.
use Rattle.std.specs.Prelude.{◌≡◌, ◌⊎◌, ℕ, true, false, Option, Some, None, Ok}
use Rattle.judging_laws.specs.term_core.specs.Shape.{Shape, Symbol}
use Rattle.judging_laws.specs.sel_target.specs.Values.{IsRead}
use Rattle.judging_laws.specs.Numbers.{IsShort}
use Rattle.judging_laws.specs.vax_templates.specs.Standing.{Where, Immediate, Register, OwnRegister, RegisterZero, Value, Place, Local, SavedPlace, Saved, At}
use Rattle.l32_target_meaning.specs.l32_templates.specs.l32_core.specs.declared.operand.Operand32.{Operand32}
use Rattle.l32_target_meaning.specs.l32_templates.specs.l32_core.specs.declared.operand.Operand32.TheVariants as operands
use Rattle.l32_target_meaning.specs.l32_templates.specs.l32_machine.specs.State.{State, reg}
use Rattle.l32_target_meaning.specs.l32_templates.specs.declared.form.Form.{Form}
use Rattle.l32_target_meaning.specs.l32_templates.specs.declared.form.Form.TheVariants as form
use Rattle.l32_target_meaning.specs.l32_templates.specs.Standing.{form_where}
use Rattle.l32_target_meaning.specs.l32_templates.specs.Judging.{spells_symbol}
use Rattle.l32_target_meaning.specs.l32_templates.specs.Filled.{operand_in, filled}
use Rattle.l32_target_meaning.specs.Reading.{named, reads}
use Rattle.l32_target_operands.specs.Scenes.{Scene, worth, IsPlace, IsLocal, IsSavedLocal, filling_at, is_lost, Sees}

-- a register with a number in it
pub record InRegister (m : State) (o : Operand32) (n : ℕ) : Type 0 where
  pub register : ℕ
  pub is : o ≡ operands.Reg register
  pub holds : reg m register ≡ n

abbrev pub IsReadIfAny : Scene → Option Shape → Type 0
IsReadIfAny c None = Unit {0}
IsReadIfAny c (Some p) = IsRead c.view p

-- memory at an address, which is found where the pointer to it can be read; a pointer is that address
pub record IsAt (c : Scene) (m : State) (o : Operand32) (a : Shape) (p : Option Shape) : Type 0 where
  pub named_so : IsReadIfAny c p → named m o ≡ Some (worth c a)
  pub pointer : (p ≡ None) ⊎ (p ≡ Some a)

-- an operand stands where its template says
abbrev pub Stands : Scene → State → Operand32 → Where → Type 0
Stands c m o (Immediate t) = o ≡ operands.Num (worth c t)
Stands c m o (Register t) = InRegister m o (worth c t)
Stands c m o OwnRegister = o ≡ operand_in c.program c.own
Stands c m o RegisterZero = o ≡ operands.Reg 0
Stands c m o (Value z i) = reads o z m ≡ Some (worth c (Symbol i))
Stands c m o (Place z i) = (o ≡ operand_in c.program (filling_at c i)) × IsPlace c m z i (filling_at c i)
Stands c m o (Local i) = (o ≡ operand_in c.program (filling_at c i)) × IsLocal c m i (filling_at c i)
Stands c m o (SavedPlace z i) = named m o ≡ Some (worth c (Symbol i))
Stands c m o (Saved i) = (o ≡ operand_in c.program (filling_at c i)) × IsSavedLocal c (filling_at c i)
Stands c m o (At a p) = IsAt c m o a p

-- ---- the law

-- the numbers of an operand are longwords
abbrev pub FormIsShort : Form → Type 0
FormIsShort (form.Immediate n) = IsShort n
FormIsShort (form.Displacement n i) = IsShort n
FormIsShort (form.DisplacementDeferred n i) = IsShort n
FormIsShort f = Unit {0}

-- an operand that is spelled before `%0` took an operand's register, or spells none
abbrev pub MayBeRead : Scene → Option Shape → Form → Type 0
MayBeRead c zero f = is_lost c zero ≡ true → spells_symbol c.roles f ≡ false

-- Each operand with its holes filled stands where its template says.
abbrev pub OperandsStand : Type 0
OperandsStand = (c : Scene) (zero : Option Shape) (m : State) (f : Form) (w : Where) →
    Sees c zero m → FormIsShort f → MayBeRead c zero f → form_where c.setting c.roles zero f ≡ Ok w
    → Stands c m (filled c.program c.holes c.own f) w
