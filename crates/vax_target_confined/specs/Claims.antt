-- What an operand reads or names, as the VAX as a target says it, the confined machine finds.
use Rattle.std.specs.Prelude.{◌≡◌, ℕ, Bool, Some, Ok, true}
use Rattle.vax_target_meaning.specs.vax_templates.specs.gg_base.specs.declared.size.Size.{Size}
use Rattle.vax_target_meaning.specs.vax_templates.specs.vax_core.specs.declared.operand.Operand.{Operand}
use Rattle.vax_target_meaning.specs.vax_machine.specs.declared.operands.Location.{Location}
use Rattle.vax_target_meaning.specs.vax_machine.specs.declared.operands.Location.TheVariants as locations
use Rattle.vax_target_meaning.specs.vax_machine.specs.State.{State}
use Rattle.vax_target_meaning.specs.vax_machine.specs.Operands.{indexed, fetched}
use Rattle.vax_target_meaning.specs.Reading.{reads, names}
use Rattle.vax_confined.specs.Confined.{is_own_place, may_touch, found}

-- the confined machine finds the operand's place there, and nothing changes by that
pub record StandsAt (m : State) (o : Operand) (size : Size) (l : Location) : Type 0 where
  pub base : Location
  pub finds : found m o.base size ≡ Ok (base, m)
  pub is : indexed m base o.index size ≡ l

-- the number stands there, and the place may be touched, as one of the innermost call's own or as another
pub record IsReadAt (m : State) (own : Bool) (l : Location) (size : Size) (n : ℕ) : Type 0 where
  pub may : may_touch m own l size ≡ true
  pub holds : fetched m l size ≡ Ok n

-- the operand's place has the number
pub record ReadsAt (m : State) (o : Operand) (size : Size) (n : ℕ) : Type 0 where
  pub place : Location
  pub at : StandsAt m o size place
  pub reads_so : IsReadAt m (is_own_place o) place size n

pub record ReadingsAreConfined : Type 0 where
  pub named : (o : Operand) (size : Size) (m : State) (a : ℕ) → names o size m ≡ Some a → StandsAt m o size (locations.Memory a)
  pub read : (o : Operand) (size : Size) (m : State) (x : ℕ) → reads o size m ≡ Some x → ReadsAt m o size x
