-- What the tables hold that are made as a code is loaded, so that no step looks for a name.
use Rattle.std.specs.Prelude.{◌≡◌, ℕ, ◌+◌, List, [], ◌∷◌, slice_get, Option, Some, None, if◌then◌else◌}
use Rattle.std.specs.Str.{bytes_eq}
use Rattle.vax_core.specs.declared.operand.Base.{Base}
use Rattle.vax_core.specs.declared.operand.Base.TheVariants as bases
use Rattle.vax_core.specs.declared.operand.Operand.{Operand}
use Rattle.vax_core.specs.declared.op.OperandKind.{OperandKind}
use Rattle.vax_core.specs.declared.code.AreaItem.{AreaItem}
use Rattle.vax_core.specs.declared.code.CodeItem.{CodeItem}
use Rattle.vax_core.specs.declared.code.CodeItem.TheVariants as item_kind
use Rattle.vax_machine.specs.declared.program.Links.{Links}
use Rattle.vax_machine.specs.Area.{is_area_label, resolved, size_at}
use Rattle.vax_machine.specs.Labels.{is_label, label_place}

-- a table of names, each with a number
abbrev pub Names : Type 0
Names = List ℕ → Option ℕ

abbrev pub no_names : Names
no_names = λ name. None

abbrev pub with_name : Names → List ℕ → ℕ → Names
with_name names n number = λ name. if bytes_eq n name then Some number else names name

-- the place of the first label of that name among items of the code that are counted from a place on
abbrev pub place_in : List CodeItem → ℕ → Names
place_in [] place = no_names
place_in (item ∷ rest) place = λ name. if is_label item name then Some place else place_in rest (place + 1) name

-- the same for the data area
abbrev pub area_place_in : List AreaItem → ℕ → Names
area_place_in [] place = no_names
area_place_in (item ∷ rest) place = λ name. if is_area_label item name then Some place else area_place_in rest (place + 1) name

-- the addresses of items that are laid out from an address on
abbrev pub addresses_from : List AreaItem → ℕ → List ℕ
addresses_from [] at = []
addresses_from (item ∷ rest) at = at ∷ addresses_from rest (at + size_at item at)

-- the number that the address in a base stands for
abbrev pub base_number : List AreaItem → Base → ℕ
base_number layout (bases.Imm a) = resolved layout a
base_number layout (bases.Reg r) = 0
base_number layout (bases.Def r) = 0
base_number layout (bases.Inc r) = 0
base_number layout (bases.IncDef r) = 0
base_number layout (bases.Dec r) = 0
base_number layout (bases.Disp a r) = resolved layout a
base_number layout (bases.DispDef a r) = resolved layout a
base_number layout (bases.Abs n) = 0
base_number layout (bases.Rel a) = resolved layout a
base_number layout (bases.RelDef a) = resolved layout a

abbrev pub operand_number : List AreaItem → Option Operand → ℕ
operand_number layout None = 0
operand_number layout (Some o) = base_number layout o.base

-- the place that a branch or a call names
abbrev pub target_of : List CodeItem → Option (List ℕ) → ℕ
target_of all None = 0
target_of all (Some name) = label_place all name

-- what the names of an item stand for
abbrev pub links_of : List AreaItem → List CodeItem → CodeItem → Links
links_of layout all (item_kind.Label name) = record { target = 0; numbers = 0 ∷ (0 ∷ (0 ∷ [])) }
links_of layout all (item_kind.Globl name) = record { target = 0; numbers = 0 ∷ (0 ∷ (0 ∷ [])) }
links_of layout all (item_kind.Mask mask) = record { target = 0; numbers = 0 ∷ (0 ∷ (0 ∷ [])) }
links_of layout all (item_kind.Instr i) = record {
  target = target_of all i.target;
  numbers = operand_number layout (slice_get i.operands 0) ∷ (operand_number layout (slice_get i.operands 1) ∷
      (operand_number layout (slice_get i.operands 2) ∷ []));
}

-- each operand that is looked at, with its number
abbrev pub HasNumbers : List AreaItem → List OperandKind → List Operand → List ℕ → Type 0
HasNumbers layout [] os numbers = Unit {0}
HasNumbers layout (k ∷ ks) [] numbers = Unit {0}
HasNumbers layout (k ∷ ks) (o ∷ os) [] = ⊥
HasNumbers layout (k ∷ ks) (o ∷ os) (n ∷ ns) = (n ≡ base_number layout o.base) × HasNumbers layout ks os ns

-- what the names of the item at a place stand for
abbrev pub links_at : List AreaItem → List CodeItem → Option CodeItem → Links
links_at layout all None = record { target = 0; numbers = 0 ∷ (0 ∷ (0 ∷ [])) }
links_at layout all (Some item) = links_of layout all item
