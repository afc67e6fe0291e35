-- What the tables hold that are made as a code is loaded, so that no step looks for a name.
use Rattle.std.specs.Prelude.{◌≡◌, ℕ, ◌+◌, List, [], ◌∷◌, slice_get, Option, Some, None, if◌then◌else◌}
use Rattle.vax_core.specs.declared.code.AreaItem.{AreaItem}
use Rattle.vax_machine.specs.Area.{resolved}
use Rattle.vax_machine.specs.Tables.{Names, no_names}
use Rattle.l32_core.specs.declared.op.Part.{Part}
use Rattle.l32_core.specs.declared.op.Part.TheVariants as parts
use Rattle.l32_core.specs.declared.operand.Operand32.{Operand32}
use Rattle.l32_core.specs.declared.operand.Operand32.TheVariants as operands
use Rattle.l32_core.specs.declared.code.Item32.{Item32}
use Rattle.l32_core.specs.declared.code.Item32.TheVariants as item_kind
use Rattle.l32_machine.specs.declared.program.Links.{Links}
use Rattle.l32_machine.specs.Labels.{is_label, label_place}

-- the place of the first label of that name among items of the code that are counted from a place on
abbrev pub place_in : List Item32 → ℕ → Names
place_in [] place = no_names
place_in (item ∷ rest) place = λ name. if is_label item name then Some place else place_in rest (place + 1) name

-- the address that the label in an operand stands for
abbrev pub number_of : List AreaItem → Operand32 → ℕ
number_of layout (operands.Num n) = 0
number_of layout (operands.Reg n) = 0
number_of layout (operands.At n b) = 0
number_of layout (operands.Deferred n b) = 0
number_of layout (operands.Addr a) = resolved layout a

abbrev pub operand_number : List AreaItem → Option Operand32 → ℕ
operand_number layout None = 0
operand_number layout (Some o) = number_of layout o

-- the place that a branch or a call names
abbrev pub target_of : List Item32 → Option (List ℕ) → ℕ
target_of all None = 0
target_of all (Some name) = label_place all name

-- what the names of an item stand for
abbrev pub links_of : List AreaItem → List Item32 → Item32 → Links
links_of layout all (item_kind.Label name) = record { target = 0; numbers = 0 ∷ (0 ∷ (0 ∷ [])) }
links_of layout all (item_kind.Instr i) = record {
  target = target_of all i.target;
  numbers = operand_number layout (slice_get i.operands 0) ∷ (operand_number layout (slice_get i.operands 1) ∷
      (operand_number layout (slice_get i.operands 2) ∷ []));
}

-- each operand that is looked at, with its number
abbrev pub HasNumbers : List AreaItem → List Part → List Operand32 → List ℕ → Type 0
HasNumbers layout [] os numbers = Unit {0}
HasNumbers layout (parts.Label ∷ ps) os numbers = HasNumbers layout ps os numbers
HasNumbers layout (parts.Operand role ∷ ps) [] numbers = Unit {0}
HasNumbers layout (parts.Operand role ∷ ps) (o ∷ os) [] = ⊥
HasNumbers layout (parts.Operand role ∷ ps) (o ∷ os) (n ∷ ns) = (n ≡ number_of layout o) × HasNumbers layout ps os ns

-- what the names of the item at a place stand for
abbrev pub links_at : List AreaItem → List Item32 → Option Item32 → Links
links_at layout all None = record { target = 0; numbers = 0 ∷ (0 ∷ (0 ∷ [])) }
links_at layout all (Some item) = links_of layout all item
