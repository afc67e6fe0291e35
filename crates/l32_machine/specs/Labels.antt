-- Places in a code, and its labels. What is said of the data area's own lines is said in `Labels` and `Area` of vax_machine.
use Rattle.std.specs.Prelude.{ℕ, ◌+◌, Bool, true, false, ◌||◌, ◌&&◌, List, [], ◌∷◌, drop, Option, Some, None, if◌then◌else◌}
use Rattle.std.specs.List.{list_any}
use Rattle.std.specs.Str.{bytes_eq}
use Rattle.std.specs.Option.{option_or}
use Rattle.vax_core.specs.declared.code.AreaItem.{AreaItem}
use Rattle.vax_core.specs.declared.code.AreaItem.TheVariants as areas
use Rattle.vax_machine.specs.Area.{has_area_label}
use Rattle.vax_machine.specs.Labels.{is_service, undefined_name}
use Rattle.l32_core.specs.declared.operand.Operand32.{Operand32}
use Rattle.l32_core.specs.declared.operand.Operand32.TheVariants as operands
use Rattle.l32_core.specs.declared.code.Instr32.{Instr32}
use Rattle.l32_core.specs.declared.code.Item32.{Item32}
use Rattle.l32_core.specs.declared.code.Item32.TheVariants as item_kind
use Rattle.l32_machine.specs.declared.function.Action.{Action}
use Rattle.l32_machine.specs.declared.function.Action.TheVariants as action
use Rattle.l32_machine.specs.Functions.{action_of}

-- how many labels stand at the front
abbrev pub skipped : List Item32 → ℕ
skipped [] = 0
skipped (item_kind.Label name ∷ rest) = skipped rest + 1
skipped (item_kind.Instr i ∷ rest) = 0

-- the first place from there on that is no label: the next item
abbrev pub next_item : List Item32 → ℕ → ℕ
next_item list place = place + skipped (drop place list)

abbrev pub is_label : Item32 → List ℕ → Bool
is_label (item_kind.Label n) name = bytes_eq n name
is_label (item_kind.Instr i) name = false

abbrev pub has_label : List Item32 → List ℕ → Bool
has_label items name = list_any (λ (item : Item32). is_label item name) items

-- the place of the first label of that name
abbrev pub label_place : List Item32 → List ℕ → ℕ
label_place [] name = 0
label_place (item ∷ rest) name = if is_label item name then 0 else label_place rest name + 1

abbrev pub double_at : Item32 → List Item32 → Option (List ℕ) → Option (List ℕ)
double_at (item_kind.Label n) rest others = if is_service n || has_label rest n then Some n else others
double_at (item_kind.Instr i) rest others = others

-- the first label of the code that stands again behind it, or has a service's name
abbrev pub double_label : List Item32 → Option (List ℕ)
double_label [] = None
double_label (item ∷ rest) = double_at item rest (double_label rest)

abbrev pub double_area_at : AreaItem → List AreaItem → List Item32 → Option (List ℕ) → Option (List ℕ)
double_area_at (areas.Label n) rest code others = if is_service n || (has_area_label rest n || has_label code n) then Some n else others
double_area_at (areas.Globl n) rest code others = others
double_area_at (areas.Align k) rest code others = others
double_area_at (areas.Byte n) rest code others = others
double_area_at (areas.Word n) rest code others = others
double_area_at (areas.Long a) rest code others = others
double_area_at (areas.Space n) rest code others = others

-- the first label of the data area that stands again behind it, there or in the code, or has a service's name
abbrev pub double_area_label : List AreaItem → List Item32 → Option (List ℕ)
double_area_label [] code = None
double_area_label (item ∷ rest) code = double_area_at item rest code (double_area_label rest code)

-- the name in an operand
abbrev pub name_in : Operand32 → Option (List ℕ)
name_in (operands.Num n) = None
name_in (operands.Reg n) = None
name_in (operands.At n b) = None
name_in (operands.Deferred n b) = None
name_in (operands.Addr a) = a.name

-- the first name in some operands that is no label of the data area
abbrev pub undefined_operand : List AreaItem → List Operand32 → Option (List ℕ)
undefined_operand layout [] = None
undefined_operand layout (o ∷ os) = option_or (undefined_name layout (name_in o)) (undefined_operand layout os)

abbrev pub is_call : Action → Bool
is_call (action.Compute f) = false
is_call (action.Branch r) = false
is_call action.Jump = false
is_call action.Push = false
is_call action.Enter = false
is_call action.Call = true
is_call action.Return = false

-- a branch goes to a label of the code, a call to one or to a service
abbrev pub undefined_target : List Item32 → Bool → Option (List ℕ) → Option (List ℕ)
undefined_target all call None = None
undefined_target all call (Some t) = if (call && is_service t) || has_label all t then None else Some t

-- no instruction has both a name in an operand and a label
abbrev pub undefined_in : List AreaItem → List Item32 → Instr32 → Option (List ℕ)
undefined_in layout all i = option_or (undefined_operand layout i.operands) (undefined_target all (is_call (action_of i.op)) i.target)

abbrev pub undefined_at : List AreaItem → List Item32 → Item32 → Option (List ℕ)
undefined_at layout all (item_kind.Label n) = None
undefined_at layout all (item_kind.Instr i) = undefined_in layout all i

-- the first name of an instruction that isn't defined for its use
abbrev pub undefined_label : List Item32 → List AreaItem → List Item32 → Option (List ℕ)
undefined_label [] layout all = None
undefined_label (item ∷ rest) layout all = option_or (undefined_at layout all item) (undefined_label rest layout all)
