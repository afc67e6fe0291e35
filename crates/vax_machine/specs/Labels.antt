-- Places in a code, and its labels.
use Rattle.std.specs.Prelude.{ℕ, ◌+◌, Bool, true, false, ◌||◌, ◌&&◌, List, [], ◌∷◌, drop, Option, Some, None, codes, if◌then◌else◌}
use Rattle.std.specs.List.{list_any}
use Rattle.std.specs.Str.{bytes_eq}
use Rattle.std.specs.Option.{option_or}
use Rattle.vax_core.specs.declared.operand.Base.{Base}
use Rattle.vax_core.specs.declared.operand.Base.TheVariants as bases
use Rattle.vax_core.specs.declared.operand.Operand.{Operand}
use Rattle.vax_core.specs.declared.code.Instr.{Instr}
use Rattle.vax_core.specs.declared.code.AreaItem.{AreaItem}
use Rattle.vax_core.specs.declared.code.AreaItem.TheVariants as areas
use Rattle.vax_core.specs.declared.code.CodeItem.{CodeItem}
use Rattle.vax_core.specs.declared.code.CodeItem.TheVariants as item_kind
use Rattle.vax_core.specs.First.{putchar_name}
use Rattle.vax_machine.specs.declared.function.Action.{Action}
use Rattle.vax_machine.specs.declared.function.Action.TheVariants as action
use Rattle.vax_machine.specs.Functions.{action_of}
use Rattle.vax_machine.specs.Area.{has_area_label}

abbrev pub getchar_name : List ℕ
getchar_name = codes "_getchar"

abbrev pub is_service : List ℕ → Bool
is_service name = bytes_eq name putchar_name || bytes_eq name getchar_name

-- how many labels and `.globl` lines stand at the front
abbrev pub skipped : List CodeItem → ℕ
skipped [] = 0
skipped (item_kind.Label name ∷ rest) = skipped rest + 1
skipped (item_kind.Globl name ∷ rest) = skipped rest + 1
skipped (item_kind.Mask mask ∷ rest) = 0
skipped (item_kind.Instr i ∷ rest) = 0

-- the first place from there on that is none of these: the next item
abbrev pub next_item : List CodeItem → ℕ → ℕ
next_item list place = place + skipped (drop place list)

abbrev pub is_label : CodeItem → List ℕ → Bool
is_label (item_kind.Label n) name = bytes_eq n name
is_label (item_kind.Globl n) name = false
is_label (item_kind.Mask m) name = false
is_label (item_kind.Instr i) name = false

abbrev pub has_label : List CodeItem → List ℕ → Bool
has_label items name = list_any (λ (item : CodeItem). is_label item name) items

-- the place of the first label of that name
abbrev pub label_place : List CodeItem → List ℕ → ℕ
label_place [] name = 0
label_place (item ∷ rest) name = if is_label item name then 0 else label_place rest name + 1

abbrev pub double_at : CodeItem → List CodeItem → Option (List ℕ) → Option (List ℕ)
double_at (item_kind.Label n) rest others = if is_service n || has_label rest n then Some n else others
double_at (item_kind.Globl n) rest others = others
double_at (item_kind.Mask m) rest others = others
double_at (item_kind.Instr i) rest others = others

-- the first label of the code that stands again behind it, or has a service's name
abbrev pub double_label : List CodeItem → Option (List ℕ)
double_label [] = None
double_label (item ∷ rest) = double_at item rest (double_label rest)

abbrev pub double_area_at : AreaItem → List AreaItem → List CodeItem → Option (List ℕ) → Option (List ℕ)
double_area_at (areas.Label n) rest code others = if is_service n || (has_area_label rest n || has_label code n) then Some n else others
double_area_at (areas.Globl n) rest code others = others
double_area_at (areas.Align k) rest code others = others
double_area_at (areas.Byte n) rest code others = others
double_area_at (areas.Word n) rest code others = others
double_area_at (areas.Long a) rest code others = others
double_area_at (areas.Space n) rest code others = others

-- the first label of the data area that stands again behind it, there or in the code, or has a service's name
abbrev pub double_area_label : List AreaItem → List CodeItem → Option (List ℕ)
double_area_label [] code = None
double_area_label (item ∷ rest) code = double_area_at item rest code (double_area_label rest code)

-- the name in an operand
abbrev pub name_in : Base → Option (List ℕ)
name_in (bases.Imm a) = a.name
name_in (bases.Reg r) = None
name_in (bases.Def r) = None
name_in (bases.Inc r) = None
name_in (bases.IncDef r) = None
name_in (bases.Dec r) = None
name_in (bases.Disp a r) = a.name
name_in (bases.DispDef a r) = a.name
name_in (bases.Abs n) = None
name_in (bases.Rel a) = a.name
name_in (bases.RelDef a) = a.name

-- a name with an offset is a label of the data area
abbrev pub undefined_name : List AreaItem → Option (List ℕ) → Option (List ℕ)
undefined_name layout None = None
undefined_name layout (Some n) = if has_area_label layout n then None else Some n

-- the first name in some operands that is no label of the data area
abbrev pub undefined_operand : List AreaItem → List Operand → Option (List ℕ)
undefined_operand layout [] = None
undefined_operand layout (o ∷ os) = option_or (undefined_name layout (name_in o.base)) (undefined_operand layout os)

abbrev pub is_call : Action → Bool
is_call (action.Compute f) = false
is_call action.Push = false
is_call (action.Branch t) = false
is_call action.Call = true
is_call action.Return = false

-- a branch goes to a label of the code, a call to one or to a service
abbrev pub undefined_target : List CodeItem → Bool → Option (List ℕ) → Option (List ℕ)
undefined_target all call None = None
undefined_target all call (Some t) = if (call && is_service t) || has_label all t then None else Some t

abbrev pub undefined_in : List AreaItem → List CodeItem → Instr → Option (List ℕ)
undefined_in layout all i = option_or (undefined_operand layout i.operands) (undefined_target all (is_call (action_of i.op)) i.target)

abbrev pub undefined_at : List AreaItem → List CodeItem → CodeItem → Option (List ℕ)
undefined_at layout all (item_kind.Label n) = None
undefined_at layout all (item_kind.Globl n) = None
undefined_at layout all (item_kind.Mask m) = None
undefined_at layout all (item_kind.Instr i) = undefined_in layout all i

-- the first name of an instruction that isn't defined for its use
abbrev pub undefined_label : List CodeItem → List AreaItem → List CodeItem → Option (List ℕ)
undefined_label [] layout all = None
undefined_label (item ∷ rest) layout all = option_or (undefined_at layout all item) (undefined_label rest layout all)

abbrev pub undefined_area_at : List AreaItem → AreaItem → Option (List ℕ)
undefined_area_at layout (areas.Label n) = None
undefined_area_at layout (areas.Globl n) = None
undefined_area_at layout (areas.Align k) = None
undefined_area_at layout (areas.Byte n) = None
undefined_area_at layout (areas.Word n) = None
undefined_area_at layout (areas.Long a) = undefined_name layout a.name
undefined_area_at layout (areas.Space n) = None

-- the first name of a `.long` that is no label of the data area
abbrev pub undefined_area_label : List AreaItem → List AreaItem → Option (List ℕ)
undefined_area_label [] layout = None
undefined_area_label (item ∷ rest) layout = option_or (undefined_area_at layout item) (undefined_area_label rest layout)
