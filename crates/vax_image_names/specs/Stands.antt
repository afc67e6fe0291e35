-- Whether a code can be run, as tests that compute: each name is defined for its use.
use Rattle.std.specs.Prelude.{ℕ, Bool, true, ◌&&◌, nat_le, List, Option, Some, None, is_none, if◌then◌else◌}
use Rattle.std.specs.List.{list_all}
use Rattle.gg_base.specs.declared.limits.TheConstants.{AREA_LIMIT}
use Rattle.vax_core.specs.declared.operand.Operand.{Operand}
use Rattle.vax_core.specs.declared.code.Instr.{Instr}
use Rattle.vax_core.specs.declared.code.AreaItem.{AreaItem}
use Rattle.vax_core.specs.declared.code.AreaItem.TheVariants as areas
use Rattle.vax_core.specs.declared.code.CodeItem.{CodeItem}
use Rattle.vax_core.specs.declared.code.CodeItem.TheVariants as item_kind
use Rattle.vax_core.specs.First.{main_name}
use Rattle.vax_machine.specs.Area.{area_size}
use Rattle.vax_machine.specs.Functions.{action_of}
use Rattle.vax_machine.specs.Labels.{has_label, label_place, name_in, undefined_name, undefined_target, is_call}

-- the number of the item that is the label of a name, if there is one
abbrev pub place_of : List CodeItem → List ℕ → Option ℕ
place_of items name = if has_label items name then Some (label_place items name) else None

abbrev pub operand_stands : List AreaItem → Operand → Bool
operand_stands layout o = is_none (undefined_name layout (name_in o.base))

abbrev pub instr_stands : List AreaItem → List CodeItem → Instr → Bool
instr_stands layout all i =
    list_all (operand_stands layout) i.operands && is_none (undefined_target all (is_call (action_of i.op)) i.target)

abbrev pub item_stands : List AreaItem → List CodeItem → CodeItem → Bool
item_stands layout all (item_kind.Label name) = true
item_stands layout all (item_kind.Globl name) = true
item_stands layout all (item_kind.Mask mask) = true
item_stands layout all (item_kind.Instr i) = instr_stands layout all i

abbrev pub area_stands : List AreaItem → AreaItem → Bool
area_stands layout (areas.Long a) = is_none (undefined_name layout a.name)
area_stands layout item = true

abbrev pub names_stand : List AreaItem → List CodeItem → Bool
names_stand layout items = list_all (area_stands layout) layout && list_all (item_stands layout items) items

-- the tests of a code in which no label stands twice
abbrev pub may_run : List AreaItem → List CodeItem → Bool
may_run layout items = names_stand layout items && (has_label items main_name && nat_le (area_size layout) AREA_LIMIT)
