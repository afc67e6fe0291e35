-- What an operand may stand for, and which instructions and programs can be written.
use Rattle.std.specs.Prelude.{◌≡◌, ℕ, ◌==◌, ◌&&◌, ◌||◌, not, Bool, true, false, List, [], ◌∷◌, Option, Some, None, is_none}
use Rattle.std.specs.Char.{is_ascii_digit}
use Rattle.std.specs.List.{AllByRecursion, list_all}
use Rattle.vax_states.specs.tree_core.specs.declared.program.Object.{Object}
use Rattle.vax_states.specs.tree_core.specs.declared.program.TreeFn.{TreeFn}
use Rattle.vax_states.specs.tree_core.specs.declared.program.TreeProgram.{TreeProgram}
use Rattle.vax_states.specs.tree_core.specs.Names.{function_label}
use Rattle.vax_templates.specs.md_reader.specs.declared.types.Kind.{Kind}
use Rattle.vax_templates.specs.md_reader.specs.declared.types.Kind.TheVariants as kind
use Rattle.vax_templates.specs.vax_core.specs.declared.operand.Base.{Base}
use Rattle.vax_templates.specs.vax_core.specs.declared.operand.Base.TheVariants as bases
use Rattle.vax_templates.specs.vax_core.specs.declared.operand.Operand.{Operand}
use Rattle.vax_templates.specs.vax_core.specs.declared.code.Instr.{Instr}
use Rattle.vax_templates.specs.vax_core.specs.Ops.{shape}
use Rattle.vax_templates.specs.vax_core.specs.Valid.{is_name, is_base, is_index, is_memory, are_operands, is_target}

-- it steps its register
abbrev pub steps : Base → Bool
steps (bases.Inc r) = true
steps (bases.IncDef r) = true
steps (bases.Dec r) = true
steps b = false

-- an operand that can be written and changes nothing as it is evaluated
abbrev pub is_steady : Operand → Bool
is_steady o = not (steps o.base) && (is_base o.base && is_index o.base o.index)

abbrev pub is_place : Operand → Bool
is_place o = is_memory o.base && is_steady o

-- of what kind an operand may be; an address has no index, so that one may be put behind it
abbrev pub fits : Kind → Operand → Bool
fits (kind.Value size) o = is_steady o
fits (kind.Place size) o = is_place o
fits kind.Ea o = is_none o.index && is_place o
fits k o = true

-- `L` and digits, however many
abbrev pub is_tree_label : List ℕ → Bool
is_tree_label [] = false
is_tree_label (c ∷ cs) = (c == 76) && list_all is_ascii_digit cs

abbrev pub goes_to_label : Option (List ℕ) → Bool
goes_to_label None = false
goes_to_label (Some name) = is_tree_label name

abbrev pub has_target : Bool → Option (List ℕ) → Bool
has_target needed target = is_target needed target || (needed && goes_to_label target)

-- an instruction that can be written, to whatever label it goes: the name of a label that is a longword can be spelled
abbrev pub is_instr : Instr → Bool
is_instr i = are_operands (shape i.op).operands i.operands && has_target (shape i.op).target i.target

-- the names of a program's objects and functions can be spelled
pub record CanWrite (q : TreeProgram) : Type 0 where
  pub objects : AllByRecursion (λ (o : Object). is_name o.label ≡ true) q.objects
  pub functions : AllByRecursion (λ (f : TreeFn). is_name (function_label f.name) ≡ true) q.functions
