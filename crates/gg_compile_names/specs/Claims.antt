-- What the instructions of a program's code name is there.
use Rattle.std.specs.Prelude.{◌≡◌, ℕ, List, Some, None, true, slice_get}
use Rattle.std.specs.List.{AllByRecursion}
use Rattle.tree_core.specs.declared.tree.Leaf.{Leaf}
use Rattle.tree_core.specs.declared.program.Object.{Object}
use Rattle.tree_core.specs.declared.program.TreeFn.{TreeFn}
use Rattle.tree_core.specs.declared.program.TreeProgram.{TreeProgram}
use Rattle.tree_core.specs.Names.{label_name, function_label}
use Rattle.vax_target_meaning.specs.md_reader.specs.State.{Content}
use Rattle.sel_parse_lines.specs.sel_parse_selected.specs.Selected.{Selected}
use Rattle.vax_core.specs.declared.code.AreaItem.{AreaItem}
use Rattle.vax_core.specs.declared.code.CodeItem.{CodeItem}
use Rattle.vax_core.specs.declared.code.Instr.{Instr}
use Rattle.vax_machine.specs.Area.{has_area_label}
use Rattle.vax_machine.specs.Labels.{has_label, undefined_in}
use Rattle.vax_target_meaning.specs.vax_templates.specs.FilledLines.{label_of_att}
use Rattle.vax_target_meaning.specs.Vax.{vax}
use Rattle.gg_compile_law.specs.Assembled.{AreFunctions}
use Rattle.gg_compile_law.specs.Programs.{stands_in}
use Rattle.gg_compile_law.specs.Spelling.{area_of}

-- A program's labels stand: each object's in the data area, and in the code each function's.
pub record HasNames (q : TreeProgram) (area : List AreaItem) (code : List CodeItem) : Type 0 where
  pub objects : (n : ℕ) (o : Object) → slice_get q.objects n ≡ Some o → has_area_label area o.label ≡ true
  pub functions : (n : ℕ) (f : TreeFn) → slice_get q.functions n ≡ Some f → has_label code (function_label f.name) ≡ true

-- the label to which a leaf goes, if it goes to one, stands in the code
abbrev pub GoesInside : List CodeItem → Leaf → Type 0
GoesInside code l = (n : ℕ) → label_of_att l.att ≡ Some n → has_label code (label_name n) ≡ true

-- Where these stand, the instructions that are selected of a tree name what is there.
abbrev pub SelectedNamesAreThere : Type 0
SelectedNamesAreThere =
    (q : TreeProgram) (d : Content) (first : ℕ) (w : List Leaf) (instrs : List Instr) (most : ℕ) (area : List AreaItem)
    (code : List CodeItem)
    → HasNames q area code → AllByRecursion (GoesInside code) w → Selected vax q d first w instrs most
    → AllByRecursion (λ (i : Instr). undefined_in area code i ≡ None) instrs

-- the labels in the code of a program: its functions', and those of its trees
pub record HasLabels (q : TreeProgram) (code : List CodeItem) : Type 0 where
  pub names : HasNames q (area_of q.objects) code
  pub trees : (n l : ℕ) (f : TreeFn) → slice_get q.functions n ≡ Some f → stands_in f.items l ≡ true → has_label code (label_name l) ≡ true

-- In the code of a program's functions they stand.
abbrev pub LabelsStand : Type 0
LabelsStand = (q : TreeProgram) (code : List CodeItem) → AreFunctions q q.functions code → HasLabels q code
