-- The labels of a program's code.
use Rattle.std.specs.Prelude.{◌≡◌, ◌^◌, ◌<◌, List, [], ◌∷◌, None, true}
use Rattle.std.specs.List.{AllByRecursion}
use Rattle.vax_core.specs.declared.code.CodeItem.{CodeItem}
use Rattle.vax_core.specs.First.{main_name}
use Rattle.vax_machine.specs.Labels.{has_label, double_label}
use Rattle.tree_core.specs.declared.program.TreeItem.{TreeItem}
use Rattle.tree_core.specs.declared.program.TreeItem.TheVariants as tree_item
use Rattle.tree_core.specs.declared.program.TreeFn.{TreeFn}
use Rattle.tree_core.specs.declared.program.TreeProgram.{TreeProgram}
use Rattle.tree_core.specs.Valid.{IsValid}
use Rattle.gg_compile_law.specs.Assembled.{AreFunctions}

-- labels are numbers of 64 bits
abbrev pub AreSmall : List TreeItem → Type 0
AreSmall [] = Unit {0}
AreSmall (tree_item.Label l ∷ is) = (l < 2 ^ 64) × AreSmall is
AreSmall (tree_item.Root w ∷ is) = AreSmall is

abbrev pub HaveSmall : List TreeFn → Type 0
HaveSmall fs = AllByRecursion (λ (f : TreeFn). AreSmall f.items) fs

-- No label stands twice in the code of a valid program's functions, and none is a service's name.
abbrev pub CodeLabelsDiffer : Type 0
CodeLabelsDiffer =
    (program : TreeProgram) (code : List CodeItem) → IsValid program → HaveSmall program.functions
    → AreFunctions program program.functions code
    → double_label code ≡ None

-- The code has a label for main.
abbrev pub MainStands : Type 0
MainStands = (program : TreeProgram) (code : List CodeItem) → IsValid program → AreFunctions program program.functions code
    → has_label code main_name ≡ true
