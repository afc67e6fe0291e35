-- The lines that refuse an assembly text.
use Rattle.std.specs.Prelude.{ℕ, List, ◌++◌, codes}
use Rattle.std.specs.Fmt.{decimal}
use Rattle.vax_reader.specs.declared.fault.AsmKind.{AsmKind}
use Rattle.vax_reader.specs.WrongLine.{kind_name}
use Rattle.vax_machine.specs.declared.loading.LoadFault.{LoadFault}
use Rattle.vax_machine.specs.declared.loading.LoadFault.TheVariants as loading_fault

-- the first line that is not of the grammar
abbrev pub wrong_line : ℕ → AsmKind → List ℕ
wrong_line line kind = codes "ggvax: line " ++ (decimal line ++ (codes ": " ++ (kind_name kind ++ codes "\n")))

abbrev pub label_line : List ℕ → List ℕ → List ℕ
label_line name what = codes "ggvax: label " ++ (name ++ what)

-- why a code can't be run
abbrev pub load_line : LoadFault → List ℕ
load_line loading_fault.NoMemory = codes "ggvax: no memory\n"
load_line (loading_fault.DoubleLabel name) = label_line name (codes " twice\n")
load_line (loading_fault.UndefinedLabel name) = label_line name (codes " undefined\n")
load_line loading_fault.NoMain = codes "ggvax: no _main\n"
load_line loading_fault.TooLarge = codes "ggvax: too large\n"
