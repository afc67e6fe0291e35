-- The lines that tell why a code can't be run. The line of a wrong text is that of a VAX text.
use Rattle.std.specs.Prelude.{ℕ, List, codes}
use Rattle.cmd_run.specs.Lines.{label_line}
use Rattle.l32_machine.specs.declared.loading.Load32Fault.{Load32Fault}
use Rattle.l32_machine.specs.declared.loading.Load32Fault.TheVariants as loading_fault

-- why a code can't be run
abbrev pub load_line : Load32Fault → List ℕ
load_line loading_fault.NoMemory = codes "ggvax: no memory\n"
load_line (loading_fault.DoubleLabel name) = label_line name (codes " twice\n")
load_line (loading_fault.UndefinedLabel name) = label_line name (codes " undefined\n")
load_line loading_fault.NoMain = codes "ggvax: no _main\n"
load_line loading_fault.TooLarge = codes "ggvax: too large\n"
