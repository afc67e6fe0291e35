-- How the fault of a code that can't be run is told.
use Rattle.cmd_session.specs.declared.status.Status.{Status}
use Rattle.cmd_session.specs.declared.status.Status.TheVariants as statuses
use Rattle.cmd_session.specs.Writing.{Change}
use Rattle.cmd_session.specs.Telling.{IsRefused, IsStarved}
use Rattle.l32_machine.specs.declared.loading.Load32Fault.{Load32Fault}
use Rattle.l32_machine.specs.declared.loading.Load32Fault.TheVariants as loading_fault
use Rattle.cmd_run32.specs.Lines.{load_line}

abbrev pub CodeIsRefused : Load32Fault → Status → Change → Type 0
CodeIsRefused loading_fault.NoMemory result report = IsStarved result report
CodeIsRefused (loading_fault.DoubleLabel name) result report = IsRefused statuses.AsmRefused
    (load_line (loading_fault.DoubleLabel name)) result report
CodeIsRefused (loading_fault.UndefinedLabel name) result report = IsRefused statuses.AsmRefused
    (load_line (loading_fault.UndefinedLabel name))
    result report
CodeIsRefused loading_fault.NoMain result report = IsRefused statuses.AsmRefused (load_line loading_fault.NoMain) result report
CodeIsRefused loading_fault.TooLarge result report = IsRefused statuses.AsmRefused (load_line loading_fault.TooLarge) result report
