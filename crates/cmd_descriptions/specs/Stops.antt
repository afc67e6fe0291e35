-- What stops the parse of some tree by a description's tables, and how it is told.
use Rattle.std.specs.Prelude.{ℕ, List, [], ◌++◌, codes}
use Rattle.cmd_session.specs.declared.status.Status.{Status}
use Rattle.cmd_session.specs.declared.status.Status.TheVariants as statuses
use Rattle.cmd_session.specs.Writing.{Change}
use Rattle.cmd_session.specs.Telling.{IsRefused, IsStarved}
use Rattle.md_reader.specs.State.{Content}
use Rattle.lr_checked.specs.declared.checking.CheckFault.{CheckFault}
use Rattle.lr_checked.specs.declared.checking.CheckFault.TheVariants as check_fault
use Rattle.lr_checked.specs.Lines.{sample_lines}
use Rattle.lr_checked.specs.Refusals.{FaultIsReal, SumsAreFirst}

-- the lines of a fault: of one with a sample, its nodes stand behind
abbrev pub stop_lines : CheckFault → List ℕ
stop_lines check_fault.NoMemory = []
stop_lines (check_fault.Blocks nodes) = codes "ggvax: blocks\n" ++ sample_lines nodes
stop_lines (check_fault.Loops nodes) = codes "ggvax: loops\n" ++ sample_lines nodes
stop_lines check_fault.CheckFull = codes "ggvax: more than 4000000 summaries\n"

abbrev pub stop_status : CheckFault → Status
stop_status check_fault.NoMemory = statuses.NoMemory
stop_status (check_fault.Blocks nodes) = statuses.Blocks
stop_status (check_fault.Loops nodes) = statuses.Loops
stop_status check_fault.CheckFull = statuses.Full

-- a fault was told
abbrev pub TellsStop : CheckFault → Status → Change → Type 0
TellsStop check_fault.NoMemory status report = IsStarved status report
TellsStop (check_fault.Blocks nodes) status report = IsRefused statuses.Blocks (stop_lines (check_fault.Blocks nodes)) status report
TellsStop (check_fault.Loops nodes) status report = IsRefused statuses.Loops (stop_lines (check_fault.Loops nodes)) status report
TellsStop check_fault.CheckFull status report = IsRefused statuses.Full (stop_lines check_fault.CheckFull) status report

-- the tables of a description were refused: with a typed statement that blocks or loops, where the fault has a sample
pub record StopRefused (d : Content) (status : Status) (report : Change) : Type 0 where
  pub fault : CheckFault
  pub real : FaultIsReal d fault
  pub sums : SumsAreFirst d fault
  pub told : TellsStop fault status report
