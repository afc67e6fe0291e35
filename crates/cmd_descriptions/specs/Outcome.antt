-- What a check of a description finds and leaves behind, for each of its statuses.
use Rattle.std.specs.Prelude.{◌≡◌, ◌⊎◌, ℕ, List, Some}
use Rattle.cmd_session.specs.declared.status.Status.{Status}
use Rattle.cmd_session.specs.declared.status.Status.TheVariants as statuses
use Rattle.cmd_session.specs.Lines.{output_failed_line}
use Rattle.cmd_session.specs.Writing.{GainsFront, RisesAtMostOnce, IsUntouched, TakesAll, IsCut, Reports}
use Rattle.cmd_files.specs.Forms.{Holds}
use Rattle.cmd_files.specs.Outsides.{Outside, IsUnfailed, FailsAtMost, IsUnread, FileIsLong, FileIsWrong}
use Rattle.md_reader.specs.State.{Content}
use Rattle.lr_tables.specs.View.{TableView}
use Rattle.lr_tables.specs.Promises.{IsNumbered, HasTooManySets}
use Rattle.lr_check.specs.Tree.{Node}
use Rattle.lr_checked.specs.declared.checking.CheckFault.{CheckFault}
use Rattle.lr_checked.specs.declared.checking.CheckFault.TheVariants as check_fault
use Rattle.lr_checked.specs.Accepted.{NeverStops}
use Rattle.lr_checked.specs.Counted.{HasTooManySums}
use Rattle.lr_checked.specs.Refusals.{FaultIsReal, SumsAreFirst}
use Rattle.sel_parse.specs.Shown.{Refusal}
use Rattle.cmd_descriptions.specs.Lines.{full_line, tables_line}
use Rattle.cmd_descriptions.specs.Stops.{stop_lines}
use Rattle.cmd_descriptions.specs.Machines.{Machine}
use Rattle.cmd_descriptions.specs.Rules.{refusal_on, refusal_lines, refusal_status}
use Rattle.cmd_descriptions.specs.Descriptions.{description_limit, description_form_for, IsAcceptedFor}

-- the file is that description, and no reading of the folder failed
pub record Finds (m : Machine) (name : List ℕ) (at : Outside) (d : Content) : Type 0 where
  pub holds : Holds (description_form_for m.word) (at.folder.holds name) d
  pub unfailed : IsUnfailed at.folder

-- the file is an accepted description with these tables
pub record Builds (m : Machine) (name : List ℕ) (at : Outside) (t : TableView) : Type 0 where
  pub finds : Finds m name at t.content
  pub numbered : IsNumbered t
  pub accepted : IsAcceptedFor m t.content

-- the tables were built, and their line is in `out`
pub record IsDone (m : Machine) (name : List ℕ) (at : Outside) : Type 0 where
  pub tables : TableView
  pub builds : Builds m name at tables
  pub line : TakesAll at.out (tables_line tables)
  pub untold : IsUntouched at.report

-- the description has too many item sets
pub record IsFull (m : Machine) (name : List ℕ) (at : Outside) : Type 0 where
  pub description : Content
  pub finds : Finds m name at description
  pub many : HasTooManySets description
  pub untouched : IsUntouched at.out
  pub told : Reports at.report full_line

-- the description has tables, which were refused for this fault: with a typed statement that blocks or loops, where it has a sample, or
-- for too many summaries, and only for these where there are too many
pub record Stops (m : Machine) (fault : CheckFault) (name : List ℕ) (at : Outside) : Type 0 where
  pub description : Content
  pub finds : Finds m name at description
  pub few : ¬ HasTooManySets description
  pub real : FaultIsReal description fault
  pub sums : SumsAreFirst description fault
  pub untouched : IsUntouched at.out
  pub told : Reports at.report (stop_lines fault)

pub record Blocks (m : Machine) (name : List ℕ) (at : Outside) : Type 0 where
  pub sample : List Node
  pub stops : Stops m (check_fault.Blocks sample) name at

pub record Loops (m : Machine) (name : List ℕ) (at : Outside) : Type 0 where
  pub sample : List Node
  pub stops : Stops m (check_fault.Loops sample) name at

-- no typed statement stops the parse, but the rules are not all shown, and the first that stands against them is told with this status
pub record IsNotShown (m : Machine) (status : Status) (name : List ℕ) (at : Outside) : Type 0 where
  pub description : Content
  pub finds : Finds m name at description
  pub few : ¬ HasTooManySets description
  pub sums : ¬ HasTooManySums description
  pub never : NeverStops description
  pub refusal : Refusal
  pub first : refusal_on m description ≡ Some refusal
  pub status_is : refusal_status refusal ≡ status
  pub untouched : IsUntouched at.out
  pub told : Reports at.report (refusal_lines refusal)

-- a write of the tables' line failed
pub record IsCutShort (m : Machine) (name : List ℕ) (at : Outside) : Type 0 where
  pub tables : TableView
  pub builds : Builds m name at tables
  pub cut : IsCut at.out (tables_line tables)
  pub told : Reports at.report output_failed_line

-- `out` gained a front of the tables' line, and nothing behind a failed write
pub record HasFront (m : Machine) (name : List ℕ) (at : Outside) : Type 0 where
  pub tables : TableView
  pub builds : Builds m name at tables
  pub front : GainsFront at.out (tables_line tables)
  pub once : RisesAtMostOnce at.out

-- memory ran out, and no part of the outside was used again behind its fault
pub record IsStopped (m : Machine) (name : List ℕ) (at : Outside) : Type 0 where
  pub names : FailsAtMost name at.folder
  pub out : IsUntouched at.out ⊎ HasFront m name at
  pub report : RisesAtMostOnce at.report

-- what each status says
abbrev pub LeavesFor : Machine → Status → List ℕ → Outside → Type 0
LeavesFor m statuses.Done name at = IsDone m name at
LeavesFor m statuses.Usage name at = ⊥
LeavesFor m statuses.NoMemory name at = IsStopped m name at
LeavesFor m statuses.FileFault name at = IsUnread at name
LeavesFor m statuses.InputFault name at = ⊥
LeavesFor m statuses.WriteFault name at = IsCutShort m name at
LeavesFor m statuses.TooLong name at = FileIsLong at name description_limit
LeavesFor m statuses.SourceRefused name at = ⊥
LeavesFor m statuses.DescRefused name at = FileIsWrong (description_form_for m.word) at name
LeavesFor m statuses.Full name at = IsFull m name at ⊎ Stops m check_fault.CheckFull name at
LeavesFor m statuses.Blocks name at = Blocks m name at
LeavesFor m statuses.Loops name at = Loops m name at
LeavesFor m statuses.PoolSmall name at = IsNotShown m statuses.PoolSmall name at
LeavesFor m statuses.Unshown name at = IsNotShown m statuses.Unshown name at
LeavesFor m statuses.FrameFull name at = ⊥
LeavesFor m statuses.AsmRefused name at = ⊥
LeavesFor m statuses.Spent name at = ⊥
LeavesFor m statuses.Trapped name at = ⊥
LeavesFor m statuses.Wild name at = ⊥
LeavesFor m statuses.Deep name at = ⊥
LeavesFor m statuses.Broken name at = ⊥
LeavesFor m statuses.ImageRefused name at = ⊥
