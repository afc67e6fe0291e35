-- What a command that runs the item of a file on the input finds and leaves behind, for each of its statuses.
use Rattle.std.specs.Prelude.{◌≡◌, ◌⊎◌, ℕ, List, Some}
use Rattle.gg_base.specs.declared.run.Break.{Break}
use Rattle.gg_base.specs.declared.run.End.{End}
use Rattle.gg_base.specs.declared.run.End.TheVariants as ends
use Rattle.cmd_session.specs.Reading.{HasOver, IsUntaken, IsUnbroken, Fails as InputFails, FailsAtMostOnce}
use Rattle.cmd_session.specs.Writing.{TakesAll, GainsFront, RisesAtMostOnce, IsUntouched, IsCut, Reports}
use Rattle.cmd_session.specs.Lines.{end_line, input_failed_line, input_too_long_line, output_failed_line}
use Rattle.cmd_session.specs.declared.status.Status.{Status}
use Rattle.cmd_session.specs.declared.status.Status.TheVariants as statuses
use Rattle.cmd_files.specs.Forms.{Form, Runner}
use Rattle.cmd_files.specs.Outsides.{FailsAtMost, IsUnread, FileIsLong, FileIsWrong}
use Rattle.cmd_files.specs.Stages.{input_limit}
use Rattle.cmd_files.specs.Calls.{Call, Finds, GetsInput, Starts}

-- the run came to this end, and `out` gained its output
pub record RanTo {A : Type 0} (form : Form A) (runner : Runner A) (call : Call) (end : End) : Type 0 where
  pub item : A
  pub bytes : List ℕ
  pub starts : Starts form runner call item bytes
  pub ends : (runner.run item bytes call.count).end ≡ end
  pub comes : runner.ends end
  pub output : TakesAll call.at.out (runner.run item bytes call.count).output

-- the run came to this end other than a value, and its line is in `report`
pub record Halted {A : Type 0} (form : Form A) (runner : Runner A) (call : Call) (end : End) : Type 0 where
  pub ran : RanTo form runner call end
  pub line : Reports call.at.report (end_line end call.count)

-- the run ended with a value, and its line is in `report`
pub record IsDone {A : Type 0} (form : Form A) (runner : Runner A) (call : Call) : Type 0 where
  pub value : ℕ
  pub ran : RanTo form runner call (ends.Ended value)
  pub line : TakesAll call.at.report (end_line (ends.Ended value) call.count)

-- the run broke in some way
pub record IsBroken {A : Type 0} (form : Form A) (runner : Runner A) (call : Call) : Type 0 where
  pub kind : Break
  pub halted : Halted form runner call (ends.Broken kind)

-- the input of an item is over its limit
pub record InputIsLong {A : Type 0} (form : Form A) (call : Call) : Type 0 where
  pub item : A
  pub finds : Finds form call item
  pub longer : HasOver input_limit call.input.old
  pub unbroken : IsUnbroken call.input
  pub untouched : IsUntouched call.at.out
  pub line : Reports call.at.report input_too_long_line

-- reading the input of an item failed
pub record InputFailed {A : Type 0} (form : Form A) (call : Call) : Type 0 where
  pub item : A
  pub finds : Finds form call item
  pub fails : InputFails call.input
  pub untouched : IsUntouched call.at.out
  pub line : Reports call.at.report input_failed_line

-- the item can't be run, as this line tells
pub record IsUnable {A : Type 0} (form : Form A) (runner : Runner A) (call : Call) : Type 0 where
  pub item : A
  pub finds : Finds form call item
  pub bytes : List ℕ
  pub input : GetsInput call bytes
  pub line : List ℕ
  pub fault : runner.fault item ≡ Some line
  pub untouched : IsUntouched call.at.out
  pub told : Reports call.at.report line

-- a write of the run's output failed
pub record IsCutInOutput {A : Type 0} (form : Form A) (runner : Runner A) (call : Call) : Type 0 where
  pub item : A
  pub bytes : List ℕ
  pub starts : Starts form runner call item bytes
  pub cut : IsCut call.at.out (runner.run item bytes call.count).output
  pub line : Reports call.at.report output_failed_line

-- a write of the line of a run that ended with a value failed
pub record IsCutInReport {A : Type 0} (form : Form A) (runner : Runner A) (call : Call) : Type 0 where
  pub value : ℕ
  pub ran : RanTo form runner call (ends.Ended value)
  pub cut : IsCut call.at.report (end_line (ends.Ended value) call.count)

-- `out` gained a front of the output of a run, and nothing behind a failed write
pub record HasFront {A : Type 0} (form : Form A) (runner : Runner A) (call : Call) : Type 0 where
  pub item : A
  pub bytes : List ℕ
  pub starts : Starts form runner call item bytes
  pub front : GainsFront call.at.out (runner.run item bytes call.count).output
  pub once : RisesAtMostOnce call.at.out

-- memory ran out, and no part of the outside was used again behind its fault
pub record IsStopped {A : Type 0} (form : Form A) (runner : Runner A) (call : Call) : Type 0 where
  pub names : FailsAtMost call.name call.at.folder
  pub input : FailsAtMostOnce call.input
  pub out : IsUntouched call.at.out ⊎ HasFront form runner call
  pub report : RisesAtMostOnce call.at.report

-- the file is refused for what it holds, with this status
pub record IsRefusedAs {A : Type 0} (form : Form A) (runner : Runner A) (status : Status) (call : Call) : Type 0 where
  pub status_is : form.status ≡ status
  pub why : (IsUntaken call.input × FileIsWrong form call.at call.name) ⊎ IsUnable form runner call

-- what each status says
abbrev pub Leaves : {A : Type 0} → Form A → Runner A → Status → Call → Type 0
Leaves form runner statuses.Done call = IsDone form runner call
Leaves form runner statuses.Usage call = ⊥
Leaves form runner statuses.NoMemory call = IsStopped form runner call
Leaves form runner statuses.FileFault call = IsUntaken call.input × IsUnread call.at call.name
Leaves form runner statuses.InputFault call = InputFailed form call
Leaves form runner statuses.WriteFault call = IsCutInOutput form runner call ⊎ IsCutInReport form runner call
Leaves form runner statuses.TooLong call = (IsUntaken call.input × FileIsLong call.at call.name form.limit) ⊎ InputIsLong form call
Leaves form runner statuses.SourceRefused call = IsRefusedAs form runner statuses.SourceRefused call
Leaves form runner statuses.DescRefused call = IsRefusedAs form runner statuses.DescRefused call
Leaves form runner statuses.Full call = ⊥
Leaves form runner statuses.Blocks call = ⊥
Leaves form runner statuses.Loops call = ⊥
Leaves form runner statuses.PoolSmall call = ⊥
Leaves form runner statuses.Unshown call = ⊥
Leaves form runner statuses.FrameFull call = ⊥
Leaves form runner statuses.AsmRefused call = IsRefusedAs form runner statuses.AsmRefused call
Leaves form runner statuses.Spent call = Halted form runner call ends.Spent
Leaves form runner statuses.Trapped call = Halted form runner call ends.Trapped
Leaves form runner statuses.Wild call = Halted form runner call ends.Wild
Leaves form runner statuses.Deep call = Halted form runner call ends.Deep
Leaves form runner statuses.Broken call = IsBroken form runner call
Leaves form runner statuses.ImageRefused call = IsRefusedAs form runner statuses.ImageRefused call
