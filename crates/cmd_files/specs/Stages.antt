-- What a part of a command leaves behind where it refused: its status, and the line that it has told.
use Rattle.std.specs.Prelude.{◌≡◌, ℕ, List, Some, None}
use Rattle.gg_base.specs.declared.limits.TheConstants.{SOURCE_LIMIT}
use Rattle.gg_outside.specs.Outside.{IsLonger}
use Rattle.cmd_session.specs.declared.status.Status.{Status}
use Rattle.cmd_session.specs.declared.status.Status.TheVariants as statuses
use Rattle.cmd_session.specs.Lines.{cannot_read_line, too_long_line, input_failed_line, input_too_long_line, output_failed_line}
use Rattle.cmd_session.specs.Reading.{Intake, HasOver, IsUnbroken, Fails as InputFails, FailsAtMostOnce}
use Rattle.cmd_session.specs.Writing.{Change, GainsFront, RisesAtMostOnce, IsUntouched, IsCut, Reports}
use Rattle.cmd_session.specs.Telling.{IsRefused, IsStarved, Tells}
use Rattle.cmd_files.specs.Forms.{Form, Runner, HoldsNone}
use Rattle.cmd_files.specs.Outsides.{Lookup, IsUnfailed, Fails, FailsAtMost}

-- the longest input of a run, and the longest source
abbrev pub input_limit : ℕ
input_limit = SOURCE_LIMIT

-- the file of that name was refused
pub data FileRefused {A : Type 0} (form : Form A) (name : List ℕ) (folder : Lookup) (status : Status) (report : Change) : Type 0 where
  Unread : (is : status ≡ statuses.FileFault) (noted : Fails name folder) (told : Reports report (cannot_read_line name)) →
      FileRefused form name folder status report
  LongFile : (is : status ≡ statuses.TooLong) (longer : IsLonger (folder.holds name) form.limit) (unfailed : IsUnfailed folder)
      (told : Reports report (too_long_line name)) → FileRefused form name folder status report
  WrongFile : (is : status ≡ form.status) (line : List ℕ) (wrong : HoldsNone form (folder.holds name) line) (unfailed : IsUnfailed folder)
      (told : Reports report line) → FileRefused form name folder status report
  StarvedFile : (starved : IsStarved status report) (names : FailsAtMost name folder) → FileRefused form name folder status report

-- the input was refused
pub data InputRefused (input : Intake) (status : Status) (report : Change) : Type 0 where
  BrokenInput : (is : status ≡ statuses.InputFault) (fails : InputFails input) (told : Reports report input_failed_line) →
      InputRefused input status report
  LongInput : (is : status ≡ statuses.TooLong) (longer : HasOver input_limit input.old) (unbroken : IsUnbroken input)
      (told : Reports report input_too_long_line) → InputRefused input status report
  StarvedInput : (starved : IsStarved status report) (once : FailsAtMostOnce input) → InputRefused input status report

-- an item was run and its run told; or it can't be run, or memory ran out before
pub data ToldRun {A : Type 0} (runner : Runner A) (refusal : Status) (item : A) (input : List ℕ) (count : ℕ) (status : Status)
    (out report : Change) : Type 0 where
  Unable : (line : List ℕ) (fault : runner.fault item ≡ Some line) (untouched : IsUntouched out)
      (told : IsRefused refusal line status report) → ToldRun runner refusal item input count status out report
  Told : (able : runner.fault item ≡ None) (ends : runner.ends (runner.run item input count).end)
      (told : Tells status (runner.run item input count) count out report) → ToldRun runner refusal item input count status out report
  StarvedRun : (untouched : IsUntouched out) (starved : IsStarved status report) → ToldRun runner refusal item input count status out report

-- bytes were not written whole to the output
pub data OutputRefused (bytes : List ℕ) (status : Status) (out report : Change) : Type 0 where
  CutOutput : (is : status ≡ statuses.WriteFault) (cut : IsCut out bytes) (told : Reports report output_failed_line) →
      OutputRefused bytes status out report
  StarvedOutput : (starved : IsStarved status report) (front : GainsFront out bytes) (once : RisesAtMostOnce out) →
      OutputRefused bytes status out report
