-- Machine descriptions in files, which of them are accepted, and how another is told.
use Rattle.std.specs.Prelude.{◌≡◌, ℕ, List, None}
use Rattle.gg_base.specs.declared.limits.TheConstants.{DESCRIPTION_LIMIT}
use Rattle.cmd_session.specs.declared.status.Status.{Status}
use Rattle.cmd_session.specs.declared.status.Status.TheVariants as statuses
use Rattle.cmd_session.specs.Writing.{Change, Reports}
use Rattle.cmd_session.specs.Telling.{IsStarved}
use Rattle.cmd_files.specs.Forms.{Form, Holds}
use Rattle.cmd_files.specs.Outsides.{Lookup, IsUnfailed}
use Rattle.cmd_files.specs.Stages.{FileRefused}
use Rattle.md_reader.specs.declared.faults.DescKind.{DescKind}
use Rattle.md_reader.specs.declared.faults.DescFault.TheVariants as desc_fault
use Rattle.md_reader.specs.State.{Content}
use Rattle.md_reader.specs.Desc.{DescFor}
use Rattle.md_reader.specs.First.{IsFirstFor}
use Rattle.lr_tables.specs.Promises.{HasTooManySets}
use Rattle.lr_checked.specs.Accepted.{NeverStops}
use Rattle.lr_checked.specs.Counted.{HasTooManySums}
use Rattle.cmd_descriptions.specs.Lines.{wrong_line, full_line}
use Rattle.cmd_descriptions.specs.Stops.{StopRefused}
use Rattle.cmd_descriptions.specs.Machines.{Machine}
use Rattle.cmd_descriptions.specs.Rules.{refusal_on, RulesRefusedBy}

-- the longest description
abbrev pub description_limit : ℕ
description_limit = DESCRIPTION_LIMIT

-- the line names the first wrong line of the bytes, as a description for the target of that word, and what is wrong there
pub record NamesFirstWrong (target bytes line : List ℕ) : Type 0 where
  pub number : ℕ
  pub kind : DescKind
  pub first : IsFirstFor target bytes (desc_fault.Line number kind)
  pub named : line ≡ wrong_line number kind

-- a file is a machine description for the target of that word
abbrev pub description_form_for : List ℕ → Form Content
description_form_for target = record {
  limit = description_limit;
  reads = DescFor target;
  refuses = NamesFirstWrong target;
  status = statuses.DescRefused;
  of_files = tt;
}

-- A description is accepted for a machine: it has tables, with no more than `SUMMARY_LIMIT` summaries, by which no typed statement stops
-- the parse, and all its rules are shown on the machine.
pub record IsAcceptedFor (m : Machine) (d : Content) : Type 0 where
  pub few : ¬ HasTooManySets d
  pub sums : ¬ HasTooManySums d
  pub never : NeverStops d
  pub shown : refusal_on m d ≡ None

-- no tables were built of a description
pub data BuildRefused (d : Content) (status : Status) (report : Change) : Type 0 where
  TooMany : (is : status ≡ statuses.Full) (many : HasTooManySets d) (told : Reports report full_line) → BuildRefused d status report
  StarvedBuild : (starved : IsStarved status report) → BuildRefused d status report

-- the file of that name was not read as a description for that target, or its description has no tables
pub data TablesRefused (target name : List ℕ) (folder : Lookup) (status : Status) (report : Change) : Type 0 where
  NotRead : (refused : FileRefused (description_form_for target) name folder status report)
      → TablesRefused target name folder status report
  NotBuilt : (d : Content) (holds : Holds (description_form_for target) (folder.holds name) d) (unfailed : IsUnfailed folder)
      (refused : BuildRefused d status report) → TablesRefused target name folder status report

-- the same, or its tables were refused, or their rules are not all shown on the machine
pub data NotAcceptedFor (m : Machine) (name : List ℕ) (folder : Lookup) (status : Status) (report : Change) : Type 0 where
  NoTables : (refused : TablesRefused m.word name folder status report) → NotAcceptedFor m name folder status report
  Stopped : (d : Content) (holds : Holds (description_form_for m.word) (folder.holds name) d) (unfailed : IsUnfailed folder)
      (few : ¬ HasTooManySets d) (refused : StopRefused d status report) → NotAcceptedFor m name folder status report
  NoRules : (d : Content) (holds : Holds (description_form_for m.word) (folder.holds name) d) (unfailed : IsUnfailed folder)
      (few : ¬ HasTooManySets d) (sums : ¬ HasTooManySums d) (never : NeverStops d) (refused : RulesRefusedBy (refusal_on m d) status report)
      → NotAcceptedFor m name folder status report
