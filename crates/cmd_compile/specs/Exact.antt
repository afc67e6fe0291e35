-- What the command `compile D S` must answer, where the folder tells what it holds and no fault is counted.
use Rattle.std.specs.Prelude.{ℕ}
use Rattle.cmd_session.specs.declared.status.Status.{Status}
use Rattle.cmd_session.specs.declared.status.Status.TheVariants as statuses
use Rattle.cmd_files.specs.Outsides.{Outside, HasNoFault}
use Rattle.cmd_files.specs.Stages.{input_limit}
use Rattle.cmd_files.specs.Exact.{IsLongFile, IsNoItem, IsItem, IsAnswer}
use Rattle.md_reader.specs.State.{Content}
use Rattle.c_program.specs.Programs.{AProgram}
use Rattle.cmd_check.specs.Descriptions.{description_form, IsAccepted}
use Rattle.cmd_check.specs.Exact.{Refuses}
use Rattle.cmd_meaning.specs.Sources.{source_form}
use Rattle.gg_compile.specs.Needs.{AllFit, IsFirstOver}
use Rattle.cmd_compile.specs.Outcome.{Files}

-- the first file is told: it is that description, which is accepted
pub record Works (names : Files) (at : Outside) (d : Content) : Type 0 where
  pub item : IsItem description_form (at.folder.holds names.description) d
  pub accepted : IsAccepted d

-- the second is told besides: it is the source of that program
pub record Given (names : Files) (at : Outside) (p : AProgram) : Type 0 where
  pub description : Content
  pub works : Works names at description
  pub item : IsItem source_form (at.folder.holds names.source) p

-- each status where its cause is there
pub record Answers (result : Status) (names : Files) (at : Outside) : Type 0 where
  pub description : Refuses result (at.folder.holds names.description)
  pub long_source : (d : Content) → Works names at d → IsLongFile input_limit (at.folder.holds names.source)
      → IsAnswer statuses.TooLong result
  pub no_source : (d : Content) → Works names at d → IsNoItem source_form (at.folder.holds names.source)
      → IsAnswer statuses.SourceRefused result
  pub over : (p : AProgram) (function need : ℕ) → Given names at p → IsFirstOver p function need → IsAnswer statuses.FrameFull result
  -- a program whose functions fit is answered by its text
  pub fits : (p : AProgram) → Given names at p → AllFit p → IsAnswer statuses.Done result

-- no fault was counted: the folder's list gained neither name, and the count of no output rose
pub record HasNoFaults (names : Files) (at : Outside) : Type 0 where
  pub description : HasNoFault names.description at
  pub source : HasNoFault names.source at

abbrev pub IsExact : Status → Files → Outside → Type 0
IsExact result names at = HasNoFaults names at → Answers result names at
