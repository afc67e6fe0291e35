-- What the command `compile D S` finds and leaves behind.
use Rattle.std.specs.Prelude.{◌≡◌, ◌⊎◌, ℕ, List}
use Rattle.cmd_session.specs.declared.status.Status.{Status}
use Rattle.cmd_session.specs.declared.status.Status.TheVariants as statuses
use Rattle.cmd_session.specs.Writing.{IsUntouched, TakesAll}
use Rattle.cmd_files.specs.Forms.{Holds}
use Rattle.cmd_files.specs.Outsides.{Lookup, Outside, IsUnfailed, FailsAtMost}
use Rattle.cmd_files.specs.Stages.{FileRefused, OutputRefused}
use Rattle.md_reader.specs.State.{Content}
use Rattle.c_program.specs.Programs.{AProgram}
use Rattle.cmd_check.specs.Descriptions.{description_form, IsAccepted, NotAccepted}
use Rattle.cmd_meaning.specs.Sources.{source_form}
use Rattle.cmd_compile.specs.Lines.{pass_lines}
use Rattle.cmd_compile.specs.Passing.{Passing}
use Rattle.cmd_compile.specs.Texts.{IsTextBy, HasNoText, LinesRefused}

-- the names of the two files
pub record Files : Type 0 where
  pub description : List ℕ
  pub source : List ℕ

abbrev pub files : List ℕ → List ℕ → Files
files description source = record { description = description; source = source }

-- the folder was asked for these two names alone
abbrev pub FailAtMost : Files → Lookup → Type 0
FailAtMost names folder = FailsAtMost names.description folder ⊎ FailsAtMost names.source folder

-- the first file is that description, which is accepted
pub record FindsDescription (names : Files) (at : Outside) (d : Content) : Type 0 where
  pub holds : Holds description_form (at.folder.holds names.description) d
  pub accepted : IsAccepted d

-- the second file is the source of that program besides, and no reading of the folder failed
pub record FindsProgram (names : Files) (at : Outside) (d : Content) (p : AProgram) : Type 0 where
  pub description : FindsDescription names at d
  pub holds : Holds source_form (at.folder.holds names.source) p
  pub unfailed : IsUnfailed at.folder

-- The first file is an accepted description, the second the source of a program, and `out` gained a text of that program. The report
-- gained a line for each pass.
pub record IsCompiled (by : Passing) (names : Files) (at : Outside) : Type 0 where
  pub description : Content
  pub program : AProgram
  pub finds : FindsProgram names at description program
  pub text : List ℕ
  pub is_text : IsTextBy by description program text
  pub takes : TakesAll at.out text
  pub told : TakesAll at.report (pass_lines 0 by.changes)

-- What the command came to, in its order. Nothing is written to `out` before a text is there, and no line of a pass before the text is
-- written whole.
pub data Leaves (by : Passing) (result : Status) (names : Files) (at : Outside) : Type 0 where
  -- the first file gave no accepted description
  NoDescription : (untouched : IsUntouched at.out) (refused : NotAccepted names.description at.folder result at.report)
      → Leaves by result names at
  -- the second file gave no program
  NoProgram : (d : Content) (finds : FindsDescription names at d) (untouched : IsUntouched at.out)
      (refused : FileRefused source_form names.source at.folder result at.report) → Leaves by result names at
  -- the program has no text
  NoText : (d : Content) (p : AProgram) (finds : FindsProgram names at d p) (untouched : IsUntouched at.out)
      (refused : HasNoText p result at.report) → Leaves by result names at
  -- the program's text was not written whole
  NotWritten : (d : Content) (p : AProgram) (finds : FindsProgram names at d p) (text : List ℕ) (is_text : IsTextBy by d p text)
      (refused : OutputRefused text result at.out at.report) → Leaves by result names at
  -- the program's text is in `out`, but the lines of the passes are not whole in the report
  NotTold : (d : Content) (p : AProgram) (finds : FindsProgram names at d p) (text : List ℕ) (is_text : IsTextBy by d p text)
      (takes : TakesAll at.out text) (refused : LinesRefused (pass_lines 0 by.changes) result at.report) → Leaves by result names at
  -- the program's text is in `out`
  Written : (is : result ≡ statuses.Done) (compiled : IsCompiled by names at) → Leaves by result names at
