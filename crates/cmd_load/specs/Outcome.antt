-- What the command `load D K` finds and leaves behind.
use Rattle.std.specs.Prelude.{◌≡◌, ◌≤◌, ℕ, List, [], length}
use Rattle.gg_base.specs.declared.run.End.TheVariants.{Spent}
use Rattle.gg_base.specs.Runs.{Runs}
use Rattle.cmd_session.specs.declared.status.Status.{Status}
use Rattle.cmd_session.specs.declared.status.Status.TheVariants as statuses
use Rattle.cmd_session.specs.Lines.{end_line}
use Rattle.cmd_session.specs.Writing.{Change, IsUntouched, TakesAll}
use Rattle.cmd_session.specs.Telling.{IsRefused, IsStarved}
use Rattle.cmd_files.specs.Forms.{Holds}
use Rattle.cmd_files.specs.Outsides.{Outside, IsUnfailed}
use Rattle.cmd_files.specs.Stages.{OutputRefused}
use Rattle.md_reader.specs.State.{Content}
use Rattle.c_program.specs.Programs.{AProgram}
use Rattle.c_typed.specs.Sources.{Reads}
use Rattle.c_meaning.specs.Programs.{source}
use Rattle.vax_machine.specs.Running.{run}
use Rattle.gg_load.specs.Source.{source_text}
use Rattle.cmd_compile.specs.cmd_check.specs.Descriptions.{description_form, IsAccepted, NotAccepted}
use Rattle.cmd_compile.specs.Passing.{Passing}
use Rattle.cmd_compile.specs.Texts.{IsTextBy}
use Rattle.cmd_load_runs.specs.Sides.{EndsAt}
use Rattle.cmd_load.specs.declared.summary.Summary.{Summary}
use Rattle.cmd_load.specs.Telling.{greatest_number, SummaryTold}

-- the program of the generated source of so many functions, and its text by a description and by passes
pub record Made (by : Passing) (d : Content) (functions : ℕ) : Type 0 where
  pub program : AProgram
  pub reads : Reads (source_text functions) program
  pub text : List ℕ
  pub is_text : IsTextBy by d program text

module _ (by : Passing) (d : Content) (functions : ℕ) where
  -- what both sides do on no input
  abbrev pub source_side : Made by d functions → Runs
  source_side made = source made.program []

  abbrev pub text_side : Made by d functions → Runs
  text_side made = run made.is_text.is_text.code []

  -- Both sides end alike, with so many turns and so many instructions, and with no fewer. The summary tells that.
  pub record EndAlike (made : Made by d functions) (output : List ℕ) (told : Summary) : Type 0 where
    pub turns : EndsAt (source_side made) told.turns output told.value
    pub instructions : EndsAt (text_side made) told.instructions output told.value
    pub turns_within : told.turns ≤ greatest_number
    pub instructions_within : told.instructions ≤ greatest_number
    pub functions_are : told.functions ≡ functions
    pub source_is : told.source ≡ length (source_text functions)
    pub text_is : told.text ≡ length made.text
    pub output_is : told.output ≡ length output

  -- What was come to by an accepted description, in the command's order.
  pub data Loads (result : Status) (out report : Change) : Type 0 where
    -- memory ran out before both sides had run
    Starved : (untouched : IsUntouched out) (starved : IsStarved result report) → Loads result out report
    -- the output of the text's run was not written whole
    NotWritten : (made : Made by d functions) (refused : OutputRefused (text_side made greatest_number).output result out report)
        → Loads result out report
    -- the text's run used up its instructions and would go on
    IsSpent : (made : Made by d functions) (spent : (text_side made greatest_number).end ≡ Spent)
        (output : TakesAll out (text_side made greatest_number).output)
        (told : IsRefused statuses.Spent (end_line Spent greatest_number) result report) → Loads result out report
    -- both sides ended, and that was told
    BothEnded : (made : Made by d functions) (output : List ℕ) (summary : Summary) (alike : EndAlike made output summary)
        (written : TakesAll out output) (told : SummaryTold summary result report) → Loads result out report

-- the file is that description, which is accepted, and no reading of the folder failed
pub record Finds (name : List ℕ) (at : Outside) (d : Content) : Type 0 where
  pub holds : Holds description_form (at.folder.holds name) d
  pub accepted : IsAccepted d
  pub unfailed : IsUnfailed at.folder

-- what the command came to: the file gave no accepted description, or by one that was come to
pub data Leaves (by : Passing) (result : Status) (name : List ℕ) (functions : ℕ) (at : Outside) : Type 0 where
  NoDescription : (untouched : IsUntouched at.out) (refused : NotAccepted name at.folder result at.report)
      → Leaves by result name functions at
  Behind : (d : Content) (finds : Finds name at d) (loads : Loads by d functions result at.out at.report)
      → Leaves by result name functions at

-- the statuses that come
abbrev pub MayCome : Status → Type 0
MayCome statuses.Done = Unit {0}
MayCome statuses.Usage = ⊥
MayCome statuses.NoMemory = Unit {0}
MayCome statuses.FileFault = Unit {0}
MayCome statuses.InputFault = ⊥
MayCome statuses.WriteFault = Unit {0}
MayCome statuses.TooLong = Unit {0}
MayCome statuses.SourceRefused = ⊥
MayCome statuses.DescRefused = Unit {0}
MayCome statuses.Full = Unit {0}
MayCome statuses.Blocks = Unit {0}
MayCome statuses.Loops = Unit {0}
MayCome statuses.PoolSmall = Unit {0}
MayCome statuses.Unshown = Unit {0}
MayCome statuses.FrameFull = ⊥
MayCome statuses.AsmRefused = ⊥
MayCome statuses.Spent = Unit {0}
MayCome statuses.Trapped = ⊥
MayCome statuses.Wild = ⊥
MayCome statuses.Deep = ⊥
MayCome statuses.Broken = ⊥
MayCome statuses.ImageRefused = ⊥
