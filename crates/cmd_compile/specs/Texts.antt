-- The text of a program's code, and how a program that has none is told.
use Rattle.std.specs.Prelude.{◌≡◌, ℕ, List, true}
use Rattle.cmd_session.specs.declared.status.Status.{Status}
use Rattle.cmd_session.specs.declared.status.Status.TheVariants as statuses
use Rattle.cmd_session.specs.Writing.{Change, IsCut}
use Rattle.cmd_session.specs.Telling.{IsRefused, IsStarved}
use Rattle.cmd_files.specs.Forms.{IsReadAs}
use Rattle.cmd_run.specs.Texts.{text_form}
use Rattle.md_reader.specs.State.{Content}
use Rattle.c_program.specs.Programs.{AProgram}
use Rattle.c_lower_scheme.specs.Programs.{lowered}
use Rattle.vax_core.specs.declared.code.Code.{Code}
use Rattle.vax_core.specs.Valid.{is_code}
use Rattle.vax_core.specs.Text.{asm_text}
use Rattle.cmd_check.specs.vax_target_meaning.specs.Vax.{vax}
use Rattle.vax_alike.specs.Alike.{Alike}
use Rattle.gg_compile.specs.Needs.{AllFit, IsFirstOver}
use Rattle.gg_compile.specs.Selecting.{SelectedAll}
use Rattle.gg_compile.specs.Keeping.{Keeps}
use Rattle.cmd_compile.specs.Lines.{name_at, frame_line}
use Rattle.cmd_compile.specs.Passing.{Passing}

-- The code is selected of the program's trees by the description. A text can be written of it, and it keeps the program: it loads, and
-- on every input its run follows the program's. Each function fits its frame.
pub record IsCodeOf (d : Content) (p : AProgram) (code : Code) : Type 0 where
  pub fit : AllFit p
  pub selected : SelectedAll vax d (lowered p) code
  pub valid : is_code code ≡ true
  pub keeps : ∥ Keeps p code ∥₁

-- The bytes are the text of a code to which passes lead from another, and which behaves like that one.
pub record IsPassedText (by : Passing) (first : Code) (bytes : List ℕ) : Type 0 where
  pub code : Code
  pub led : by.leads first code
  pub valid : is_code code ≡ true
  pub alike : Alike first code
  pub text : bytes ≡ asm_text code

-- The bytes are the assembly text of one code, which is what `run` reads in them. That code behaves like one that is selected of the
-- program's trees by the description, and it keeps the program: it loads, and on every input its run follows the program's. Each
-- function fits its frame.
pub record IsTextOf (d : Content) (p : AProgram) (bytes : List ℕ) : Type 0 where
  pub fit : AllFit p
  pub first : Code
  pub selected : SelectedAll vax d (lowered p) first
  pub code : Code
  pub alike : Alike first code
  pub read : IsReadAs text_form bytes code
  pub keeps : ∥ Keeps p code ∥₁

-- And to that code the passes lead from the selected one.
pub record IsTextBy (by : Passing) (d : Content) (p : AProgram) (bytes : List ℕ) : Type 0 where
  pub is_text : IsTextOf d p bytes
  pub led : by.leads is_text.first is_text.code

-- no text was made of the program: its first function that needs too many words of its frame was told, or memory ran out
pub data HasNoText (p : AProgram) (status : Status) (report : Change) : Type 0 where
  FrameIsFull : (function need : ℕ) (over : IsFirstOver p function need)
      (told : IsRefused statuses.FrameFull (frame_line (name_at p function) need) status report) → HasNoText p status report
  StarvedText : (starved : IsStarved status report) → HasNoText p status report

-- lines were not written whole to the report
pub data LinesRefused (lines : List ℕ) (status : Status) (report : Change) : Type 0 where
  CutLines : (is : status ≡ statuses.WriteFault) (cut : IsCut report lines) → LinesRefused lines status report
  StarvedLines : (starved : IsStarved status report) → LinesRefused lines status report
