-- What `run A N` leaves behind where its file holds a text that `compile` wrote, for every number of steps.
use Rattle.std.specs.Prelude.{◌≡◌, ◌⊎◌, ℕ, ◌<◌, ◌≤◌, List, ◌++◌, length}
use Rattle.gg_base.specs.declared.run.End.{End}
use Rattle.gg_base.specs.declared.run.End.TheVariants as ends
use Rattle.gg_base.specs.Follows.{Tells}
use Rattle.md_reader.specs.State.{Content}
use Rattle.c_program.specs.Programs.{AProgram}
use Rattle.c_meaning.specs.Programs.{source}
use Rattle.cmd_session.specs.declared.status.Status.{Status}
use Rattle.cmd_session.specs.declared.status.Status.TheVariants as statuses
use Rattle.cmd_session.specs.Lines.{end_status, end_line}
use Rattle.cmd_session.specs.Reading.{HasOver, Fails as InputFails}
use Rattle.cmd_session.specs.Writing.{TakesAll, Rises, Reports}
use Rattle.cmd_files.specs.Outsides.{Fails, HasNoFault}
use Rattle.cmd_files.specs.Stages.{input_limit}
use Rattle.cmd_files.specs.Calls.{Call}
use Rattle.cmd_files.specs.Outcome.{RanTo, Leaves}
use Rattle.cmd_files.specs.Exact.{LeavesBytes, IsExact}
use Rattle.cmd_run.specs.Texts.{text_limit, text_form, code_runner}
use Rattle.cmd_compile.specs.Texts.{IsTextOf}
use Rattle.gg_headline.specs.Claims.{HoldsText}

-- The seven ends of a call of `run` whose file is this text. Its refusal for what it holds is none of them.
pub data RunComesTo (text : List ℕ) (result : Status) (call : Call) : Type 0 where
  -- the run of the text's code came to this end, which was told
  Ran : (end : End) (is : result ≡ end_status end) (ran : RanTo text_form code_runner call end)
      (line : Reports call.at.report (end_line end call.count)) → RunComesTo text result call
  -- memory ran out
  Starved : (is : result ≡ statuses.NoMemory) → RunComesTo text result call
  -- the file or the input was not read, as the folder has noted or the input has counted
  FileNotRead : (is : result ≡ statuses.FileFault) (noted : Fails call.name call.at.folder) → RunComesTo text result call
  InputNotRead : (is : result ≡ statuses.InputFault) (counted : InputFails call.input) → RunComesTo text result call
  -- the run's output or the line of its end was not written whole, as that output has counted
  NotWritten : (is : result ≡ statuses.WriteFault) (counted : Rises call.at.out ⊎ Rises call.at.report) → RunComesTo text result call
  -- the text has more than `TEXT_LIMIT` bytes, or the input more than `SOURCE_LIMIT`
  TextTooLong : (is : result ≡ statuses.TooLong) (longer : text_limit < length text) → RunComesTo text result call
  InputTooLong : (is : result ≡ statuses.TooLong) (longer : HasOver input_limit call.input.old) → RunComesTo text result call

-- `run` of a text that `compile` wrote comes to one of these.
abbrev pub RunsComeTo : Type 0
RunsComeTo = (d : Content) (p : AProgram) (text : List ℕ) (result : Status) (call : Call) → IsTextOf d p text → HoldsText text call
    → Leaves text_form code_runner result call → RunComesTo text result call

-- A call of `run` whose file is this text, of at most `TEXT_LIMIT` bytes, on this input, of at most `SOURCE_LIMIT` bytes, both told, and
-- by which no fault was counted.
pub record IsRunOf (text bytes : List ℕ) (result : Status) (call : Call) : Type 0 where
  pub leaves : Leaves text_form code_runner result call
  pub exact : IsExact text_form code_runner result call
  pub stored : HoldsText text call
  pub within : length text ≤ text_limit
  pub left : LeavesBytes call.input bytes
  pub no_fault : HasNoFault call.name call.at
  pub unbroken : InputFails call.input → ⊥

-- The call came to this end of its run: with its status, this output in `out`, and the end's line in `report`.
pub record CameTo (output : List ℕ) (end : End) (result : Status) (call : Call) : Type 0 where
  pub status : result ≡ end_status end
  pub written : TakesAll call.at.out output
  pub line : Reports call.at.report (end_line end call.count)

-- so it is, or memory ran out
abbrev pub Comes : List ℕ → End → Status → Call → Type 0
Comes output end result call = CameTo output end result call ⊎ (result ≡ statuses.NoMemory)

-- the call was spent, and has written a front of this output
pub record IsSpentBefore (output : List ℕ) (result : Status) (call : Call) : Type 0 where
  pub front : List ℕ
  pub rest : List ℕ
  pub split : output ≡ front ++ rest
  pub comes : Comes front ends.Spent result call

-- the call was spent, and has written this output and maybe more
pub record IsSpentBehind (output : List ℕ) (result : Status) (call : Call) : Type 0 where
  pub rest : List ℕ
  pub comes : Comes (output ++ rest) ends.Spent result call

-- With this number of steps and with each greater one the run of a text comes to this end with this output; with each smaller one it is
-- spent, at a front of the output.
pub record EndsFrom (text bytes output : List ℕ) (end : End) (least : ℕ) : Type 0 where
  pub enough : (result : Status) (call : Call) → IsRunOf text bytes result call → least ≤ call.count → Comes output end result call
  pub few : (result : Status) (call : Call) → IsRunOf text bytes result call → call.count < least → IsSpentBefore output result call

-- With this number of steps and with each greater one the run of a text is spent, and has written this output and maybe more.
abbrev pub WritesFrom : List ℕ → List ℕ → List ℕ → ℕ → Type 0
WritesFrom text bytes output least =
    (result : Status) (call : Call) → IsRunOf text bytes result call → least ≤ call.count → IsSpentBehind output result call

-- Where the program ends with a value on an input, its text's run does so, with that output and that value: with each number of steps from
-- a least one on, and with no smaller one.
abbrev pub EndedTextsEnd : Type 0
EndedTextsEnd =
    (d : Content) (p : AProgram) (text bytes : List ℕ) (n value : ℕ) → IsTextOf d p text → (source p bytes n).end ≡ ends.Ended value
    → ∥ ((least : ℕ) × EndsFrom text bytes (source p bytes n).output (ends.Ended value) least) ∥₁

-- Where it traps, so does its text's run, with that output.
abbrev pub TrappingTextsTrap : Type 0
TrappingTextsTrap =
    (d : Content) (p : AProgram) (text bytes : List ℕ) (n : ℕ) → IsTextOf d p text → (source p bytes n).end ≡ ends.Trapped
    → ∥ ((least : ℕ) × EndsFrom text bytes (source p bytes n).output ends.Trapped least) ∥₁

-- Where it goes on with every number, its text's run is spent with every number, and what it has written is a front of what the program
-- writes with some number.
abbrev pub EndlessTextsGoOn : Type 0
EndlessTextsGoOn =
    (d : Content) (p : AProgram) (text bytes : List ℕ) (result : Status) (call : Call) → IsTextOf d p text
    → ((n : ℕ) → (source p bytes n).end ≡ ends.Spent) → IsRunOf text bytes result call
    → ∥ ((n : ℕ) × IsSpentBefore (source p bytes n).output result call) ∥₁

-- And whatever the program writes with some number, its text's run has written with each number of steps from some one on.
abbrev pub EndlessTextsWrite : Type 0
EndlessTextsWrite =
    (d : Content) (p : AProgram) (text bytes : List ℕ) (n : ℕ) → IsTextOf d p text → ((m : ℕ) → (source p bytes m).end ≡ ends.Spent)
    → ∥ ((least : ℕ) × WritesFrom text bytes (source p bytes n).output least) ∥₁

-- At each end that a run of the text comes to, the meaning of the program on the same input has this output and this end, or a longer
-- output where the run is spent; or it makes a wild access or nests too deep.
abbrev pub RunsTellAll : Type 0
RunsTellAll =
    (d : Content) (p : AProgram) (text : List ℕ) (call : Call) (end : End) → IsTextOf d p text → HoldsText text call
    → (ran : RanTo text_form code_runner call end)
    → ∥ Tells end (code_runner.run ran.item ran.bytes call.count).output (source p ran.bytes) ∥₁
