-- What the command `compile` ends with, and what `run` finds and leaves where its file holds a text that `compile` wrote.
use Rattle.std.specs.Prelude.{◌≡◌, ◌⊎◌, ℕ, ◌≤◌, List, length}
use Rattle.gg_base.specs.declared.run.End.{End}
use Rattle.gg_base.specs.declared.run.End.TheVariants as ends
use Rattle.gg_base.specs.Follows.{Tells}
use Rattle.gg_outside.specs.Outside.{Stored}
use Rattle.md_reader.specs.State.{Content}
use Rattle.c_program.specs.Programs.{AProgram}
use Rattle.c_sound.specs.Fits.{AreBytes}
use Rattle.c_meaning.specs.Programs.{source}
use Rattle.cmd_session.specs.declared.status.Status.{Status}
use Rattle.cmd_session.specs.declared.status.Status.TheVariants as statuses
use Rattle.cmd_files.specs.Outsides.{Outside}
use Rattle.cmd_files.specs.Calls.{Call}
use Rattle.cmd_files.specs.Outcome.{RanTo, IsRefusedAs}
use Rattle.cmd_files.specs.Exact.{LeavesBytes, IsAnswer, Answers}
use Rattle.cmd_run.specs.Texts.{text_limit, text_form, code_runner}
use Rattle.cmd_compile.specs.Passing.{Passing}
use Rattle.cmd_compile.specs.Texts.{IsTextOf}
use Rattle.cmd_compile.specs.Outcome.{Files, IsCompiled, Leaves}

-- The statuses with which `compile` refuses. What each of them finds, `Leaves` says.
abbrev pub IsRefusal : Status → Type 0
IsRefusal statuses.Done = ⊥
IsRefusal statuses.Usage = ⊥
IsRefusal statuses.NoMemory = Unit {0}
IsRefusal statuses.FileFault = Unit {0}
IsRefusal statuses.InputFault = ⊥
IsRefusal statuses.WriteFault = Unit {0}
IsRefusal statuses.TooLong = Unit {0}
IsRefusal statuses.SourceRefused = Unit {0}
IsRefusal statuses.DescRefused = Unit {0}
IsRefusal statuses.Full = Unit {0}
IsRefusal statuses.Blocks = Unit {0}
IsRefusal statuses.Loops = Unit {0}
IsRefusal statuses.PoolSmall = Unit {0}
IsRefusal statuses.Unshown = Unit {0}
IsRefusal statuses.FrameFull = Unit {0}
IsRefusal statuses.AsmRefused = ⊥
IsRefusal statuses.Spent = ⊥
IsRefusal statuses.Trapped = ⊥
IsRefusal statuses.Wild = ⊥
IsRefusal statuses.Deep = ⊥
IsRefusal statuses.Broken = ⊥
IsRefusal statuses.ImageRefused = ⊥

-- What `compile` leaves at status 0 is a text of the source, and at each other status it refuses.
abbrev pub CompileEnds : Passing → Type 0
CompileEnds by =
    (result : Status) (names : Files) (at : Outside) → Leaves by result names at
    → ((result ≡ statuses.Done) × IsCompiled by names at) ⊎ IsRefusal result

-- the file that `run` is given is this text
abbrev pub HoldsText : List ℕ → Call → Type 0
HoldsText text call = call.at.folder.holds call.name ≡ Stored text

-- Such a text is not refused for what it holds.
abbrev pub TextsAreTaken : Type 0
TextsAreTaken =
    (d : Content) (p : AProgram) (text : List ℕ) (call : Call) → IsTextOf d p text → HoldsText text call
    → IsRefusedAs text_form code_runner statuses.AsmRefused call → ⊥

-- At each end that a run of it comes to, the meaning of the program on the same input has this output and this end, or
-- a longer output where the run is spent; or it makes a wild access or nests too deep.
abbrev pub RunsTell : Type 0
RunsTell =
    (d : Content) (p : AProgram) (text : List ℕ) (call : Call) (end : End) → IsTextOf d p text → HoldsText text call
    → (ran : RanTo text_form code_runner call end) → AreBytes ran.bytes
    → ∥ Tells end (code_runner.run ran.item ran.bytes call.count).output (source p ran.bytes) ∥₁

-- `run` answers that a value came, with some number of steps, of a text within its limit, the input told, and no fault counted.
abbrev pub EndsAt : List ℕ → List ℕ → ℕ → Type 0
EndsAt text bytes count =
    (result : Status) (call : Call) → call.count ≡ count → HoldsText text call → length text ≤ text_limit → LeavesBytes call.input bytes
    → Answers text_form code_runner result call → IsAnswer statuses.Done result

-- Where the program ends with a value on an input, there is such a number.
abbrev pub RunsEnd : Type 0
RunsEnd =
    (d : Content) (p : AProgram) (text bytes : List ℕ) (n value : ℕ) → IsTextOf d p text → AreBytes bytes
    → (source p bytes n).end ≡ ends.Ended value → ∥ ((count : ℕ) × EndsAt text bytes count) ∥₁
