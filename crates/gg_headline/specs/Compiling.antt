-- What `compile D S` comes to where the description is told and accepted.
use Rattle.std.specs.Prelude.{◌≡◌, ◌⊎◌, ℕ, List}
use Rattle.gg_outside.specs.Outside.{IsLonger}
use Rattle.md_reader.specs.State.{Content}
use Rattle.c_program.specs.Programs.{AProgram}
use Rattle.cmd_session.specs.declared.status.Status.{Status}
use Rattle.cmd_session.specs.declared.status.Status.TheVariants as statuses
use Rattle.cmd_session.specs.Writing.{Rises}
use Rattle.cmd_files.specs.Forms.{Holds, HoldsNone}
use Rattle.cmd_files.specs.Outsides.{Outside, Fails}
use Rattle.cmd_files.specs.Stages.{input_limit}
use Rattle.cmd_compile.specs.cmd_meaning.specs.Sources.{source_form}
use Rattle.cmd_compile.specs.Passing.{Passing}
use Rattle.cmd_compile.specs.Outcome.{Files, IsCompiled, Leaves}
use Rattle.cmd_compile.specs.Exact.{Works}
use Rattle.cmd_compile.specs.gg_compile.specs.Needs.{IsFirstOver}

-- The eight ends of such a call, with passes in it. No refusal of a description is among them, and none for a tree.
pub data ComesTo (by : Passing) (result : Status) (names : Files) (at : Outside) : Type 0 where
  -- `out` gained the text of the source's program
  Compiled : (is : result ≡ statuses.Done) (compiled : IsCompiled by names at) → ComesTo by result names at
  -- memory ran out
  Starved : (is : result ≡ statuses.NoMemory) → ComesTo by result names at
  -- one of the two files was not read, as the folder has noted
  NotRead : (is : result ≡ statuses.FileFault) (noted : Fails names.description at.folder ⊎ Fails names.source at.folder)
      → ComesTo by result names at
  -- the text was not written whole, as `out` has counted
  NotWritten : (is : result ≡ statuses.WriteFault) (counted : Rises at.out) → ComesTo by result names at
  -- the lines of the passes were not written whole, as the report has counted
  NotTold : (is : result ≡ statuses.WriteFault) (counted : Rises at.report) → ComesTo by result names at
  -- the source is over its limit
  SourceTooLong : (is : result ≡ statuses.TooLong) (longer : IsLonger (at.folder.holds names.source) input_limit)
      → ComesTo by result names at
  -- the source is no program's, and the line tells its first fault
  NoProgram : (is : result ≡ statuses.SourceRefused) (line : List ℕ) (wrong : HoldsNone source_form (at.folder.holds names.source) line)
      → ComesTo by result names at
  -- that function of the source's program is its first that needs more than `NEED_LIMIT` words of its frame
  FrameIsFull : (is : result ≡ statuses.FrameFull) (p : AProgram) (holds : Holds source_form (at.folder.holds names.source) p)
      (function need : ℕ) (over : IsFirstOver p function need) → ComesTo by result names at

-- By a description that is told and accepted, `compile` comes to one of these.
abbrev pub CompileComesTo : Passing → Type 0
CompileComesTo by = (result : Status) (names : Files) (at : Outside) (d : Content) → Works names at d → Leaves by result names at
    → ComesTo by result names at

-- the statuses of a description that is refused
abbrev pub RefusesDescription : Status → Type 0
RefusesDescription statuses.DescRefused = Unit {0}
RefusesDescription statuses.Full = Unit {0}
RefusesDescription statuses.Blocks = Unit {0}
RefusesDescription statuses.Loops = Unit {0}
RefusesDescription statuses.PoolSmall = Unit {0}
RefusesDescription statuses.Unshown = Unit {0}
RefusesDescription _ = ⊥

-- So it never says that such a description is refused, nor that a tree blocks or loops.
abbrev pub AcceptedIsNotRefused : Passing → Type 0
AcceptedIsNotRefused by = (result : Status) (names : Files) (at : Outside) (d : Content) → Works names at d → Leaves by result names at
    → RefusesDescription result → ⊥
