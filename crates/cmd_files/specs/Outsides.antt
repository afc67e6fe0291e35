-- The outside of a command before and behind it, but for the input.
use Rattle.std.specs.Prelude.{◌≡◌, ℕ, List}
use Rattle.gg_outside.specs.declared.traits.Folder.{Ghosts as Folder}
use Rattle.gg_outside.specs.declared.traits.Sink.{Ghosts as Sink}
use Rattle.gg_outside.specs.Outside.{Content, GainsName, OnlyName, IsLonger}
use Rattle.cmd_session.specs.Lines.{cannot_read_line, too_long_line}
use Rattle.cmd_session.specs.Writing.{Change, change, IsUntouched, Rises, Reports}
use Rattle.cmd_files.specs.Forms.{Form, HoldsNone}

-- the folder: what each name holds, and the names whose reading failed before and behind
pub record Lookup : Type 0 where
  pub holds : List ℕ → Content
  pub before : List (List ℕ)
  pub now : List (List ℕ)

-- from one state of a folder to another
abbrev pub lookup : {F : Type 0} → Folder F → F → F → Lookup
lookup folder old new = record { holds = folder.holds old; before = folder.failed old; now = folder.failed new }

-- no reading failed
abbrev pub IsUnfailed : Lookup → Type 0
IsUnfailed folder = folder.now ≡ folder.before

-- the reading of that name failed, once, and of no other
abbrev pub Fails : List ℕ → Lookup → Type 0
Fails name folder = GainsName name folder.before folder.now

abbrev pub FailsAtMost : List ℕ → Lookup → Type 0
FailsAtMost name folder = OnlyName name folder.before folder.now

pub record Outside : Type 0 where
  pub folder : Lookup
  pub out : Change
  pub report : Change

-- from one state of the folder, of the output and of the report to another
abbrev pub outside : {F O E : Type 0} → Folder F → Sink O → Sink E → F → F → O → O → E → E → Outside
outside f o e folder folder' out out' report report' =
    record { folder = lookup f folder folder'; out = change o out out'; report = change e report report' }

-- before any output was written, the command was refused with this line
pub record IsRefusedAtOnce (at : Outside) (line : List ℕ) : Type 0 where
  pub out : IsUntouched at.out
  pub told : Reports at.report line

-- the file of that name was not read, as the folder noted
pub record IsUnread (at : Outside) (name : List ℕ) : Type 0 where
  pub noted : Fails name at.folder
  pub refused : IsRefusedAtOnce at (cannot_read_line name)

-- the file of that name is over its limit
pub record FileIsLong (at : Outside) (name : List ℕ) (limit : ℕ) : Type 0 where
  pub longer : IsLonger (at.folder.holds name) limit
  pub unfailed : IsUnfailed at.folder
  pub refused : IsRefusedAtOnce at (too_long_line name)

-- the file of that name is none of its form
pub record FileIsWrong {A : Type 0} (form : Form A) (at : Outside) (name : List ℕ) : Type 0 where
  pub line : List ℕ
  pub wrong : HoldsNone form (at.folder.holds name) line
  pub unfailed : IsUnfailed at.folder
  pub refused : IsRefusedAtOnce at line

-- no fault was counted but of the input: the folder's list did not gain the name, and the count of no output rose
pub record HasNoFault (name : List ℕ) (at : Outside) : Type 0 where
  pub of_folder : Fails name at.folder → ⊥
  pub of_out : Rises at.out → ⊥
  pub of_report : Rises at.report → ⊥
