-- A call of a command that runs the item of a file on the input, and what its run starts with.
use Rattle.std.specs.Prelude.{◌≡◌, ◌<◌, ◌≤◌, ℕ, List, length, None}
use Rattle.std.specs.List.{AllByRecursion}
use Rattle.cmd_session.specs.Reading.{Intake, GivesAll, IsUnbroken}
use Rattle.cmd_files.specs.Forms.{Form, Runner, Holds}
use Rattle.cmd_files.specs.Outsides.{Outside, IsUnfailed}
use Rattle.cmd_files.specs.Stages.{input_limit}

-- a call of the command: the file's name and the number, and the input and all else of the outside before and behind it
pub record Call : Type 0 where
  pub name : List ℕ
  pub count : ℕ
  pub input : Intake
  pub at : Outside

abbrev pub call_of : List ℕ → ℕ → Intake → Outside → Call
call_of name count input at = record { name = name; count = count; input = input; at = at }

-- the file is that item's, and no reading of the folder failed
pub record Finds {A : Type 0} (form : Form A) (call : Call) (item : A) : Type 0 where
  pub holds : Holds form (call.at.folder.holds call.name) item
  pub unfailed : IsUnfailed call.at.folder

-- the numbers are bytes
abbrev pub AreBytes : List ℕ → Type 0
AreBytes numbers = AllByRecursion (λ (b : ℕ). b < 256) numbers

-- the input gave all that it had left, these bytes, and no reading of it failed
pub record GetsInput (call : Call) (bytes : List ℕ) : Type 0 where
  pub all : GivesAll call.input bytes
  pub are_bytes : AreBytes bytes
  pub within : length bytes ≤ input_limit
  pub unbroken : IsUnbroken call.input

-- the file is that item's, which can be run, and the input is these bytes
pub record Starts {A : Type 0} (form : Form A) (runner : Runner A) (call : Call) (item : A) (bytes : List ℕ) : Type 0 where
  pub finds : Finds form call item
  pub input : GetsInput call bytes
  pub able : runner.fault item ≡ None
