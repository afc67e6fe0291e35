-- What such a command must answer, where the folder and the input tell what they hold and no fault is counted.
use Rattle.std.specs.Prelude.{◌≡◌, ◌⊎◌, ◌<◌, ◌≤◌, ℕ, List, length, Some, None}
use Rattle.gg_outside.specs.Outside.{Content, Stored}
use Rattle.cmd_session.specs.Reading.{Intake, Fails as InputFails}
use Rattle.cmd_session.specs.Lines.{end_status}
use Rattle.cmd_session.specs.declared.status.Status.{Status}
use Rattle.cmd_session.specs.declared.status.Status.TheVariants as statuses
use Rattle.cmd_files.specs.Forms.{Form, Runner}
use Rattle.cmd_files.specs.Outsides.{HasNoFault}
use Rattle.cmd_files.specs.Stages.{input_limit}
use Rattle.cmd_files.specs.Calls.{Call}

-- the file is told: it is over its limit, or no item's, or that of this item
pub record IsLongFile (limit : ℕ) (file : Content) : Type 0 where
  pub bytes : List ℕ
  pub stored : file ≡ Stored bytes
  pub longer : limit < length bytes

pub record IsNoItem {A : Type 0} (form : Form A) (file : Content) : Type 0 where
  pub bytes : List ℕ
  pub stored : file ≡ Stored bytes
  pub within : length bytes ≤ form.limit
  pub unread : (item : A) → form.reads bytes item → ⊥

pub record IsItem {A : Type 0} (form : Form A) (file : Content) (item : A) : Type 0 where
  pub bytes : List ℕ
  pub stored : file ≡ Stored bytes
  pub within : length bytes ≤ form.limit
  pub reads : form.reads bytes item

-- the input is told: it is over its limit, or these bytes are left
pub record LeavesLong (input : Intake) : Type 0 where
  pub bytes : List ℕ
  pub left : input.old ≡ Some bytes
  pub longer : input_limit < length bytes

pub record LeavesBytes (input : Intake) (bytes : List ℕ) : Type 0 where
  pub left : input.old ≡ Some bytes
  pub within : length bytes ≤ input_limit

-- the answer is this status, or memory ran out
abbrev pub IsAnswer : Status → Status → Type 0
IsAnswer status result = (result ≡ status) ⊎ (result ≡ statuses.NoMemory)

-- each status where its cause is there
pub record Answers {A : Type 0} (form : Form A) (runner : Runner A) (result : Status) (call : Call) : Type 0 where
  pub long_file : IsLongFile form.limit (call.at.folder.holds call.name) → IsAnswer statuses.TooLong result
  pub no_item : IsNoItem form (call.at.folder.holds call.name) → IsAnswer form.status result
  pub long_input : (item : A) → IsItem form (call.at.folder.holds call.name) item → LeavesLong call.input → IsAnswer statuses.TooLong result
  pub unable : (item : A) (bytes : List ℕ) → IsItem form (call.at.folder.holds call.name) item → LeavesBytes call.input bytes
      → (runner.fault item ≡ None → ⊥) → IsAnswer form.status result
  pub ends : (item : A) (bytes : List ℕ) → IsItem form (call.at.folder.holds call.name) item → LeavesBytes call.input bytes
      → runner.fault item ≡ None → IsAnswer (end_status (runner.run item bytes call.count).end) result

abbrev pub IsExact : {A : Type 0} → Form A → Runner A → Status → Call → Type 0
IsExact form runner result call = HasNoFault call.name call.at → (InputFails call.input → ⊥) → Answers form runner result call
