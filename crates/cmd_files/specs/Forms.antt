-- What a command finds in a file, and what it runs.
use Rattle.std.specs.Prelude.{◌≡◌, ◌≤◌, ℕ, List, [], length, Option, Some}
use Rattle.gg_base.specs.declared.run.End.{End}
use Rattle.gg_base.specs.declared.run.End.TheVariants.{Spent}
use Rattle.gg_outside.specs.Outside.{Content, IsThat}
use Rattle.cmd_session.specs.declared.status.Status.{Status}
use Rattle.cmd_session.specs.declared.status.Status.TheVariants as statuses
use Rattle.cmd_session.specs.Running.{Coming}

-- the statuses of a file that is refused for what it holds
abbrev pub IsOfFiles : Status → Type 0
IsOfFiles statuses.Done = ⊥
IsOfFiles statuses.Usage = ⊥
IsOfFiles statuses.NoMemory = ⊥
IsOfFiles statuses.FileFault = ⊥
IsOfFiles statuses.InputFault = ⊥
IsOfFiles statuses.WriteFault = ⊥
IsOfFiles statuses.TooLong = ⊥
IsOfFiles statuses.SourceRefused = Unit {0}
IsOfFiles statuses.DescRefused = Unit {0}
IsOfFiles statuses.Full = ⊥
IsOfFiles statuses.Blocks = ⊥
IsOfFiles statuses.Loops = ⊥
IsOfFiles statuses.PoolSmall = ⊥
IsOfFiles statuses.Unshown = ⊥
IsOfFiles statuses.FrameFull = ⊥
IsOfFiles statuses.AsmRefused = Unit {0}
IsOfFiles statuses.Spent = ⊥
IsOfFiles statuses.Trapped = ⊥
IsOfFiles statuses.Wild = ⊥
IsOfFiles statuses.Deep = ⊥
IsOfFiles statuses.Broken = ⊥
IsOfFiles statuses.ImageRefused = Unit {0}

-- a form of files: the longest one, which bytes are which item's, and the lines that refuse other bytes, with their status
pub record Form (A : Type 0) : Type 1 where
  pub limit : ℕ
  pub reads : List ℕ → A → Type 0
  pub refuses : List ℕ → List ℕ → Type 0
  pub status : Status
  pub of_files : IsOfFiles status

-- how items are run: the line that tells why one can't be run, the output and the end of one's run on an input with a number,
-- and the ends that there are
pub record Runner (A : Type 0) : Type 1 where
  pub fault : A → Option (List ℕ)
  pub run : A → List ℕ → ℕ → Coming
  pub ends : End → Type 0

-- how items are run that no command runs
abbrev pub not_run : {A : Type 0} → Runner A
not_run = record { fault = λ _. Some []; run = λ _ _ _. record { output = []; end = Spent }; ends = λ _. ⊥ }

-- which bytes say the same as an item that no command translates
abbrev pub not_translated : {A : Type 0} → A → List ℕ → Type 0
not_translated item bytes = ⊥

-- the bytes are that item's and no other's
pub record IsReadAs {A : Type 0} (form : Form A) (bytes : List ℕ) (item : A) : Type 0 where
  pub reads : form.reads bytes item
  pub only : (other : A) → form.reads bytes other → item ≡ other

-- the bytes are no item's, as this line tells
pub record IsRefusedBy {A : Type 0} (form : Form A) (bytes line : List ℕ) : Type 0 where
  pub refuses : form.refuses bytes line
  pub unread : (item : A) → form.reads bytes item → ⊥

-- the file is that item's and no other's
pub record Holds {A : Type 0} (form : Form A) (file : Content) (item : A) : Type 0 where
  pub bytes : List ℕ
  pub stored : IsThat file bytes
  pub within : length bytes ≤ form.limit
  pub read : IsReadAs form bytes item

-- the file is no item's, as this line tells
pub record HoldsNone {A : Type 0} (form : Form A) (file : Content) (line : List ℕ) : Type 0 where
  pub bytes : List ℕ
  pub stored : IsThat file bytes
  pub within : length bytes ≤ form.limit
  pub refused : IsRefusedBy form bytes line
