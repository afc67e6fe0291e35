-- A command that writes the item of a file in another form: what it finds and leaves behind, and what it must answer.
use Rattle.std.specs.Prelude.{◌≡◌, ℕ, List}
use Rattle.gg_outside.specs.Outside.{Content}
use Rattle.cmd_session.specs.declared.status.Status.{Status}
use Rattle.cmd_session.specs.declared.status.Status.TheVariants as statuses
use Rattle.cmd_session.specs.Writing.{IsUntouched, TakesAll}
use Rattle.cmd_session.specs.Telling.{IsStarved}
use Rattle.cmd_files.specs.Forms.{Form, Holds}
use Rattle.cmd_files.specs.Outsides.{Outside, IsUnfailed, FailsAtMost, HasNoFault}
use Rattle.cmd_files.specs.Stages.{FileRefused, OutputRefused}
use Rattle.cmd_files.specs.Exact.{IsLongFile, IsNoItem, IsItem, IsAnswer}

-- a form of files, and which bytes say the same as which item
pub record Translation (A : Type 0) : Type 1 where
  pub form : Form A
  pub becomes : A → List ℕ → Type 0

-- the file is that item's, no reading of the folder failed, and these bytes say the same
pub record Gives {A : Type 0} (t : Translation A) (name : List ℕ) (at : Outside) (item : A) (bytes : List ℕ) : Type 0 where
  pub holds : Holds t.form (at.folder.holds name) item
  pub unfailed : IsUnfailed at.folder
  pub becomes : t.becomes item bytes

-- What the command came to, in its order. Nothing is written to `out` before all of the bytes are there.
pub data Leaves {A : Type 0} (t : Translation A) (result : Status) (name : List ℕ) (at : Outside) : Type 0 where
  -- the file gave no item
  NoItem : (untouched : IsUntouched at.out) (refused : FileRefused t.form name at.folder result at.report) → Leaves t result name at
  -- memory ran out before the bytes were there
  NoBytes : (item : A) (holds : Holds t.form (at.folder.holds name) item) (unfailed : IsUnfailed at.folder) (untouched : IsUntouched at.out)
      (starved : IsStarved result at.report) → Leaves t result name at
  -- the bytes were not written whole
  NotWritten : (item : A) (bytes : List ℕ) (gives : Gives t name at item bytes) (refused : OutputRefused bytes result at.out at.report)
      → Leaves t result name at
  -- the bytes are in `out`
  Written : (is : result ≡ statuses.Done) (item : A) (bytes : List ℕ) (gives : Gives t name at item bytes) (takes : TakesAll at.out bytes)
      (untold : IsUntouched at.report) → Leaves t result name at

-- each status where its cause is there
pub record Answers {A : Type 0} (t : Translation A) (result : Status) (file : Content) : Type 0 where
  pub long : IsLongFile t.form.limit file → IsAnswer statuses.TooLong result
  pub none : IsNoItem t.form file → IsAnswer t.form.status result
  pub item : (item : A) → IsItem t.form file item → IsAnswer statuses.Done result

abbrev pub IsExact : {A : Type 0} → Translation A → Status → List ℕ → Outside → Type 0
IsExact t result name at = HasNoFault name at → Answers t result (at.folder.holds name)

-- the call is that of such a command on the file of that name, and its answer is this status
pub record IsTranslated {A : Type 0} (t : Translation A) (result : Status) (name : List ℕ) (at : Outside) : Type 0 where
  -- what each status says of the file, of the bytes and of what both outputs gained
  pub leaves : Leaves t result name at
  -- and that each comes where its cause is there, but for counted faults and want of memory
  pub exact : IsExact t result name at
  -- the folder is asked for that name alone
  pub names : FailsAtMost name at.folder
