-- What a call on the outside does, where its content is told.
use Rattle.std.specs.Prelude.{◌≡◌, ◌⊎◌, ◌<◌, ◌+◌, ◌^◌, ◌-◌, ℕ, min, List, [], ◌∷◌, ◌++◌, length, take, drop, Option}
use Rattle.std.specs.Prelude.{Some, None, Result, Ok, Err}
use Rattle.gg_outside.specs.declared.faults.FolderFault.{FolderFault}
use Rattle.gg_outside.specs.declared.faults.FolderFault.TheVariants as folder_faults
use Rattle.gg_outside.specs.declared.faults.SinkFault.{SinkFault}
use Rattle.gg_outside.specs.declared.faults.SinkFault.TheVariants as sink_faults

-- where a count of 64 bits stands still
abbrev pub count_end : ℕ
count_end = 2 ^ 64 - 1

-- a count behind one more fault
abbrev pub next_count : ℕ → ℕ
next_count n = min (n + 1) count_end

-- a count rose by one fault
abbrev pub Rose : ℕ → ℕ → Type 0
Rose before now = now ≡ next_count before

-- a count is as it was, or rose by one fault
abbrev pub RoseAtMostOnce : ℕ → ℕ → Type 0
RoseAtMostOnce before now = (now ≡ before) ⊎ Rose before now

-- a source's count of faults behind a read, by its answer
abbrev pub count_after_read : {T E : Type 0} → ℕ → Result T E → ℕ
count_after_read count (Ok x) = count
count_after_read count (Err e) = next_count count

-- a sink's count of faults behind a write, by its answer: want of memory is no fault
abbrev pub count_after_write : {T : Type 0} → ℕ → Result T SinkFault → ℕ
count_after_write count (Ok x) = count
count_after_write count (Err sink_faults.NoMemory) = count
count_after_write count (Err sink_faults.Failed) = next_count count

-- a folder's failed names behind a reading, by its answer
abbrev pub failed_after : {T : Type 0} → List (List ℕ) → List ℕ → Result T FolderFault → List (List ℕ)
failed_after failed name (Ok x) = failed
failed_after failed name (Err folder_faults.NoMemory) = failed
failed_after failed name (Err folder_faults.Failed) = failed ++ (name ∷ [])
failed_after failed name (Err folder_faults.TooLong) = failed

-- the list gained this name, once
abbrev pub GainsName : List ℕ → List (List ℕ) → List (List ℕ) → Type 0
GainsName name old new = new ≡ old ++ (name ∷ [])

-- the list is as it was, or gained this name, once
abbrev pub OnlyName : List ℕ → List (List ℕ) → List (List ℕ) → Type 0
OnlyName name old new = (new ≡ old) ⊎ GainsName name old new

-- what a name holds: not told, no file, or a file of these bytes
pub data Content : Type 0 where
  Untold : Content
  Missing : Content
  Stored : (bytes : List ℕ) → Content

-- these bytes are that file's
abbrev pub IsThat : Content → List ℕ → Type 0
IsThat Untold bytes = Unit {0}
IsThat Missing bytes = ⊥
IsThat (Stored file) bytes = bytes ≡ file

-- the file is longer than the limit
abbrev pub IsLonger : Content → ℕ → Type 0
IsLonger Untold limit = Unit {0}
IsLonger Missing limit = ⊥
IsLonger (Stored file) limit = limit < length file

-- what reading a file whole gives, by its answer
abbrev pub Reads : {T : Type 0} → Content → ℕ → Result T FolderFault → List ℕ → Type 0
Reads content limit (Ok x) bytes = IsThat content bytes
Reads content limit (Err folder_faults.TooLong) bytes = IsLonger content limit
Reads content limit (Err folder_faults.NoMemory) bytes = Unit {0}
Reads content limit (Err folder_faults.Failed) bytes = Unit {0}

-- what a sink holds after a write, by its answer
abbrev pub Takes : {E : Type 0} → Option (List ℕ) → Option (List ℕ) → Result ℕ E → List ℕ → Type 0
Takes None new answer piece = Unit {0}
Takes (Some old) new (Ok n) piece = new ≡ Some (old ++ take n piece)
Takes (Some old) new (Err e) piece = new ≡ Some old

-- what a source has left after a read, and what it handed over, by its answer: no byte only at the end
abbrev pub HandsOver : {E : Type 0} → Option (List ℕ) → Option (List ℕ) → Result ℕ E → List ℕ → Type 0
HandsOver None new answer into = Unit {0}
HandsOver (Some old) new (Ok n) into = (new ≡ Some (drop n old)) × (take n into ≡ take n old) × (n ≡ 0 → old ≡ [])
HandsOver (Some old) new (Err e) into = new ≡ Some old
