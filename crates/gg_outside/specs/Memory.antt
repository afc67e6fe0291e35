-- A folder, a source and a sink in memory, and what each of their calls gives.
use Rattle.std.specs.Prelude.{ℕ, ◌≡◌, Bool, ◌==◌, nat_lt, min, List, [], ◌∷◌, ◌++◌, length, take, drop, Result, Ok, Err, if◌then◌else◌}
use Rattle.std.specs.List.{list_any}
use Rattle.std.specs.Str.{bytes_eq}
use Rattle.gg_outside.specs.declared.faults.Failed.{Failed}
use Rattle.gg_outside.specs.declared.faults.FolderFault.{FolderFault}
use Rattle.gg_outside.specs.declared.faults.FolderFault.TheVariants as folder_faults
use Rattle.gg_outside.specs.declared.faults.SinkFault.{SinkFault}
use Rattle.gg_outside.specs.declared.faults.SinkFault.TheVariants as sink_faults
use Rattle.gg_outside.specs.declared.memory.MemFile.{MemFile}
use Rattle.gg_outside.specs.Outside.{Content, Untold, Missing, Stored, next_count}

-- a call of that number is among those that fail
abbrev pub is_failing : ℕ → List ℕ → Bool
is_failing call failing = list_any (λ number. number == call) failing

-- a folder: its files, the numbers of the calls that fail, the calls so far, and the names whose reading failed
pub record FolderInMemory : Type 0 where
  pub files : List MemFile
  pub failing : List ℕ
  pub calls : ℕ
  pub failed : List (List ℕ)

-- what the first file of that name holds
abbrev pub content_of : List MemFile → List ℕ → Content
content_of [] name = Missing
content_of (file ∷ files) name = if bytes_eq file.name name then Stored file.bytes else content_of files name

-- a file's bytes, where they are within the limit
abbrev pub within_limit : ℕ → Content → Result (List ℕ) FolderFault
within_limit limit Untold = Err folder_faults.Failed
within_limit limit Missing = Err folder_faults.Failed
within_limit limit (Stored bytes) = if nat_lt limit (length bytes) then Err folder_faults.TooLong else Ok bytes

-- what reading a name gives, want of memory aside
abbrev pub file_given : FolderInMemory → List ℕ → ℕ → Result (List ℕ) FolderFault
file_given folder name limit =
    if is_failing folder.calls folder.failing then Err folder_faults.Failed else within_limit limit (content_of folder.files name)

-- the answer and the bytes are those given, or no memory was found
abbrev pub AnswersFile : {T : Type 0} → Result T FolderFault → List ℕ → Result (List ℕ) FolderFault → Type 0
AnswersFile (Ok x) bytes given = given ≡ Ok bytes
AnswersFile (Err folder_faults.NoMemory) bytes given = Unit {0}
AnswersFile (Err folder_faults.Failed) bytes given = given ≡ Err folder_faults.Failed
AnswersFile (Err folder_faults.TooLong) bytes given = given ≡ Err folder_faults.TooLong

-- a source: the bytes that are left, the most of one call, the numbers of the calls that fail, the calls and the faults so far
pub record SourceInMemory : Type 0 where
  pub left : List ℕ
  pub most : ℕ
  pub failing : List ℕ
  pub calls : ℕ
  pub faults : ℕ

-- what a read into so much room gives
abbrev pub read_given : SourceInMemory → ℕ → Result ℕ Failed
read_given source room =
    if is_failing source.calls source.failing then Err (record {}) else Ok (min (min room source.most) (length source.left))

-- the source after a read, by its answer
abbrev pub source_after : SourceInMemory → Result ℕ Failed → SourceInMemory
source_after source (Ok n) = record source { left = drop n source.left; calls = next_count source.calls }
source_after source (Err e) = record source { calls = next_count source.calls; faults = next_count source.faults }

-- a sink: the bytes that it holds, the most of one call, the numbers of the calls that fail, the calls and the faults so far
pub record SinkInMemory : Type 0 where
  pub bytes : List ℕ
  pub most : ℕ
  pub failing : List ℕ
  pub calls : ℕ
  pub faults : ℕ

-- what a write of so many bytes gives, want of memory aside
abbrev pub write_given : SinkInMemory → ℕ → Result ℕ SinkFault
write_given sink count =
    if is_failing sink.calls sink.failing then Err sink_faults.Failed else Ok (min count sink.most)

-- the answer is the one given, or no memory was found
abbrev pub AnswersWrite : Result ℕ SinkFault → Result ℕ SinkFault → Type 0
AnswersWrite (Ok n) given = given ≡ Ok n
AnswersWrite (Err sink_faults.NoMemory) given = Unit {0}
AnswersWrite (Err sink_faults.Failed) given = given ≡ Err sink_faults.Failed

-- the sink after a write, by its answer
abbrev pub sink_after : SinkInMemory → List ℕ → Result ℕ SinkFault → SinkInMemory
sink_after sink piece (Ok n) = record sink { bytes = sink.bytes ++ take n piece; calls = next_count sink.calls }
sink_after sink piece (Err sink_faults.NoMemory) = record sink { calls = next_count sink.calls }
sink_after sink piece (Err sink_faults.Failed) = record sink { calls = next_count sink.calls; faults = next_count sink.faults }
