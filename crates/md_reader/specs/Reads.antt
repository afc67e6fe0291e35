-- Reading all lines: the description, or the first wrong line and what is wrong there.
use Rattle.std.specs.Prelude.{◌≡◌, ℕ, ◌+◌, nat_le, false, List, [], ◌∷◌, length, Option, Some, None}
use Rattle.std.specs.Prelude.{Result, Ok, Err, codes, if◌then◌else◌}
use Rattle.md_reader_text.specs.Lines.{lines}
use Rattle.md_reader_text.specs.Words.{words}
use Rattle.md_types.specs.declared.types.ExpandedLine.{ExpandedLine}
use Rattle.md_types.specs.Expand.{expand}
use Rattle.md_reader.specs.declared.faults.DescKind.{DescKind}
use Rattle.md_reader.specs.declared.faults.DescKind.TheVariants as kinds
use Rattle.md_reader.specs.declared.faults.DescFault.{DescFault}
use Rattle.md_reader.specs.declared.faults.DescFault.TheVariants as desc_fault
use Rattle.md_reader.specs.declared.reading.Stage.{Stage}
use Rattle.md_reader.specs.declared.reading.Stage.TheVariants as stage
use Rattle.md_reader.specs.RuleForms.{register_behind}
use Rattle.md_reader.specs.State.{State, Content}
use Rattle.md_reader.specs.HeadSteps.{has_stmt}
use Rattle.md_reader.specs.Steps.{line_step}

abbrev pub start : State
start = record {
  stage = stage.Version;
  pool = 0;
  classes = [];
  spills = [];
  rules = [];
  left = 0;
  right = [];
  restrictions = [];
  lines = [];
  register = false;
}

abbrev pub content_of : State → Content
content_of s = record { pool = s.pool; classes = s.classes; spills = s.spills; rules = s.rules }

-- the text ends; its number of lines is one less than n
abbrev pub ended_at : Stage → ℕ → State → Result Content (ℕ × DescKind)
ended_at stage.Version n s = Err (n, kinds.MissingVersion)
ended_at stage.Target n s = Err (n, kinds.MissingTarget)
ended_at stage.Pool n s = Err (n, kinds.MissingPool)
ended_at stage.Classes n s = if has_stmt s.classes then Err (n, kinds.MissingSpill) else Err (n, kinds.MissingStmt)
ended_at stage.Spills n s = if nat_le (length s.spills) 6 then Err (n, kinds.MissingSpill) else Err (n, kinds.MissingReload)
ended_at stage.Rules n s = if nat_le 1 (length s.rules) then Ok (content_of s) else Err (n, kinds.MissingRule)
ended_at stage.Template n s = Err (n, kinds.MissingGive)

abbrev pub ended : ℕ → State → Result Content (ℕ × DescKind)
ended n s = ended_at s.stage n s

-- the lines end, at the text's end or in front of a bad `each` line with this number
abbrev pub closed : Option ℕ → ℕ → State → Result Content (ℕ × DescKind)
closed None n s = ended n s
closed (Some bad) n s = Err (bad, kinds.BadEach)

abbrev pub taken : ℕ → Result State DescKind → (State → Result Content (ℕ × DescKind)) → Result Content (ℕ × DescKind)
taken n (Ok t) go = go t
taken n (Err k) go = Err (n, k)

-- the lines that are left, with the first bad `each` line behind them; the number of the text's lines is one less than n
abbrev pub read_from : List ℕ → Option ℕ → ℕ → State → List ExpandedLine → Result Content (ℕ × DescKind)
read_from target bad n s [] = closed bad n s
read_from target bad n s (l ∷ ls) = taken l.from (line_step target s l.from (words l.bytes) (register_behind ls))
    (λ (t : State). read_from target bad n t ls)

-- the number of the line behind the last
abbrev pub line_behind : List ℕ → ℕ
line_behind bytes = length (lines bytes) + 1

-- the lines in which each rule that is written once for several sizes stands once for each
abbrev pub read_for : List ℕ → List ℕ → Result Content (ℕ × DescKind)
read_for target bytes = read_from target (expand bytes).bad (line_behind bytes) start (expand bytes).lines

-- with the VAX as the target
abbrev pub read : List ℕ → Result Content (ℕ × DescKind)
read bytes = read_for (codes "vax") bytes

abbrev pub Refuses : DescFault → Result Content (ℕ × DescKind) → Type 0
Refuses desc_fault.NoMemory to = Unit {0}
Refuses (desc_fault.Line line kind) to = to ≡ Err (line, kind)

-- what reading answers
abbrev pub Answers : Result Content DescFault → Result Content (ℕ × DescKind) → Type 0
Answers (Ok d) to = to ≡ Ok d
Answers (Err e) to = Refuses e to
