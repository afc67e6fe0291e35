-- The first wrong line: all lines before it are taken, and it is not.
use Rattle.std.specs.Prelude.{◌≡◌, ◌⊎◌, ℕ, List, [], ◌∷◌, ◌++◌, Option, Ok, Err, codes}
use Rattle.md_reader_text.specs.Words.{words}
use Rattle.md_types.specs.declared.types.ExpandedLine.{ExpandedLine}
use Rattle.md_types.specs.Expand.{expand}
use Rattle.md_reader.specs.declared.faults.DescKind.{DescKind}
use Rattle.md_reader.specs.declared.faults.DescFault.{DescFault}
use Rattle.md_reader.specs.declared.faults.DescFault.TheVariants as desc_fault
use Rattle.md_reader.specs.RuleForms.{register_behind}
use Rattle.md_reader.specs.State.{State}
use Rattle.md_reader.specs.Steps.{line_step}
use Rattle.md_reader.specs.Reads.{start, closed, line_behind}

-- these lines, with those behind them, are taken one after the other
pub data Takes (target : List ℕ) : State → List ExpandedLine → List ExpandedLine → State → Type 0 where
  no_line : {s : State} {back : List ExpandedLine} → Takes target s [] back s
  one_line : {s t u : State} {l : ExpandedLine} {ls back : List ExpandedLine}
      → line_step target s l.from (words l.bytes) (register_behind (ls ++ back)) ≡ Ok t
      → Takes target t ls back u → Takes target s (l ∷ ls) back u

-- the line with the number n is wrong in this way, and all before it are taken
pub record WrongLine (target : List ℕ) (s : State) (all : List ExpandedLine) (n : ℕ) (kind : DescKind) : Type 0 where
  pub front : List ExpandedLine
  pub line : ExpandedLine
  pub back : List ExpandedLine
  pub stands : all ≡ front ++ line ∷ back
  pub number : n ≡ line.from
  pub state : State
  pub right : Takes target s front (line ∷ back) state
  pub wrong : line_step target state n (words line.bytes) (register_behind back) ≡ Err kind

-- all lines are taken, and behind them stands a bad `each` line, or something is missing
pub record WrongEnd (target : List ℕ) (bad : Option ℕ) (m : ℕ) (s : State) (all : List ExpandedLine) (n : ℕ)
    (kind : DescKind) : Type 0 where
  pub state : State
  pub right : Takes target s all [] state
  pub wrong : closed bad m state ≡ Err (n, kind)

-- what a refusal says
abbrev pub IsFirstFor : List ℕ → List ℕ → DescFault → Type 0
IsFirstFor target bytes desc_fault.NoMemory = Unit {0}
IsFirstFor target bytes (desc_fault.Line n kind) = WrongLine target start (expand bytes).lines n kind
    ⊎ WrongEnd target (expand bytes).bad (line_behind bytes) start (expand bytes).lines n kind

-- with the VAX as the target
abbrev pub IsFirst : List ℕ → DescFault → Type 0
IsFirst bytes fault = IsFirstFor (codes "vax") bytes fault
