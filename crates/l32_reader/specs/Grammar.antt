-- Texts of codes, and the first line of a text that is not of the grammar.
use Rattle.std.specs.Prelude.{◌≡◌, ◌+◌, ℕ, true, List, [], ◌++◌, length, Result, Ok, Err}
use Rattle.vax_core.specs.declared.code.AreaItem.{AreaItem}
use Rattle.l32_core.specs.declared.code.Item32.{Item32}
use Rattle.l32_core.specs.declared.code.Code32.{Code32}
use Rattle.vax_reader.specs.declared.fault.AsmFault.{AsmFault}
use Rattle.vax_reader.specs.declared.fault.AsmFault.TheVariants as faults
use Rattle.vax_reader.specs.declared.fault.AsmKind.{AsmKind}
use Rattle.vax_reader.specs.declared.kind.Stage.{Stage}
use Rattle.vax_reader.specs.declared.kind.Stage.TheVariants as stages
use Rattle.vax_reader.specs.Grammar.{AreaLines}
use Rattle.vax_reader.specs.Grammar.{IsLine as IsVaxLine}
use Rattle.l32_core.specs.Text.{item_line, asm_text}
use Rattle.l32_core.specs.Valid.{is_item, is_code}
use Rattle.l32_reader.specs.WrongLine.{IsKind}

-- the bytes are the text of this code, a valid one
pub record Reads (bytes : List ℕ) (c : Code32) : Type 0 where
  pub valid : is_code c ≡ true
  pub text : bytes ≡ asm_text c

-- no other code has this text
abbrev pub IsOnly : List ℕ → Code32 → Type 0
IsOnly bytes c = (d : Code32) → Reads bytes d → c ≡ d

-- the line of a code item
pub record IsCodeLine (line : List ℕ) : Type 0 where
  pub item : Item32
  pub valid : is_item item ≡ true
  pub text : line ≡ item_line item

-- the lines that may stand at a stage of a text: first `.data`, then the area's up to `.text`, both as in a VAX text, then
-- the code's
abbrev pub IsLine : Stage → List ℕ → Type 0
IsLine stages.Start line = IsVaxLine stages.Start line
IsLine stages.Area line = IsVaxLine stages.Area line
IsLine stages.Code line = IsCodeLine line

abbrev pub made : List AreaItem → List Item32 → Code32
made area items = record { area = area; items = items }

-- lines of the grammar up to somewhere in the code; the next line has this number
pub record CodeLines (bytes : List ℕ) (area : List AreaItem) (items : List Item32) (line : ℕ) (rest : List ℕ) : Type 0 where
  pub valid : is_code (made area items) ≡ true
  pub text : bytes ≡ asm_text (made area items) ++ rest
  pub number : line ≡ length area + length items + 3

-- the lines before the line of this number, which begins the rest, are of the grammar
abbrev pub LinesBefore : Stage → List ℕ → ℕ → List ℕ → Type 0
LinesBefore stages.Start bytes line rest = (line ≡ 1) × (rest ≡ bytes)
LinesBefore stages.Area bytes line rest = (area : List AreaItem) × AreaLines bytes area line rest
LinesBefore stages.Code bytes line rest = (area : List AreaItem) × ((items : List Item32) × CodeLines bytes area items line rest)

-- the first line that is not of the grammar, and its kind: all before it are, and it is none that may stand there
pub record IsFirstWrong (bytes : List ℕ) (line : ℕ) (kind : AsmKind) : Type 0 where
  pub stage : Stage
  pub rest : List ℕ
  pub before : LinesBefore stage bytes line rest
  pub wrong : (text more : List ℕ) → IsLine stage text → rest ≡ text ++ more → ⊥
  -- a text may end behind any line of its code
  pub unended : stage ≡ stages.Code → rest ≡ [] → ⊥
  pub kind_is : IsKind stage rest kind

-- a fault is for want of memory, or names the first wrong line
abbrev pub IsFault : List ℕ → AsmFault → Type 0
IsFault bytes faults.NoMemory = Unit {0}
IsFault bytes (faults.Line line kind) = IsFirstWrong bytes line kind

-- the bytes are no code's text, unless memory ran out
abbrev pub Refused : List ℕ → AsmFault → Type 0
Refused bytes faults.NoMemory = Unit {0}
Refused bytes (faults.Line line kind) = (d : Code32) → Reads bytes d → ⊥

-- no other line or kind is the first wrong one
abbrev pub IsOnlyFault : List ℕ → AsmFault → Type 0
IsOnlyFault bytes faults.NoMemory = Unit {0}
IsOnlyFault bytes (faults.Line line kind) = (n : ℕ) (k : AsmKind) → IsFirstWrong bytes n k → (n ≡ line) × (k ≡ kind)

-- the answer is this code, unless memory ran out
abbrev pub GivesBack : Code32 → Result Code32 AsmFault → Type 0
GivesBack c (Ok d) = d ≡ c
GivesBack c (Err faults.NoMemory) = Unit {0}
GivesBack c (Err (faults.Line line kind)) = ⊥

-- of each code's text, that code is read
abbrev pub Inverts : List ℕ → Result Code32 AsmFault → Type 0
Inverts bytes result = (c : Code32) → Reads bytes c → GivesBack c result
