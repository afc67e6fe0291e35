-- What was read, as the definitions see it.
use Rattle.std.specs.Prelude.{◌≡◌, List, Option, Some, None, Result, Ok, Err}
use Rattle.std.specs.Global.{Vec}
use Rattle.md_reader_pieces.specs.declared.piece.PieceFault.{PieceFault}
use Rattle.md_reader_pieces.specs.declared.piece.PieceFault.TheVariants as piece_fault
use Rattle.md_reader.specs.declared.types.Sym.{Sym}
use Rattle.md_reader.specs.declared.reading.Reading.{Reading}
use Rattle.md_reader.specs.declared.faults.DescKind.{DescKind}
use Rattle.md_reader.specs.declared.faults.DescKind.TheVariants as kinds
use Rattle.md_reader.specs.declared.faults.LineFault.{LineFault}
use Rattle.md_reader.specs.declared.faults.LineFault.TheVariants as wrong_line
use Rattle.md_reader.specs.State.{State}

abbrev pub line_fault : PieceFault → LineFault
line_fault piece_fault.NoMemory = wrong_line.NoMemory
line_fault piece_fault.BadHole = wrong_line.Wrong kinds.BadHole

abbrev pub state : Reading → State
state r = record {
  stage = r.stage;
  pool = r.pool;
  classes = r.classes.items;
  spills = r.spills.items;
  rules = r.rules.items;
  left = r.left;
  right = r.right.items;
  restrictions = r.restrictions.items;
  lines = r.lines.items;
  register = r.register;
}

-- what a line came to
abbrev pub StepFails : LineFault → Result State DescKind → Type 0
StepFails wrong_line.NoMemory to = Unit {0}
StepFails (wrong_line.Wrong kind) to = to ≡ Err kind

abbrev pub Stepped : {X : Type 0} → Result X LineFault → State → Result State DescKind → Type 0
Stepped (Ok u) new to = to ≡ Ok new
Stepped (Err e) new to = StepFails e to

abbrev pub NoSymbols : LineFault → Option (List Sym) → Type 0
NoSymbols wrong_line.NoMemory found = Unit {0}
NoSymbols (wrong_line.Wrong kind) found = (kind ≡ kinds.UnknownToken) × (found ≡ None)

abbrev pub AreSymbols : Result (Vec Sym) LineFault → Option (List Sym) → Type 0
AreSymbols (Ok v) found = found ≡ Some v.items
AreSymbols (Err e) found = NoSymbols e found
