-- What was read so far, and what a description says.
use Rattle.std.specs.Prelude.{ℕ, Bool, List}
use Rattle.md_reader_pieces.specs.declared.piece.Line.{Line}
use Rattle.md_reader.specs.declared.types.Class.{Class}
use Rattle.md_reader.specs.declared.types.Sym.{Sym}
use Rattle.md_reader.specs.declared.types.Restriction.{Restriction}
use Rattle.md_reader.specs.declared.types.Rule.{Rule}
use Rattle.md_reader.specs.declared.reading.Stage.{Stage}

-- what the lines so far have said; from `left` on it is of the rule whose `give` line is to come, and
-- `register` says whether `%0` may stand in its template
pub record State : Type 0 where
  pub stage : Stage
  pub pool : ℕ
  pub classes : List Class
  pub spills : List Line
  pub rules : List Rule
  pub left : ℕ
  pub right : List Sym
  pub restrictions : List Restriction
  pub lines : List Line
  pub register : Bool

-- what a description says: the registers of the pool as bits, the classes, the seven spill lines and
-- the reload line, and the rules
pub record Content : Type 0 where
  pub pool : ℕ
  pub classes : List Class
  pub spills : List Line
  pub rules : List Rule
