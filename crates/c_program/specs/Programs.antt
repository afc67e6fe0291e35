-- Typed functions and programs as plain data.
use Rattle.std.specs.Prelude.{ℕ, List, map}
use Rattle.tree_core.specs.declared.program.Object.{Object}
use Rattle.c_types.specs.declared.types.CType.{CType}
use Rattle.c_program.specs.declared.program.Routine.{Routine}
use Rattle.c_program.specs.declared.program.Program.{Program}
use Rattle.c_program.specs.Statements.{SomeActions, acts}

-- a function: its name, the types of its result, its parameters and its automatic locals that are no memory locals, the numbers of those
-- that are declared `register`, the bytes of its memory locals, what it does, and the longwords of its frame
pub record ARoutine : Type 0 where
  pub name : List ℕ
  pub result : CType
  pub parameters : List CType
  pub locals : List CType
  pub registers : List ℕ
  pub block : ℕ
  pub body : SomeActions
  pub need : ℕ

-- a program: the objects of its data area, its functions in order of definition, and the number of main
pub record AProgram : Type 0 where
  pub objects : List Object
  pub routines : List ARoutine
  pub main : ℕ

abbrev pub routine : Routine → ARoutine
routine r = record {
  name = r.name;
  result = r.result;
  parameters = r.parameters;
  locals = r.locals;
  registers = r.registers;
  block = r.block;
  body = acts r.body.items;
  need = r.need;
}

abbrev pub program : Program → AProgram
program p = record { objects = p.objects; routines = map routine p.routines.items; main = p.main }
