-- A program as plain data.
use Rattle.c_program.specs.Programs.{AProgram, program}
use Rattle.c_typed_check.specs.declared.program.Program.{Program}

abbrev pub typed : Program → AProgram
typed p = program p.held
