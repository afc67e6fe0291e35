-- A C source is of one program.
use Rattle.std.specs.Prelude.{◌≡◌, ℕ, List}
use Rattle.c_typed.specs.c_typed_check.specs.c_program.specs.Programs.{AProgram}
use Rattle.c_typed.specs.Sources.{Reads}

abbrev pub SourcesHaveOneProgram : Type 0
SourcesHaveOneProgram = (bytes : List ℕ) (p q : AProgram) → Reads bytes p → Reads bytes q → p ≡ q
