-- What is claimed of the trees of a program.
use Rattle.c_program.specs.Programs.{AProgram}
use Rattle.c_sound.specs.Sound.{IsSound}
use Rattle.tree_core.specs.Valid.{IsValid}
use Rattle.c_lower_scheme.specs.Programs.{lowered}

-- The trees of a program that typing accepts are valid.
abbrev pub LoweredIsValid : Type 0
LoweredIsValid = (p : AProgram) → IsSound p → IsValid (lowered p)
