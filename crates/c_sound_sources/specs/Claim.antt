-- What is claimed of sources.
use Rattle.std.specs.Prelude.{ℕ, List}
use Rattle.c_program.specs.Programs.{AProgram}
use Rattle.c_sound.specs.Fits.{AreBytes}
use Rattle.c_sound.specs.Sound.{IsSound}
use Rattle.c_typed.specs.Sources.{Reads}

-- The program that bytes are the source of is sound.
abbrev pub SourcesAreSound : Type 0
SourcesAreSound = (bytes : List ℕ) (p : AProgram) → AreBytes bytes → Reads bytes p → IsSound p
