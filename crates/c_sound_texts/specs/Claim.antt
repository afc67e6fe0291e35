-- What is claimed of typed texts.
use Rattle.std.specs.Prelude.{ℕ, List}
use Rattle.c_phrases.specs.Units.{AUnit}
use Rattle.c_program.specs.Programs.{AProgram}
use Rattle.c_sound.specs.Sound.{IsSound}
use Rattle.c_sound_bodies.specs.c_typed_law.specs.Texts.{IsText}
use Rattle.c_sound_bodies.specs.c_typed_words.specs.Words.{HasTokens}

-- The program that a unit is typed as is sound, where the unit's tokens are those of the grammar.
abbrev pub TypedIsSound : Type 0
TypedIsSound = (p : AProgram) (unit : AUnit) (ends : List ℕ) → HasTokens unit → IsText unit.externals ends unit.end p → IsSound p
