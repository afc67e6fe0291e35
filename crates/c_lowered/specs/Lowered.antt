-- All that is said of the trees of a program, as one record.
use Rattle.std.specs.Prelude.{ℕ, List}
use Rattle.tree_core.specs.declared.program.TreeProgram.{TreeProgram}
use Rattle.tree_core.specs.Valid.{IsValid}
use Rattle.c_program.specs.Programs.{AProgram}
use Rattle.c_sound.specs.Fits.{AreBytes}
use Rattle.c_sound.specs.Sound.{IsSound}
use Rattle.c_lower.specs.c_typed.specs.Sources.{Reads}
use Rattle.c_lower_scheme.specs.Programs.{lowered}
use Rattle.c_lower_calm.specs.Claim.{TreesAreCalm, PlainStatementsStand}
use Rattle.c_lower_laid.specs.Laid.{FunctionsAreLaid}
use Rattle.c_lower.specs.Claims.{FollowsAlways, HasParts}
use Rattle.c_lower.specs.c_typed_check.specs.Typed.{IsTypedUnit}

-- The trees are the program's. What else there is to know of them, the definition `lowered` computes.
pub record Lowered (p : AProgram) (q : TreeProgram) : Type 0 where
  -- on every input of bytes their run follows the program's
  pub follows : FollowsAlways p q
  -- they are a valid tree program, in which no tree reads memory behind a division
  pub valid : IsValid q
  pub calm : TreesAreCalm q
  -- functions and objects are the program's, in order, and each function fits the frame that it needs, with each of its trees
  pub parts : HasParts p q
  -- a plain statement whose tree is calm is that one root, in the order of the text; a `return` is where there are no memory locals
  pub plain : PlainStatementsStand p q
  -- and the items of a function are those of its statements, with what tests, labels, jumps and its block give, and no others
  pub laid : FunctionsAreLaid p q

-- The trees of a sound program are so.
abbrev pub SoundProgramsAreLowered : Type 0
SoundProgramsAreLowered = (p : AProgram) → IsSound p → Lowered p (lowered p)

-- So are those of a typed program, and of the program that bytes are the source of.
abbrev pub TypedProgramsAreLowered : Type 0
TypedProgramsAreLowered = (p : AProgram) → IsTypedUnit p → Lowered p (lowered p)

abbrev pub SourcesAreLowered : Type 0
SourcesAreLowered = (bytes : List ℕ) (p : AProgram) → AreBytes bytes → Reads bytes p → Lowered p (lowered p)
