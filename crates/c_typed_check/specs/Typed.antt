-- What each program keeps: its typing, and so the frame need of each function.
use Rattle.std.specs.Prelude.{ℕ, List, Option, Some, None, slice_get}
use Rattle.c_phrases.specs.Units.{AUnit}
use Rattle.c_program.specs.Programs.{ARoutine, AProgram}
use Rattle.c_program.specs.Need.{need_of}
use Rattle.c_typed_law.specs.Texts.{IsText}
use Rattle.c_typed_words.specs.Words.{HasTokens}

-- it is the typed program of some unit, whose tokens are those of the grammar
pub record IsTypedUnit (p : AProgram) : Type 0 where
  pub unit : AUnit
  pub ends : List ℕ
  pub tokens : HasTokens unit
  pub typed : IsText unit.externals ends unit.end p

-- the frame need of a function, by its number in order of definition
abbrev pub need_in : Option ARoutine → ℕ
need_in None = 0
need_in (Some r) = need_of r.locals r.block r.body

abbrev pub need_at : AProgram → ℕ → ℕ
need_at p n = need_in (slice_get p.routines n)
