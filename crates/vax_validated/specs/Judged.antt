-- What is shown of two codes.
use Rattle.std.specs.Prelude.{◌≡◌, ℕ, true, List, [], Option, Some, None}
use Rattle.vax_core.specs.declared.code.Code.{Code}
use Rattle.vax_core.specs.Valid.{is_code}
use Rattle.vax_machine.specs.Loading.{Loads}
use Rattle.vax_alike.specs.Alike as alike
use Rattle.vax_pairs_checked.specs.Masks.{KeepsMasks}
use Rattle.vax_validated.specs.declared.judging.Verdict.{Verdict}
use Rattle.vax_validated.specs.declared.judging.Verdict.TheVariants.{Alike, Apart, Open}

-- each code keeps the registers that its masks lack, and the second can be written and run
pub record AreSound (c d : Code) : Type 0 where
  pub masks : KeepsMasks c.items
  pub others_masks : KeepsMasks d.items
  pub valid : is_code d ≡ true
  pub loads : Loads d

-- the second code can be written, and behaves as the first
pub record IsShown (c d : Code) : Type 0 where
  pub valid : is_code d ≡ true
  pub alike : alike.Alike c d

abbrev pub IsJudged : Code → Code → Verdict → Type 0
IsJudged c d Alike = IsShown c d
IsJudged c d (Apart places) = Unit {0}
IsJudged c d Open = Unit {0}

-- the codes are judged alike where it is shown of all pieces
abbrev pub IsVerdict : List ℕ → Verdict → Type 0
IsVerdict places Alike = places ≡ []
IsVerdict places (Apart others) = Unit {0}
IsVerdict places Open = Unit {0}

-- the same of a code that there may be
abbrev pub AreShown : Code → Option Code → Type 0
AreShown c None = Unit {0}
AreShown c (Some d) = IsShown c d
