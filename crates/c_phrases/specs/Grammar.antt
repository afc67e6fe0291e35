-- Which unit a text's tokens spell.
use Rattle.std.specs.Prelude.{◌≡◌, List}
use Rattle.c_phrases.specs.Classes.{Placed}
use Rattle.c_phrases.specs.Levels.{limit}
use Rattle.c_phrases.specs.Units.{AUnit}
use Rattle.c_phrases.specs.UnitSpelling.{unit_tokens}
use Rattle.c_phrases.specs.Fits.{ExternalsFit}
use Rattle.c_phrases.specs.UnitLevels.{LowExternals}

-- the tokens are those of this unit, which opens no level past the limit
pub record IsUnit (ts : List Placed) (u : AUnit) : Type 0 where
  pub text : ts ≡ unit_tokens u
  pub fits : ExternalsFit u.externals
  pub low : LowExternals limit u.externals
