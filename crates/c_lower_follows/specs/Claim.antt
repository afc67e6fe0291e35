-- What is claimed of lowering.
use Rattle.std.specs.Prelude.{ℕ, List}
use Rattle.gg_base.specs.Follows.{Follows}
use Rattle.tree_meaning.specs.Meaning.{tree_run}
use Rattle.c_program.specs.Programs.{AProgram}
use Rattle.c_meaning.specs.Programs.{source}
use Rattle.c_lower_scheme.specs.Programs.{lowered}
use Rattle.c_sound.specs.Fits.{AreBytes}
use Rattle.c_sound.specs.Sound.{IsSound}

-- On every input the run of the trees follows the run of the program.
abbrev pub LoweringFollows : Type 0
LoweringFollows = (p : AProgram) → IsSound p → (input : List ℕ) → AreBytes input → Follows (source p input) (tree_run (lowered p) input)
