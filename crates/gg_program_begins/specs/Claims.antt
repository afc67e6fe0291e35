-- The VAX has a state in which the run of each program begins that can be written for it.
use Rattle.std.specs.Prelude.{◌≡◌, ℕ, ◌≤◌, List, Some, slice_get}
use Rattle.std.specs.List.{All}
use Rattle.gg_base.specs.declared.limits.TheConstants.{NEED_LIMIT}
use Rattle.tree_core.specs.declared.program.TreeFn.{TreeFn}
use Rattle.tree_core.specs.declared.program.TreeProgram.{TreeProgram}
use Rattle.tree_core.specs.Valid.{IsValid}
use Rattle.c_program.specs.Programs.{AProgram}
use Rattle.c_sound.specs.Fits.{AreBytes}
use Rattle.c_lower_scheme.specs.Programs.{lowered}
use Rattle.gg_compile_law.specs.vax_machine_lists.specs.Sound.{AllBelow}
use Rattle.gg_compile_law.specs.Spelling.{HoldsNumbers}
use Rattle.gg_compile_law.specs.Loaded.{AreApart}
use Rattle.gg_compile_laws.specs.c_typed_check.specs.Typed.{IsTypedUnit}
use Rattle.gg_compile_laws.specs.vax_target_meaning.specs.Vax.{vax}
use Rattle.gg_compile_laws.specs.Typed.{FitFrames}
use Rattle.gg_compile_codes.specs.Begins.{HasBegin}

-- A tree program that can be written for the VAX. It speaks of the program alone: of no description and of no code.
pub record IsWritable (q : TreeProgram) : Type 0 where
  pub valid : IsValid q
  -- the names of its objects and functions can be spelled
  pub names : vax.can_write q
  -- its objects have labels of their own, and bytes as contents, a link's being the linked address
  pub apart : AreApart q.objects q.functions
  pub numbers : All (HoldsNumbers q.objects) q.objects
  -- the locals of each function fit its frame
  pub locals : (n : ℕ) (g : TreeFn) → slice_get q.functions n ≡ Some g → g.locals ≤ NEED_LIMIT

-- On each input of bytes some state of the VAX stands for the beginning of the run of such a program's trees.
abbrev pub EachProgramBegins : Type 0
EachProgramBegins = (q : TreeProgram) (input : List ℕ) → IsWritable q → AllBelow 256 input → HasBegin vax q input

-- So it is with the trees of each typed program whose functions fit their frames.
abbrev pub EachTypedProgramBegins : Type 0
EachTypedProgramBegins = (p : AProgram) (input : List ℕ) → IsTypedUnit p → FitFrames p → AreBytes input → HasBegin vax (lowered p) input
