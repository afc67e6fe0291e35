-- What is claimed of the trees of a program.
use Rattle.std.specs.Prelude.{◌≡◌, ◌≤◌, ℕ, List, length, map, Some, slice_get}
use Rattle.gg_base.specs.Follows.{Follows}
use Rattle.tree_core.specs.declared.program.TreeFn.{TreeFn}
use Rattle.tree_core.specs.declared.program.TreeProgram.{TreeProgram}
use Rattle.tree_meaning.specs.Meaning.{tree_run}
use Rattle.c_program.specs.Need.{need_of}
use Rattle.c_program.specs.Programs.{ARoutine, AProgram}
use Rattle.c_lower_follows.specs.c_meaning.specs.Programs.{source}
use Rattle.c_sound.specs.Fits.{AreBytes}
use Rattle.c_sound.specs.Labels.{AreLabelled}
use Rattle.c_lower_bounds.specs.Claim.{FitsFrame, SameFunction}

-- on every input the run of the trees follows the run of the program
abbrev pub FollowsAlways : AProgram → TreeProgram → Type 0
FollowsAlways p q = (input : List ℕ) → AreBytes input → Follows (source p input) (tree_run q input)

-- a function's name and number of parameters stay, its `register` locals are wanted in registers, and it fits the frame that it needs
pub record HasFunction (g : ARoutine) (f : TreeFn) : Type 0 where
  pub same : SameFunction g f
  pub fits : FitsFrame (need_of g.locals g.block g.body) f

-- The functions and objects are the program's, in order. A function takes at most 32 arguments; the objects' labels
-- differ from each other and from those of functions and services, and links hold addresses.
pub record HasParts (p : AProgram) (q : TreeProgram) : Type 0 where
  pub count : length q.functions ≡ length p.routines
  pub functions : (n : ℕ) (g : ARoutine) (f : TreeFn) → slice_get p.routines n ≡ Some g → slice_get q.functions n ≡ Some f → HasFunction g f
  pub objects : q.objects ≡ p.objects
  pub few : (n : ℕ) (f : TreeFn) → slice_get q.functions n ≡ Some f → f.args ≤ 32
  pub labels : AreLabelled q.objects (map (λ (f : TreeFn). f.name) q.functions)
