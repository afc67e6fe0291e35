-- A state of a target in which the run of a program's trees begins.
use Rattle.std.specs.Prelude.{◌≡◌, ℕ, List, [], Some}
use Rattle.tree_core.specs.declared.program.TreeFn.{TreeFn}
use Rattle.tree_core.specs.declared.program.TreeProgram.{TreeProgram}
use Rattle.tree_core.specs.Area.{opening}
use Rattle.tree_meaning.specs.State.{State, Extent, begun}
use Rattle.tree_meaning.specs.Meaning.{main_of}
use Rattle.sel_target.specs.Meaning.{Meaning}
use Rattle.gg_compile_laws.specs.sel_parse_effect.specs.Claims.{Begins}

-- the state of a program's trees in which `main` begins, on an input
abbrev pub beginning : TreeProgram → TreeFn → List ℕ → State
beginning q main input = record { running = begun main []; callers = []; area = opening q.objects; input = input }

-- A state of the target stands for it, with room for a tree: all that is asked of a state in which the code of a tree begins.
pub record HasBegin {O I S F : Type 0} (of : Meaning O I S F) (q : TreeProgram) (input : List ℕ) : Type 0 where
  pub main : TreeFn
  pub main_is : main_of q.functions ≡ Some main
  pub frame : Extent
  pub machine : S
  pub begins : Begins of q main.locals frame [] (beginning q main input) machine
