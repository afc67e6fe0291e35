-- What is claimed of lowering: each function stays, and has room in the frame that it needs.
use Rattle.std.specs.Prelude.{◌≡◌, ℕ, ◌+◌, ◌≤◌, List, length, slice_get, Some}
use Rattle.tree_core.specs.declared.tree.Leaf.{Leaf}
use Rattle.tree_core.specs.declared.program.TreeItem.TheVariants as tree_item
use Rattle.tree_core.specs.declared.program.TreeFn.{TreeFn}
use Rattle.tree_core_forks.specs.Forks.{forks}
use Rattle.c_program.specs.Need.{need_of}
use Rattle.c_program.specs.Programs.{ARoutine, AProgram}
use Rattle.c_sound.specs.Sound.{IsSound}
use Rattle.c_lower_scheme.specs.Programs.{lowered}

-- A frame of so many longwords has room for a function: for its locals, and, with each of its trees, for one more and for one
-- for each leaf with two kids.
pub record FitsFrame (need : ℕ) (f : TreeFn) : Type 0 where
  pub locals : f.locals ≤ need
  pub roots : (n : ℕ) (w : List Leaf) → slice_get f.items n ≡ Some (tree_item.Root w) → f.locals + 1 + forks w ≤ need

-- Each function that a sound program is lowered to fits the frame that the program's function needs.
abbrev pub EachFunctionFits : Type 0
EachFunctionFits = (p : AProgram) → IsSound p → (n : ℕ) (g : ARoutine) (f : TreeFn)
    → slice_get p.routines n ≡ Some g → slice_get (lowered p).functions n ≡ Some f → FitsFrame (need_of g.locals g.block g.body) f

-- what a function and the one that it is lowered to have in common; the locals that are wanted in registers are its `register` locals
pub record SameFunction (g : ARoutine) (f : TreeFn) : Type 0 where
  pub name : f.name ≡ g.name
  pub args : f.args ≡ length g.parameters
  pub wanted : f.wanted ≡ g.registers

-- what a program and the one that it is lowered to have in common
pub record SameProgram (p : AProgram) : Type 0 where
  pub count : length (lowered p).functions ≡ length p.routines
  pub functions : (n : ℕ) (g : ARoutine) (f : TreeFn)
      → slice_get p.routines n ≡ Some g → slice_get (lowered p).functions n ≡ Some f → SameFunction g f
  pub objects : (lowered p).objects ≡ p.objects

-- A program is lowered to the functions and objects that it has.
abbrev pub FunctionsStay : Type 0
FunctionsStay = (p : AProgram) → SameProgram p
