-- When instructions do what a tree does. They run confined: they touch no memory but the data area and what their operands spell
-- themselves of the innermost frame and of the innermost call's arguments.
use Rattle.std.specs.Prelude.{◌≡◌, ℕ, ◌≤◌, List, length}
use Rattle.gg_base.specs.declared.limits.TheConstants.{NEED_LIMIT}
use Rattle.vax_core.specs.declared.code.Instr.{Instr}
use Rattle.vax_machine.specs.State.{State}
use Rattle.tree_core.specs.declared.program.TreeProgram.{TreeProgram}
use Rattle.tree_core.specs.declared.tree.Leaf.{Leaf}
use Rattle.tree_core.specs.Trees.{grown}
use Rattle.tree_meaning.specs.State.{State as Trees, Extent}
use Rattle.tree_meaning.specs.Steps.{tree_step}
use Rattle.vax_frames_law.specs.vax_states.specs.Agreeing.{Agrees, HasResult, HasRoom}
use Rattle.vax_homes_items.specs.vax_homes_law.specs.vax_confined.specs.Confined as confined
pub use Rattle.vax_homes_frames.specs.Trees.{Stays, Does}
use Rattle.gg_compile_law.specs.Roles.{role_of, Calls, Saves}

-- What the tree state and the frame are like where a tree of a function with so many locals and arguments is done whose
-- code uses so many words.
pub record IsReady (locals args most : ℕ) (w : List Leaf) (e : Extent) (t : Trees) (m : State) : Type 0 where
  pub room : HasRoom m
  pub same_locals : e.locals ≡ locals
  pub words : most ≤ e.words
  pub few : e.words ≤ NEED_LIMIT
  pub arguments : length t.running.arguments ≡ args
  -- before a call just its arguments are pushed, and a result is saved directly behind its call
  pub pushed : (function count : ℕ) → role_of w ≡ Calls function count → length t.running.pushed ≡ count
  pub result : role_of w ≡ Saves → HasResult t m

-- From each state of the machine that stands for a state of the tree program, the instructions, run confined, do what the tree does.
-- They are one at least.
pub record HasEffect (program : TreeProgram) (locals args most : ℕ) (w : List Leaf) (code : List Instr) : Type 0 where
  pub some : 1 ≤ length code
  pub does : (e : Extent) (es : List Extent) (t : Trees) (m : State) → Agrees program.objects e es t m → IsReady locals args most w e t m
      → Does program.objects e es t m (tree_step program t (grown w)) (confined.exec code m)
