-- Programs whose trees have room in their functions' frames.
use Rattle.std.specs.Prelude.{◌≡◌, ℕ, ◌+◌, ◌≤◌, List, Some, slice_get}
use Rattle.gg_base.specs.declared.limits.TheConstants.{NEED_LIMIT}
use Rattle.tree_core.specs.declared.tree.Leaf.{Leaf}
use Rattle.tree_core.specs.declared.program.TreeItem.TheVariants as tree_item
use Rattle.tree_core.specs.declared.program.TreeFn.{TreeFn}
use Rattle.tree_core.specs.declared.program.TreeProgram.{TreeProgram}
use Rattle.tree_core_forks.specs.Forks.{forks}
use Rattle.c_program.specs.Need.{need_of}
use Rattle.c_program.specs.Programs.{ARoutine, AProgram}
use Rattle.c_sound.specs.Sound.{IsSound}
use Rattle.c_lower_scheme.specs.Programs.{lowered}

-- For each tree of each function, the function's locals and, behind them, one word more and one for each token with two kids lie among the
-- `NEED_LIMIT` words that operands name.
abbrev pub HasRooms : TreeProgram → Type 0
HasRooms q = (f n : ℕ) (g : TreeFn) (w : List Leaf) → slice_get q.functions f ≡ Some g → slice_get g.items n ≡ Some (tree_item.Root w)
    → g.locals + (forks w + 1) ≤ NEED_LIMIT

-- Where no function of a sound C program needs more than `NEED_LIMIT` words of its frame, its trees have room.
abbrev pub LoweredProgramsHaveRooms : Type 0
LoweredProgramsHaveRooms =
    (p : AProgram) → IsSound p
    → ((n : ℕ) (g : ARoutine) → slice_get p.routines n ≡ Some g → need_of g.locals g.block g.body ≤ NEED_LIMIT) → HasRooms (lowered p)
