-- By a description that was checked and shown, the trees of a program all have code.
use Rattle.std.specs.Prelude.{◌≡◌, ℕ, List, Some, slice_get}
use Rattle.tree_core.specs.declared.tree.Leaf.{Leaf}
use Rattle.tree_core.specs.declared.program.TreeItem.TheVariants as tree_item
use Rattle.tree_core.specs.declared.program.TreeFn.{TreeFn}
use Rattle.tree_core.specs.declared.program.TreeProgram.{TreeProgram}
use Rattle.tree_core.specs.Valid.{IsValid}
use Rattle.md_reader.specs.State.{Content}
use Rattle.sel_parse_written.specs.lr_tables.specs.View.{TableView}
use Rattle.sel_parse_written.specs.lr_tables.specs.Promises.{IsNumbered}
use Rattle.sel_parse_written.specs.lr_checked.specs.Accepted.{NeverStops}
use Rattle.sel_parse_written.specs.sel_target.specs.Spelled.{TreesAreSpelled}
use Rattle.sel_parse_written.specs.sel_parse_desk.specs.Selected.{tree_of}
use Rattle.sel_parse_written.specs.sel_parse_effect.specs.Claims.{IsFit}
use Rattle.sel_parse_written.specs.sel_parse_law.specs.Claims.{HasCode}
use Rattle.gg_compile_keeps.specs.vax_target_meaning.specs.Fitting.{CanWrite}
use Rattle.gg_compile_keeps.specs.vax_target_meaning.specs.Vax.{vax}
use Rattle.gg_compile_keeps.specs.gg_compile_code.specs.Going.{ProgramGoes}
use Rattle.gg_compile_laws.specs.Rooms.{HasRooms}

-- A valid program whose trees have room, whose names can be spelled, and whose numbers, offsets and labels are longwords.
pub record HasReadyTrees (q : TreeProgram) : Type 0 where
  pub valid : IsValid q
  pub rooms : HasRooms q
  pub names : CanWrite q
  pub longwords : TreesAreSpelled q

-- By a description whose rules were shown on the VAX, and whose typed statements never stop a parse, no tree of such a program stops its
-- code: its parse neither blocks nor turns, and its frame isn't full.
abbrev pub TreesGo : Type 0
TreesGo = (q : TreeProgram) (d : Content) → HasReadyTrees q → IsFit vax d → NeverStops d → ProgramGoes vax d q

-- By the tables of such a description each tree has a code.
abbrev pub EachTreeHasCode : Type 0
EachTreeHasCode =
    (q : TreeProgram) (t : TableView) → HasReadyTrees q → IsFit vax t.content → IsNumbered t → NeverStops t.content
    → (f n : ℕ) (g : TreeFn) (w : List Leaf) → slice_get q.functions f ≡ Some g → slice_get g.items n ≡ Some (tree_item.Root w)
    → HasCode vax q t.content g.locals (tree_of w)
