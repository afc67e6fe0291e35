-- The code that is selected of a tree at the VAX does what the tree does.
use Rattle.std.specs.Prelude.{ℕ, List, length}
use Rattle.std.specs.List.{AllByRecursion}
use Rattle.tree_core.specs.declared.tree.Leaf.{Leaf}
use Rattle.tree_core.specs.declared.program.TreeItem.TheVariants as tree_item
use Rattle.tree_core.specs.declared.program.TreeFn.{TreeFn}
use Rattle.tree_core.specs.declared.program.TreeProgram.{TreeProgram}
use Rattle.tree_core.specs.Calm.{Calm}
use Rattle.tree_core.specs.Valid.{IsValid, ItemStands}
use Rattle.md_reader.specs.State.{Content}
use Rattle.sel_parse_lines.specs.sel_target.specs.Spelled.{IsSpelled}
use Rattle.vax_target_places.specs.sel_parse_desk.specs.Selected.{tree_of}
use Rattle.sel_parse_lines.specs.sel_parse_selected.specs.Selected.{Selected}
use Rattle.vax_target_places.specs.sel_parse_effect.specs.Claims.{IsFit}
use Rattle.vax_core.specs.declared.code.Instr.{Instr}
use Rattle.vax_target_laws.specs.vax_target_meaning.specs.Fitting.{CanWrite}
use Rattle.vax_target_laws.specs.vax_target_meaning.specs.Vax.{vax}
use Rattle.gg_compile_law.specs.Effects.{HasEffect}

-- A tree of a function of the program: a typed statement whose leaves name what is there, with longwords for numbers;
-- in it no memory is read behind a division.
pub record IsTreeOf (q : TreeProgram) (g : TreeFn) (w : List Leaf) : Type 0 where
  pub stands : ItemStands q.functions (length q.objects) g (tree_item.Root w)
  pub spelled : AllByRecursion (λ (l : Leaf). IsSpelled q l.att) w
  pub calm : Calm w

-- The code that a description, whose rules are shown on the VAX, selects for a tree of a valid program has the tree's effect.
abbrev pub SelectedTreesHaveEffect : Type 0
SelectedTreesHaveEffect =
    (q : TreeProgram) (d : Content) (g : TreeFn) (w : List Leaf) (code : List Instr) (most : ℕ) → IsValid q → CanWrite q → IsFit vax d
    → IsTreeOf q g w → Selected vax q d g.locals (tree_of w) code most → HasEffect q g.locals g.args most w code
