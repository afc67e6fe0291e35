-- What selected code has of its function's arguments.
use Rattle.std.specs.Prelude.{◌≡◌, ℕ, List, length, true}
use Rattle.std.specs.List.{AllByRecursion}
use Rattle.vax_target_meaning.specs.tree_core.specs.declared.tree.Leaf.{Leaf}
use Rattle.vax_target_meaning.specs.tree_core.specs.declared.program.TreeFn.{TreeFn}
use Rattle.vax_target_meaning.specs.tree_core.specs.declared.program.TreeProgram.{TreeProgram}
use Rattle.vax_target_meaning.specs.tree_core.specs.Valid.{leaf_names}
use Rattle.vax_target_meaning.specs.md_reader.specs.State.{Content}
use Rattle.vax_target_meaning.specs.Vax.{vax}
use Rattle.sel_parse_lines.specs.sel_parse_selected.specs.Selected.{Selected}
use Rattle.vax_homes_items.specs.vax_homes_law.specs.vax_confined.specs.vax_core.specs.declared.code.Instr.{Instr}
use Rattle.vax_homes_items.specs.Standing.{ArgumentsFit}

-- Where a tree's leaves name what is there, the code that is selected of it has no arguments but its function's: an operand with ap as base
-- is `4i(ap)` or `*4i(ap)`, i at most their number.
abbrev pub SelectedArgumentsFit : Type 0
SelectedArgumentsFit =
    (q : TreeProgram) (g : TreeFn) (d : Content) (first : ℕ) (w : List Leaf) (instrs : List Instr) (most : ℕ)
    → AllByRecursion (λ (l : Leaf). leaf_names q.functions (length q.objects) g l ≡ true) w → Selected vax q d first w instrs most
    → AllByRecursion (ArgumentsFit g.args) instrs
