-- Programs whose trees go through selection: no parse blocks, and no frame is full.
use Rattle.std.specs.Prelude.{◌≡◌, ℕ, List, Some, slice_get}
use Rattle.tree_core.specs.declared.tree.Leaf.{Leaf}
use Rattle.tree_core.specs.declared.program.TreeItem.{TreeItem}
use Rattle.tree_core.specs.declared.program.TreeItem.TheVariants as tree_item
use Rattle.tree_core.specs.declared.program.TreeFn.{TreeFn}
use Rattle.tree_core.specs.declared.program.TreeProgram.{TreeProgram}
use Rattle.md_reader.specs.State.{Content}
use Rattle.vax_target.specs.sel_target.specs.Meaning.{Meaning}
use Rattle.sel_parse.specs.sel_parse_desk.specs.Selected.{tree_of, FrameFull, Blocked}
use Rattle.vax_core.specs.declared.operand.Operand.{Operand}
use Rattle.vax_core.specs.declared.code.Instr.{Instr}

module _ {S F : Type 0} (of : Meaning Operand Instr S F) (d : Content) (q : TreeProgram) where
  -- Behind so many locals, the tree's parse neither blocks nor turns, each register that is due can be had, and a frame word is free for
  -- each value that is saved.
  pub record TreeGoes (locals : ℕ) (w : List Leaf) : Type 0 where
    pub parses : Blocked of q d locals (tree_of w) → ⊥
    pub has_room : FrameFull of q d locals (tree_of w) → ⊥

  -- an item that is a tree
  abbrev pub ItemGoes : ℕ → TreeItem → Type 0
  ItemGoes locals (tree_item.Label l) = Unit {0}
  ItemGoes locals (tree_item.Root w) = TreeGoes locals w

  -- each tree of a function
  abbrev pub FunctionGoes : TreeFn → Type 0
  FunctionGoes f = (n : ℕ) (i : TreeItem) → slice_get f.items n ≡ Some i → ItemGoes f.locals i

  -- each tree of the program
  abbrev pub ProgramGoes : Type 0
  ProgramGoes = (n : ℕ) (f : TreeFn) → slice_get q.functions n ≡ Some f → FunctionGoes f
