-- The two definitions of a selection are one where the target keeps its laws: that of `sel_parse_desk`, where held is what an operand
-- spells, and that of `sel_parse_selected`, where held is what the laws say that an operand touches.
use Rattle.std.specs.Prelude.{ℕ, List}
use Rattle.std.specs.List.{AllByRecursion}
use Rattle.tree_core.specs.declared.token.Sort.TheVariants as sort
use Rattle.tree_core.specs.declared.tree.Leaf.{Leaf}
use Rattle.tree_core.specs.declared.program.TreeProgram.{TreeProgram}
use Rattle.tree_core.specs.Trees.{IsTyped}
use Rattle.md_reader.specs.State.{Content}
use Rattle.sel_target.specs.Meaning.{Meaning}
use Rattle.sel_parse_slots.specs.sel_parse_moves.specs.Claims.{root}
use Rattle.sel_parse_slots.specs.sel_parse_selected.specs.Selected as selected
use Rattle.sel_parse_slots.specs.sel_parse_desk.specs.Selected as desk
use Rattle.sel_parse_slots.specs.Claims.{IsOwn, IsTaken}

module _ {O I S F : Type 0} (of : Meaning O I S F) where
  -- a typed statement tree, selected by a description whose templates have effects, whose leaves name what operands can name
  pub record IsSelectable (q : TreeProgram) (d : Content) (first : ℕ) (w : List Leaf) : Type 0 where
    pub spelled : of.can_write q
    pub taken : IsTaken of d
    pub typed : IsTyped (root w) sort.Stmt
    pub own : AllByRecursion (λ (l : Leaf). IsOwn q first l.tok l.att) w

  -- a code that is computed is the tree's, and uses as many words
  abbrev pub SameCode : Type 0
  SameCode =
      (q : TreeProgram) (d : Content) (first : ℕ) (w : List Leaf) (code : List I) (most : ℕ) → IsSelectable q d first w
      → desk.Selected of q d first w code most → selected.Selected of q d first w code most

  -- the frame is full for both
  abbrev pub SameFull : Type 0
  SameFull =
      (q : TreeProgram) (d : Content) (first : ℕ) (w : List Leaf) → IsSelectable q d first w
      → desk.FrameFull of q d first w → selected.FrameFull of q d first w
