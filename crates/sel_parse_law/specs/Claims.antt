-- What is true of the code that `select` computes for a typed statement tree, over a target that keeps its laws.
use Rattle.std.specs.Prelude.{◌≡◌, ℕ, ◌+◌, ◌≤◌, List}
use Rattle.std.specs.List.{AllByRecursion}
use Rattle.gg_base.specs.declared.limits.TheConstants.{NEED_LIMIT}
use Rattle.tree_core.specs.declared.token.Sort.TheVariants as sort
use Rattle.tree_core.specs.declared.tree.Leaf.{Leaf}
use Rattle.tree_core.specs.declared.program.TreeProgram.{TreeProgram}
use Rattle.tree_core.specs.Trees.{IsTyped}
use Rattle.tree_core.specs.Calm.{Calm}
use Rattle.tree_core_forks.specs.Forks.{forks}
use Rattle.tree_meaning.specs.State.{State, sight, Extent}
use Rattle.tree_meaning.specs.Deeds.{Traps}
use Rattle.md_reader.specs.State.{Content}
use Rattle.sel_parse_registers.specs.lr_tables.specs.View.{TableView}
use Rattle.sel_parse_registers.specs.lr_tables.specs.Promises.{IsNumbered}
use Rattle.sel_parse_ends.specs.lr_checked.specs.Accepted.{NeverStops}
use Rattle.sel_target.specs.Meaning.{Meaning}
use Rattle.sel_parse_registers.specs.sel_parse_moves.specs.Claims.{root, deed}
use Rattle.sel_parse_registers.specs.sel_parse_moves.specs.Possible.{IsPossible}
use Rattle.sel_parse_registers.specs.sel_parse_stands.specs.Stands.{Names}
use Rattle.sel_parse_registers.specs.sel_parse_effect.specs.Claims.{frame_sight, IsFit, Begins, HasEffect}
use Rattle.sel_parse_registers.specs.sel_parse_effect.specs.Places.{StoresToPlaces}
use Rattle.sel_parse_registers.specs.sel_parse_slots.specs.Claims.{IsOwn}
use Rattle.sel_parse_joined.specs.sel_parse_desk.specs.Selected.{tree_of, Selected, FrameFull, Blocked}

-- A statement as a tree program has it, with an End behind its leaves: `select` is given it whole, and these laws speak of the leaves
-- before the End.
abbrev pub EndsTree : Type 0
EndsTree = (w : List Leaf) → IsTyped w sort.Stmt → root (tree_of w) ≡ w

module _ {O I S F : Type 0} (of : Meaning O I S F) where
  -- The code does what the tree does: it is the step of the tree's deed, and where a calm tree divides by zero it traps. The premises are
  -- those of `SelectedHasEffect`: a description that was shown, a state that stands for the program's, the frame words that the code uses,
  -- what the leaves name. Of a tree with a wild access nothing is said.
  abbrev pub CodeHasEffect : Type 0
  CodeHasEffect =
      (q : TreeProgram) (d : Content) (first : ℕ) (f : Extent) (fs : List Extent) (t : State) (m : S) (w : List Leaf) (code : List I)
      (most : ℕ)
      → StoresToPlaces of → IsFit of d → Begins of q first f fs t m
      → Selected of q d first w code most → most ≤ f.words → IsTyped (root w) sort.Stmt
      → AllByRecursion (Names of q d first f fs t (frame_sight of f t m) m) w
      → IsPossible t.area (deed q.objects (sight t) w) → (deed q.objects (sight t) w ≡ Traps → Calm (root w))
      → HasEffect of q f fs t m (of.run code m) (deed q.objects (sight t) w)

  -- A typed statement tree, to be selected by a description that was shown. The function's locals lie before its first slot, and what the
  -- leaves name, operands name and spell.
  pub record IsReady (q : TreeProgram) (d : Content) (first : ℕ) (w : List Leaf) : Type 0 where
    pub spelled : of.can_write q
    pub fit : IsFit of d
    pub typed : IsTyped (root w) sort.Stmt
    pub own : AllByRecursion (λ (l : Leaf). IsOwn q first l.tok l.att) w

  -- its code uses at most one slot more than the tree has tokens with two kids
  abbrev pub UsesFewSlots : Type 0
  UsesFewSlots =
      (q : TreeProgram) (d : Content) (first : ℕ) (w : List Leaf) (code : List I) (most : ℕ)
      → IsReady q d first w → Selected of q d first w code most → most ≤ first + (forks w + 1)

  -- so where these words are ones that operands name, the frame isn't full
  abbrev pub HasRoom : Type 0
  HasRoom =
      (q : TreeProgram) (d : Content) (first : ℕ) (w : List Leaf)
      → IsReady q d first w → first + (forks w + 1) ≤ NEED_LIMIT → FrameFull of q d first w → ⊥

  -- by a description that was checked, the parse neither blocks nor turns, and each register that is due can be had
  abbrev pub NeverBlocks : Type 0
  NeverBlocks =
      (q : TreeProgram) (d : Content) (first : ℕ) (w : List Leaf) → IsReady q d first w → NeverStops d → Blocked of q d first w → ⊥

  pub record HasCode (q : TreeProgram) (d : Content) (first : ℕ) (w : List Leaf) : Type 0 where
    pub code : List I
    pub most : ℕ
    pub selected : Selected of q d first w code most

  -- so by tables that were checked, where the frame has that many words, each such tree has a code
  abbrev pub TreesHaveCode : Type 0
  TreesHaveCode =
      (q : TreeProgram) (t : TableView) (first : ℕ) (w : List Leaf)
      → IsReady q t.content first w → IsNumbered t → NeverStops t.content → first + (forks w + 1) ≤ NEED_LIMIT
      → HasCode q t.content first w
