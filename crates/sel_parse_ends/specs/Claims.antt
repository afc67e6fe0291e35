-- How selections end, by tables that were checked for blocking and looping.
use Rattle.std.specs.Prelude.{◌⊎◌, ℕ, ◌+◌, ◌≤◌, List, None}
use Rattle.std.specs.List.{AllByRecursion}
use Rattle.gg_base.specs.declared.limits.TheConstants.{NEED_LIMIT}
use Rattle.tree_core.specs.declared.token.Sort.TheVariants as sort
use Rattle.tree_core.specs.declared.tree.Leaf.{Leaf}
use Rattle.tree_core.specs.declared.program.TreeProgram.{TreeProgram}
use Rattle.tree_core.specs.Trees.{IsTyped}
use Rattle.tree_core_forks.specs.Forks.{forks}
use Rattle.md_reader.specs.State.{Content}
use Rattle.md_reader.specs.Valid.{IsValid}
use Rattle.lr_checked.specs.lr_tables.specs.View.{TableView}
use Rattle.lr_checked.specs.lr_tables.specs.Promises.{IsNumbered}
use Rattle.lr_checked.specs.lr_check_parse.specs.Moves.{Move, Accepts}
use Rattle.lr_checked.specs.Accepted.{NeverStops}
use Rattle.sel_target.specs.Meaning.{Meaning}
use Rattle.sel_parse_slots.specs.sel_parse_moves.specs.Claims.{root}
use Rattle.sel_parse_slots.specs.sel_parse_selected.specs.Selected.{Parsed, Selected, Blocked}
use Rattle.sel_parse_slots.specs.Claims.{IsOwn, IsTaken}

module _ {O I S F : Type 0} (of : Meaning O I S F) where
  pub record HasCode (q : TreeProgram) (d : Content) (first : ℕ) (w : List Leaf) : Type 0 where
    pub code : List I
    pub most : ℕ
    pub selected : Selected of q d first w code most

  -- a register was due, and no entry could give one up
  pub record IsStuck (q : TreeProgram) (d : Content) (first : ℕ) (w : List Leaf) : Type 0 where
    pub log : List (Move Leaf)
    pub parsed : Parsed of q d first w log (Accepts None)

  abbrev pub NeverBlocks : Type 0
  NeverBlocks =
      (q : TreeProgram) (d : Content) (first : ℕ) (w : List Leaf)
      → IsValid d → NeverStops d → IsTyped (root w) sort.Stmt → Blocked of q d first w → ⊥

  -- where operands name one word more behind the locals than the tree has tokens with two kids
  abbrev pub SelectionsEnd : Type 0
  SelectionsEnd =
      (q : TreeProgram) (t : TableView) (first : ℕ) (w : List Leaf)
      → of.can_write q → IsTaken of t.content → IsNumbered t → NeverStops t.content
      → IsTyped (root w) sort.Stmt → AllByRecursion (λ (l : Leaf). IsOwn q first l.tok l.att) w
      → first + (forks w + 1) ≤ NEED_LIMIT → HasCode q t.content first w ⊎ IsStuck q t.content first w
