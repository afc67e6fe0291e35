-- How many frame words a selection uses.
use Rattle.std.specs.Prelude.{◌≡◌, ℕ, ◌+◌, ◌≤◌, ◌<◌, List, Ok}
use Rattle.std.specs.List.{AllByRecursion}
use Rattle.gg_base.specs.declared.limits.TheConstants.{NEED_LIMIT}
use Rattle.tree_core.specs.declared.token.Tok.{Tok}
use Rattle.tree_core.specs.declared.token.Tok.TheVariants as tok
use Rattle.tree_core.specs.declared.token.Sort.TheVariants as sort
use Rattle.tree_core.specs.declared.tree.Att.{Att}
use Rattle.tree_core.specs.declared.tree.Att.TheVariants as att
use Rattle.tree_core.specs.declared.tree.Leaf.{Leaf}
use Rattle.tree_core.specs.declared.program.TreeProgram.{TreeProgram}
use Rattle.tree_core.specs.Trees.{IsTyped}
use Rattle.tree_core_forks.specs.Forks.{forks}
use Rattle.md_reader.specs.declared.types.Rule.{Rule}
use Rattle.md_reader.specs.State.{Content}
use Rattle.md_reader.specs.Valid.{IsValid}
use Rattle.sel_target.specs.sel_terms.specs.Effects.{EffectShape}
use Rattle.sel_target.specs.Meaning.{Meaning}
use Rattle.sel_target.specs.Instances.{InFrame}
use Rattle.sel_target.specs.Spelled.{IsSpelled}
use Rattle.sel_parse_effect.specs.sel_parse_moves.specs.Claims.{root}
use Rattle.sel_parse_effect.specs.sel_parse_selected.specs.Selected.{Selected, FrameFull}

-- A leaf of a function whose locals lie before the first slot: a local that it names is one of these, operands name its local or its
-- argument, its number, offset or label is a longword, and its object is the program's.
pub record IsOwn (q : TreeProgram) (first : ℕ) (x : Tok) (a : Att) : Type 0 where
  pub in_frame : InFrame a
  pub own_local : (k : ℕ) → x ≡ tok.Loc → a ≡ att.Slot k → k < first
  pub spelled : IsSpelled q a

module _ {O I S F : Type 0} (of : Meaning O I S F) where
  -- a valid description, each of whose templates has an effect
  pub record IsTaken (d : Content) : Type 0 where
    pub valid : IsValid d
    pub taken : AllByRecursion (λ (r : Rule). (e : EffectShape) × (of.effect d.classes r ≡ Ok e)) d.rules

  -- at most one slot more than the tree has tokens with two kids
  abbrev pub UsesFewSlots : Type 0
  UsesFewSlots =
      (q : TreeProgram) (d : Content) (first : ℕ) (w : List Leaf) (code : List I) (most : ℕ)
      → of.can_write q → IsTaken d → IsTyped (root w) sort.Stmt → AllByRecursion (λ (l : Leaf). IsOwn q first l.tok l.att) w
      → Selected of q d first w code most → most ≤ first + (forks w + 1)

  -- so where these words are ones that operands name, the frame isn't full
  abbrev pub HasRoom : Type 0
  HasRoom =
      (q : TreeProgram) (d : Content) (first : ℕ) (w : List Leaf)
      → of.can_write q → IsTaken d → IsTyped (root w) sort.Stmt → AllByRecursion (λ (l : Leaf). IsOwn q first l.tok l.att) w
      → first + (forks w + 1) ≤ NEED_LIMIT → FrameFull of q d first w → ⊥
