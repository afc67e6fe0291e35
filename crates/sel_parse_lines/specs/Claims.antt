-- What the instructions of a selection are: lines of the description with their holes filled.
use Rattle.std.specs.Prelude.{◌≡◌, ℕ, ◌≤◌, List, length, true, Bool, Ok}
use Rattle.std.specs.List.{AllByRecursion}
use Rattle.gg_base.specs.declared.limits.TheConstants.{NEED_LIMIT}
use Rattle.tree_core.specs.declared.tree.Leaf.{Leaf}
use Rattle.tree_core.specs.declared.program.TreeProgram.{TreeProgram}
use Rattle.md_reader_pieces.specs.declared.piece.Line.{Line}
use Rattle.md_reader.specs.declared.types.Rule.{Rule}
use Rattle.md_reader.specs.State.{Content}
use Rattle.md_reader.specs.Valid.{IsValid}
use Rattle.sel_target.specs.sel_terms.specs.Effects.{EffectShape}
use Rattle.sel_target.specs.declared.attr.Attr.{Attr}
use Rattle.sel_target.specs.declared.attr.Attr.TheVariants as attr
use Rattle.sel_target.specs.Meaning.{Meaning}
use Rattle.sel_parse_selected.specs.Selected.{Selected}

module _ {O I S F : Type 0} (of : Meaning O I S F) (q : TreeProgram) where
  -- A test of attributes lasts where each step of a selection keeps it: registers, words of the frame and numbers pass
  -- it, and a shape passes it whose holes do.
  pub record Lasts (good : Attr O → Bool) : Type 0 where
    pub register : (r : ℕ) → good (attr.Reg r) ≡ true
    pub in_slot : (w : ℕ) → good (attr.InSlot w) ≡ true
    pub number : (n : ℕ) → good (attr.Con n) ≡ true
    pub nothing : good attr.Nothing ≡ true
    -- a slot as a value, as a place, and as the address of a place
    pub slot_value : (w : ℕ) → good (attr.Value (of.slot w)) ≡ true
    pub slot_place : (w : ℕ) → good (attr.Place (of.slot w)) ≡ true
    pub deferred_place : (w : ℕ) → good (attr.Place (of.slot_deferred w)) ≡ true
    pub deferred_address : (w : ℕ) → good (attr.Ea (of.slot_deferred w)) ≡ true
    pub shape_value : (l : Line) (hs : List (Attr O)) → AllByRecursion (λ a. good a ≡ true) hs
        → good (attr.Value (of.operand q l hs)) ≡ true
    pub shape_place : (l : Line) (hs : List (Attr O)) → AllByRecursion (λ a. good a ≡ true) hs
        → good (attr.Place (of.operand q l hs)) ≡ true
    pub shape_address : (l : Line) (hs : List (Attr O)) → AllByRecursion (λ a. good a ≡ true) hs → good (attr.Ea (of.operand q l hs)) ≡ true

  -- an instruction is a line whose holes are filled by attributes that pass
  pub record IsFilled (good : Attr O → Bool) (i : I) : Type 0 where
    pub line : Line
    pub holes : List (Attr O)
    pub result : Attr O
    pub is : i ≡ of.instr q line holes result
    pub holes_pass : AllByRecursion (λ a. good a ≡ true) holes
    pub result_passes : good result ≡ true

module _ {O I S F : Type 0} (of : Meaning O I S F) where
  -- Each instruction of a selection is a line, filled by attributes that pass any test that lasts and that the tree's tokens pass.
  abbrev pub SelectionsAreFilled : Type 0
  SelectionsAreFilled =
      (q : TreeProgram) (d : Content) (first : ℕ) (w : List Leaf) (code : List I) (most : ℕ) (good : Attr O → Bool) → Lasts of q good
      → AllByRecursion (λ (l : Leaf). good (attr.Token l) ≡ true) w → Selected of q d first w code most
      → AllByRecursion (IsFilled of q good) code

  -- By a valid description, each of whose templates has an effect, a statement has an instruction.
  abbrev pub StatementsHaveCode : Type 0
  StatementsHaveCode =
      (q : TreeProgram) (d : Content) (first : ℕ) (w : List Leaf) (code : List I) (most : ℕ) → IsValid d
      → AllByRecursion (λ (r : Rule). (e : EffectShape) × (of.effect d.classes r ≡ Ok e)) d.rules
      → Selected of q d first w code most → 1 ≤ length code

  -- It uses words below `NEED_LIMIT` alone, where its first slot is one of these or the next.
  abbrev pub SelectionsUseFewWords : Type 0
  SelectionsUseFewWords =
      (q : TreeProgram) (d : Content) (first : ℕ) (w : List Leaf) (code : List I) (most : ℕ) → first ≤ NEED_LIMIT
      → Selected of q d first w code most → most ≤ NEED_LIMIT
