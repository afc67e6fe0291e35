-- What is true of every selection.
use Rattle.std.specs.Prelude.{◌≡◌, ℕ, List, Some, slice_get}
use Rattle.tree_core.specs.declared.tree.Leaf.{Leaf}
use Rattle.tree_core.specs.declared.program.TreeProgram.{TreeProgram}
use Rattle.sel_target.specs.md_reader.specs.declared.types.Rule.{Rule}
use Rattle.sel_target.specs.md_reader.specs.State.{Content}
use Rattle.lr_check_parse.specs.Moves.{Move, Accepts}
use Rattle.sel_target.specs.Meaning.{Meaning}
use Rattle.sel_parse_selected.specs.Desk.{Stack, Full}
use Rattle.sel_parse_selected.specs.Reductions.{reduced}
use Rattle.sel_parse_selected.specs.Selected.{Kept, start, made, Parsed, Selected, FrameFull}

module _ {O I S F : Type 0} (of : Meaning O I S F) where
  -- behind the moves a rule is taken, at whose reduction a spill is due and no frame word is free
  pub record IsFullBehind (q : TreeProgram) (d : Content) (first : ℕ) (log : List (Move Leaf)) (from : Kept O I) : Type 0 where
    pub number : ℕ
    pub rule : Rule
    pub stack : Stack O I
    pub behind : made of q d first log from ≡ Some (Some stack)
    pub there : slice_get d.rules number ≡ Some rule
    pub full : reduced of q d first rule stack ≡ Full

  -- a tree has one code, and leaves one number of words used
  abbrev pub HasOneCode : Type 0
  HasOneCode =
      (q : TreeProgram) (d : Content) (first : ℕ) (w : List Leaf) (code code' : List I) (most most' : ℕ)
      → Selected of q d first w code most → Selected of q d first w code' most' → (code ≡ code') × (most ≡ most')

  -- a tree with a code doesn't find the frame full
  abbrev pub IsOneEnd : Type 0
  IsOneEnd =
      (q : TreeProgram) (d : Content) (first : ℕ) (w : List Leaf) (code : List I) (most : ℕ)
      → Selected of q d first w code most → FrameFull of q d first w → ⊥

  -- what an accepting parse keeps is what its moves make
  abbrev pub IsMade : Type 0
  IsMade =
      (q : TreeProgram) (d : Content) (first : ℕ) (w : List Leaf) (log : List (Move Leaf)) (x : Kept O I)
      → Parsed of q d first w log (Accepts x) → made of q d first log (start of q d first) ≡ Some x

  -- the frame is full only where a spill was due and no frame word was free
  abbrev pub IsFull : Type 0
  IsFull =
      (q : TreeProgram) (d : Content) (first : ℕ) (w : List Leaf)
      → (f : FrameFull of q d first w) → IsFullBehind q d first f.log (start of q d first)
