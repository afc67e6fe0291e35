-- No two answers stand for one tree.
use Rattle.std.specs.Prelude.{◌≡◌, ℕ, List}
use Rattle.tree_core.specs.declared.tree.Leaf.{Leaf}
use Rattle.tree_core.specs.declared.program.TreeProgram.{TreeProgram}
use Rattle.md_reader.specs.State.{Content}
use Rattle.sel_target.specs.Meaning.{Meaning}
use Rattle.sel_parse_desk.specs.Selected.{Selected, FrameFull, Blocked}

module _ {O I S F : Type 0} (of : Meaning O I S F) where
  -- a tree has one code, and leaves one number of words used
  abbrev pub HasOneCode : Type 0
  HasOneCode =
      (q : TreeProgram) (d : Content) (first : ℕ) (w : List Leaf) (code code' : List I) (most most' : ℕ)
      → Selected of q d first w code most → Selected of q d first w code' most' → (code ≡ code') × (most ≡ most')

  -- where it has a code, the frame isn't full
  abbrev pub IsNotFull : Type 0
  IsNotFull =
      (q : TreeProgram) (d : Content) (first : ℕ) (w : List Leaf) (code : List I) (most : ℕ)
      → Selected of q d first w code most → FrameFull of q d first w → ⊥

  -- and nothing blocks
  abbrev pub IsNotBlocked : Type 0
  IsNotBlocked =
      (q : TreeProgram) (d : Content) (first : ℕ) (w : List Leaf) (code : List I) (most : ℕ)
      → Selected of q d first w code most → Blocked of q d first w → ⊥

  -- nor is it both
  abbrev pub IsOneRefusal : Type 0
  IsOneRefusal = (q : TreeProgram) (d : Content) (first : ℕ) (w : List Leaf) → FrameFull of q d first w → Blocked of q d first w → ⊥
