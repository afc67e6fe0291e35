-- The code of a whole program: each function is a frame round the code that is selected of its trees, in order, with its homes in
-- registers, and the data area is that of the objects.
use Rattle.std.specs.Prelude.{◌≡◌, ℕ, max, List, [], ◌∷◌, ◌++◌}
use Rattle.tree_core.specs.declared.tree.Leaf.{Leaf}
use Rattle.tree_core.specs.declared.program.TreeItem.{TreeItem}
use Rattle.tree_core.specs.declared.program.TreeItem.TheVariants as tree_item
use Rattle.tree_core.specs.declared.program.TreeFn.{TreeFn}
use Rattle.tree_core.specs.declared.program.TreeProgram.{TreeProgram}
use Rattle.tree_core.specs.Names.{label_name}
use Rattle.md_reader.specs.State.{Content}
use Rattle.sel_regs.specs.Slots.{Frame}
use Rattle.vax_target.specs.sel_target.specs.Meaning.{Meaning}
use Rattle.sel_parse.specs.sel_parse_desk.specs.Selected.{tree_of, Selected}
use Rattle.vax_core.specs.declared.operand.Operand.{Operand}
use Rattle.vax_core.specs.declared.code.Instr.{Instr}
use Rattle.vax_core.specs.declared.code.Code.{Code}
use Rattle.vax_core.specs.declared.code.CodeItem.{CodeItem}
use Rattle.vax_core.specs.declared.code.CodeItem.TheVariants as item_kind
use Rattle.vax_frames.specs.Frames.{code_items, IsFrameCode}
use Rattle.vax_homes.specs.Homing.{homed}
use Rattle.gg_compile_area.specs.gg_compile_law.specs.Spelling.{area_of}

module _ {S F : Type 0} (of : Meaning Operand Instr S F) (d : Content) (program : TreeProgram) where
  -- The code of some of a function's items: labels stay, and each tree is its selected code. Its slots begin behind the locals. The two
  -- numbers are how many frame words were used before them and behind them.
  pub data AreSelected (locals : ℕ) : ℕ → List TreeItem → List CodeItem → ℕ → Type 0 where
    nothing : (used : ℕ) → AreSelected locals used [] [] used
    label : (used most l : ℕ) (is : List TreeItem) (code : List CodeItem) → AreSelected locals used is code most
        → AreSelected locals used (tree_item.Label l ∷ is) (item_kind.Label (label_name l) ∷ code) most
    tree : (used words most : ℕ) (w : List Leaf) (is : List TreeItem) (instrs : List Instr) (code : List CodeItem)
        → Selected of program d locals (tree_of w) instrs words → AreSelected locals (max used words) is code most
        → AreSelected locals used (tree_item.Root w ∷ is) (code_items instrs ++ code) most

  -- The code of one item more stands behind that of others, with the slots before and behind it.
  pub record PutsItem (before behind : Frame) (i : TreeItem) (old new : List CodeItem) : Type 0 where
    pub code : List CodeItem
    pub put : new ≡ old ++ code
    pub selected : AreSelected before.first before.used (i ∷ []) code behind.used
    pub first : behind.first ≡ before.first

  -- the code of a function's items, and how many words of its frame are used
  abbrev pub IsBody : TreeFn → List CodeItem → ℕ → Type 0
  IsBody f body words = AreSelected f.locals f.locals f.items body words

  -- The code of a function: its frame has as many words as the tree that uses most, or as it has locals, and the wanted locals that may
  -- live in registers do.
  pub record IsSelectedFunction (f : TreeFn) (code : List CodeItem) : Type 0 where
    pub words : ℕ
    pub body : List CodeItem
    pub selected : IsBody f body words
    pub framed : IsFrameCode f.name words (homed f.wanted body) code

  -- the code of functions, one behind another
  pub data AreSelectedFunctions : List TreeFn → List CodeItem → Type 0 where
    none : AreSelectedFunctions [] []
    more : (f : TreeFn) (fs : List TreeFn) (part rest : List CodeItem) → IsSelectedFunction f part → AreSelectedFunctions fs rest
        → AreSelectedFunctions (f ∷ fs) (part ++ rest)

  pub record SelectedAll (c : Code) : Type 0 where
    pub functions : AreSelectedFunctions program.functions c.items
    pub area : c.area ≡ area_of program.objects
