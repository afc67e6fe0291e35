-- The code of a program, function by function.
use Rattle.std.specs.Prelude.{◌≡◌, ℕ, ◌≤◌, List, [], ◌∷◌, ◌++◌}
use Rattle.std.specs.List.{AllByRecursion}
use Rattle.gg_base.specs.declared.limits.TheConstants.{NEED_LIMIT}
use Rattle.vax_core.specs.declared.code.Code.{Code}
use Rattle.vax_core.specs.declared.code.CodeItem.{CodeItem}
use Rattle.vax_machine.specs.Loading.{Loads}
use Rattle.vax_core.specs.declared.code.Instr.{Instr}
use Rattle.vax_core.specs.declared.code.CodeItem.TheVariants as item_kind
use Rattle.tree_core.specs.declared.tree.Leaf.{Leaf}
use Rattle.tree_core.specs.declared.program.TreeItem.{TreeItem}
use Rattle.tree_core.specs.declared.program.TreeItem.TheVariants as tree_item
use Rattle.tree_core.specs.Valid.{IsValid, WantedStand}
use Rattle.tree_core.specs.declared.program.TreeFn.{TreeFn}
use Rattle.tree_core.specs.declared.program.TreeProgram.{TreeProgram}
use Rattle.tree_core.specs.Names.{label_name, function_label}
use Rattle.gg_base.specs.Runs.{Runs}
use Rattle.gg_base.specs.Follows.{Follows}
use Rattle.vax_machine.specs.Running.{run}
use Rattle.tree_meaning.specs.Meaning.{tree_run}
use Rattle.vax_machine_lists.specs.Sound.{AllBelow}
use Rattle.gg_compile_law.specs.Areas.{AreBlocks}
use Rattle.gg_compile_law.specs.Effects.{HasEffect}
use Rattle.vax_frames_law.specs.Calling.{IsMask}
use Rattle.vax_frames_law.specs.vax_frames.specs.Frames.{code_items, frame_items, IsFrameCode}
use Rattle.vax_homes_items.specs.vax_homes_law.specs.vax_homes.specs.Homing.{homed}
use Rattle.vax_homes_items.specs.Standing.{IsPlain}
use Rattle.vax_homes_frames.specs.Passing.{AreHomesOf}
use Rattle.gg_compile_law.specs.Framing.{FrameLayout, homed_code, IsRootCode}
use Rattle.gg_compile_law.specs.Programs.{FollowsTrees}

module _ (program : TreeProgram) where
  -- The code of some of a function's items: labels stay, and each root is such instructions with homes.
  pub data IsTreeCode (g : TreeFn) (y : FrameLayout) : List TreeItem → List CodeItem → Type 0 where
    nothing : IsTreeCode g y [] []
    label : (l : ℕ) (is : List TreeItem) (code : List CodeItem) → IsTreeCode g y is code
        → IsTreeCode g y (tree_item.Label l ∷ is) (item_kind.Label (label_name l) ∷ code)
    root : (w : List Leaf) (is : List TreeItem) (instrs : List Instr) (code : List CodeItem) → IsRootCode program g y w instrs
        → IsTreeCode g y is code
        → IsTreeCode g y (tree_item.Root w ∷ is) (code_items (homed_code y instrs) ++ code)

  -- items are a function's frame round the code of its items
  pub record IsFunctionCode (g : TreeFn) (part : List CodeItem) : Type 0 where
    pub layout : FrameLayout
    pub body : List CodeItem
    pub locals : g.locals ≤ layout.words
    pub few : layout.words ≤ NEED_LIMIT
    pub is_mask : IsMask layout.mask
    pub are_homes : AreHomesOf g.locals layout.homes
    pub is_body : IsTreeCode g layout g.items body
    pub part_is : part ≡ frame_items (function_label g.name) layout.mask layout.words body

  -- the code of functions, one behind another
  pub data AreFunctions : List TreeFn → List CodeItem → Type 0 where
    none : AreFunctions [] []
    more : (g : TreeFn) (gs : List TreeFn) (part rest : List CodeItem) → IsFunctionCode g part → AreFunctions gs rest
        → AreFunctions (g ∷ gs) (part ++ rest)

-- The code is that of the program's functions in order, and the data area that of its objects.
pub record IsAssembled (program : TreeProgram) (c : Code) : Type 0 where
  pub valid : IsValid program
  pub loads : Loads c
  pub functions : AreFunctions program program.functions c.items
  pub blocks : AreBlocks c.area program.objects c.area

-- The run of a code that is assembled so follows the run of the trees, on every input of bytes.
abbrev pub AssembledFollow : Type 0
AssembledFollow = (program : TreeProgram) (c : Code) → IsAssembled program c → FollowsTrees program c

-- The code of some of a function's items without homes.
pub data IsPlainCode (program : TreeProgram) (g : TreeFn) (words : ℕ) : List TreeItem → List CodeItem → Type 0 where
  plain_nothing : IsPlainCode program g words [] []
  plain_label : (l : ℕ) (is : List TreeItem) (code : List CodeItem) → IsPlainCode program g words is code
      → IsPlainCode program g words (tree_item.Label l ∷ is) (item_kind.Label (label_name l) ∷ code)
  plain_root : (w : List Leaf) (is : List TreeItem) (instrs : List Instr) (code : List CodeItem)
      → HasEffect program g.locals g.args words w instrs → AllByRecursion (IsPlain g.args) instrs
      → IsPlainCode program g words is code
      → IsPlainCode program g words (tree_item.Root w ∷ is) (code_items instrs ++ code)

-- The frame round a body with homes, which without them is the code of a function's items, is the code of the function.
abbrev pub FramesAreFunctionCodes : Type 0
FramesAreFunctionCodes =
    (program : TreeProgram) (g : TreeFn) (words : ℕ) (body code : List CodeItem) → g.locals ≤ words → words ≤ NEED_LIMIT
    → WantedStand g → IsPlainCode program g words g.items body
    → IsFrameCode g.name words (homed g.wanted body) code → IsFunctionCode program g code

-- What the run of the trees follows, as the run of a source, is followed by the run of the code.
abbrev pub SourceIsFollowed : Type 0
SourceIsFollowed =
    (program : TreeProgram) (c : Code) → IsAssembled program c → (source : Runs) (input : List ℕ) → AllBelow 256 input
    → Follows source (tree_run program input) → Follows source (run c input)
