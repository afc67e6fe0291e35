-- The code of a whole program, and states in which its run stands for a run of the trees.
use Rattle.std.specs.Prelude.{◌≡◌, ℕ, ◌+◌, ◌^◌, ◌<◌, ◌≤◌, ◌==◌, List, [], ◌∷◌, ◌++◌, length, slice_get}
use Rattle.std.specs.Prelude.{slice_index, Some, None, Bool, true, false}
use Rattle.std.specs.List.{list_any}
use Rattle.gg_base.specs.declared.limits.TheConstants.{ACTIVE_CALL_LIMIT, AREA_LIMIT}
use Rattle.vax_core.specs.declared.code.Instr.{Instr}
use Rattle.vax_core.specs.declared.code.CodeItem.{CodeItem}
use Rattle.vax_core.specs.declared.code.CodeItem.TheVariants as item_kind
use Rattle.vax_machine.specs.State.{State}
use Rattle.vax_machine.specs.Labels.{label_place}
use Rattle.tree_core.specs.declared.tree.Leaf.{Leaf}
use Rattle.tree_core.specs.declared.program.TreeItem.{TreeItem}
use Rattle.tree_core.specs.declared.program.TreeItem.TheVariants as tree_item
use Rattle.tree_core.specs.declared.program.TreeFn.{TreeFn}
use Rattle.tree_core.specs.declared.program.TreeProgram.{TreeProgram}
use Rattle.gg_base.specs.Follows.{Follows}
use Rattle.vax_core.specs.declared.code.Code.{Code}
use Rattle.vax_machine.specs.Area.{label_address, area_bytes}
use Rattle.vax_machine.specs.Running.{run}
use Rattle.tree_core.specs.declared.program.Object.{Object}
use Rattle.tree_core.specs.Area.{opening}
use Rattle.tree_core.specs.Names.{label_name, function_label}
use Rattle.tree_meaning.specs.Meaning.{main_of, tree_run}
use Rattle.tree_meaning.specs.State.{Activation, behind, Extent}
use Rattle.tree_meaning.specs.State.{State as Trees}
use Rattle.vax_machine_lists.specs.Sound.{AllBelow}
use Rattle.vax_frames_law.specs.vax_states.specs.Agreeing.{HasResult}
use Rattle.vax_homes_items.specs.vax_homes_law.specs.vax_homes.specs.declared.choose.Home.{Home}
use Rattle.vax_homes_frames.specs.Live.{HomedCall, AllAtHome}
use Rattle.vax_homes_frames.specs.Passing.{AreHomesOf}
use Rattle.gg_compile_law.specs.Framing.{FrameLayout, layout_of, layout_in, homed_code, IsRootCode}
use Rattle.gg_compile_law.specs.Roles.{Role, Pushes, Calls, Saves, Plain, role_of, target_of}
use Rattle.vax_frames_law.specs.Calling.{HasFrame}
use Rattle.vax_frames_law.specs.vax_frames.specs.Frames.{code_items, room_code, end_code}

-- items stand in a code from a place on
abbrev pub HasItems : List CodeItem → ℕ → List CodeItem → Type 0
HasItems code place [] = Unit {0}
HasItems code place (x ∷ xs) = (slice_get code place ≡ Some x) × HasItems code (place + 1) xs

-- a label stands among a function's items
abbrev pub is_label_of : TreeItem → ℕ → Bool
is_label_of (tree_item.Label l) n = l == n
is_label_of (tree_item.Root w) n = false

abbrev pub stands_in : List TreeItem → ℕ → Bool
stands_in items n = list_any (λ (item : TreeItem). is_label_of item n) items

-- Pushes stand before calls, as many as the call takes and at most 255, a save directly behind a call: so many are
-- pushed so far, and a call stands directly before, or not.
abbrev pub InOrderBy : Role → ℕ → Bool → (ℕ → Bool → Type 0) → Type 0
InOrderBy Pushes pushed is_behind rest = rest (pushed + 1) false
InOrderBy (Calls function count) pushed is_behind rest = (pushed ≡ count) × (count ≤ 255) × rest 0 true
InOrderBy Saves pushed is_behind rest = (is_behind ≡ true) × rest pushed false
InOrderBy Plain pushed is_behind rest = (pushed ≡ 0) × rest 0 false

abbrev pub InOrder : ℕ → Bool → List TreeItem → Type 0
InOrder pushed is_behind [] = pushed ≡ 0
InOrder pushed is_behind (tree_item.Label l ∷ is) = (pushed ≡ 0) × InOrder 0 false is
InOrder pushed is_behind (tree_item.Root w ∷ is) = InOrderBy (role_of w) pushed is_behind (λ p b. InOrder p b is)

module _ (program : TreeProgram) where
  -- a root of a function has such code, a label to which it goes stands in the function, and it calls with as many arguments as there are
  pub record IsSelected (g : TreeFn) (y : FrameLayout) (w : List Leaf) (code : List Instr) : Type 0 where
    pub root : IsRootCode program g y w code
    pub target : (l : ℕ) → target_of w ≡ Some l → stands_in g.items l ≡ true
    pub call : (function count : ℕ) (h : TreeFn) → role_of w ≡ Calls function count → slice_get program.functions function
        ≡ Some h → count ≡ h.args

  -- The code of some of a function's items: labels stay, and each root is its instructions with homes.
  pub data IsBody (g : TreeFn) (y : FrameLayout) : List TreeItem → List CodeItem → Type 0 where
    nothing : IsBody g y [] []
    label : (l : ℕ) (is : List TreeItem) (code : List CodeItem) → IsBody g y is code
        → IsBody g y (tree_item.Label l ∷ is) (item_kind.Label (label_name l) ∷ code)
    root : (w : List Leaf) (is : List TreeItem) (instrs : List Instr) (code : List CodeItem) → IsSelected g y w instrs
        → IsBody g y is code
        → IsBody g y (tree_item.Root w ∷ is) (code_items (homed_code y instrs) ++ code)

  module _ (code : List CodeItem) where
    -- from a place on stands the code of the rest of a function
    pub record StandsAt (g : TreeFn) (y : FrameLayout) (place : ℕ) (is : List TreeItem) : Type 0 where
      pub body : List CodeItem
      pub is_body : IsBody g y is body
      pub there : HasItems code place (body ++ code_items end_code)

    -- the code of a function of the program stands behind its label
    pub record IsEmitted (g : TreeFn) : Type 0 where
      pub frame : HasFrame code (function_label g.name) g.locals
      pub homes : List Home
      pub are_homes : AreHomesOf g.locals homes
      pub begins : StandsAt g (layout_of frame homes) (frame.entry + 1 + length (room_code frame.words)) g.items
      pub labels : (l : ℕ) → stands_in g.items l ≡ true → StandsAt g (layout_of frame homes) (label_place code (label_name l))
          (tree_item.Label l ∷ behind g.items l)
      pub order : InOrder 0 false g.items

    -- A call of the function, with its frame and homes, goes on at a place of the code.
    pub record IsActive (g : TreeFn) (e : Extent) (c : HomedCall) (a : Activation) (place : ℕ) (is_behind : Bool) : Type 0 where
      pub number : ℕ
      pub function : slice_get program.functions number ≡ Some g
      pub emitted : IsEmitted g
      pub layout : layout_in e c ≡ layout_of emitted.frame emitted.homes
      pub locals : e.locals ≡ g.locals
      pub items : a.code ≡ g.items
      pub arguments : length a.arguments ≡ g.args
      pub here : StandsAt g (layout_in e c) place a.items
      pub order : InOrder (length a.pushed) is_behind a.items

    -- Each suspended call goes on where the frame inside its own says, with its own fp and ap; the outermost frame's return ends the run.
    pub data Waits : HomedCall → List HomedCall → List Extent → List Activation → Type 0 where
      ends_run : (c : HomedCall) → c.frame.back ≡ None → Waits c [] [] []
      goes_on : (c d : HomedCall) (cs : List HomedCall) (g : TreeFn) (e : Extent) (es : List Extent) (a : Activation)
          (rest : List Activation) (place : ℕ)
          → c.frame.back ≡ Some place → AllBelow (2 ^ 32) c.frame.saved
          → slice_index c.frame.saved 13 ≡ d.frame.fp → slice_index c.frame.saved 12 ≡ d.frame.ap
          → IsActive g e d a place true → Waits d cs es rest → Waits c (d ∷ cs) (e ∷ es) (a ∷ rest)

    -- The machine that is m with the stack st stands where the trees' state stands, with all calls' homes in registers.
    pub record Stands (t : Trees) (m : State) (st : List ℕ) : Type 0 where
      pub e : Extent
      pub es : List Extent
      pub c : HomedCall
      pub cs : List HomedCall
      pub g : TreeFn
      pub is_behind : Bool
      pub at_home : AllAtHome program.objects e es c cs t m st
      pub items : m.items ≡ code
      pub active : IsActive g e c t.running m.place is_behind
      pub result : is_behind ≡ true → HasResult t m
      pub waits : Waits c cs es t.callers
      pub shallow : length t.callers < ACTIVE_CALL_LIMIT

-- The code is the program's: each function's code stands in it, and the data area is that of the program's objects.
pub record IsCompiled (program : TreeProgram) (c : Code) : Type 0 where
  pub emitted : (n : ℕ) (g : TreeFn) → slice_get program.functions n ≡ Some g → IsEmitted program c.items g
  pub main : TreeFn
  pub main_is : main_of program.functions ≡ Some main
  pub main_args : main.args ≡ 0
  pub labelled : (n : ℕ) (o : Object) → slice_get program.objects n ≡ Some o → label_address c.area o.label ≡ o.address
  pub area : area_bytes c.area ≡ opening program.objects
  pub bytes : AllBelow 256 (opening program.objects)
  pub size : length (opening program.objects) ≤ AREA_LIMIT

-- on every input of bytes the code's run follows the run of the trees
abbrev pub FollowsTrees : TreeProgram → Code → Type 0
FollowsTrees program c = (input : List ℕ) → AllBelow 256 input → Follows (tree_run program input) (run c input)

-- The code of a program follows its trees.
abbrev pub CompiledFollow : Type 0
CompiledFollow = (program : TreeProgram) (c : Code) → IsCompiled program c → FollowsTrees program c
