-- Where a run of a tree program stands.
use Rattle.std.specs.Prelude.{ℕ, ◌==◌, List, [], ◌∷◌, Option, Some, None, Bool, false, cond}
use Rattle.tree_core.specs.declared.tree.Leaf.{Leaf}
use Rattle.tree_core.specs.declared.program.TreeItem.{TreeItem}
use Rattle.tree_core.specs.declared.program.TreeItem.TheVariants as tree_item
use Rattle.tree_core.specs.declared.program.TreeFn.{TreeFn}
use Rattle.gg_base.specs.declared.run.Finish.{Finish}
use Rattle.gg_base.specs.declared.run.Finish.TheVariants as finish
use Rattle.tree_meaning.specs.Values.{Sight}

-- A call that is active: its function's items, those still to come, the locals that it has written, its arguments from
-- argument 1 on, the arguments that it has pushed, the last one first, and the result of its last call.
pub record Activation : Type 0 where
  pub code : List TreeItem
  pub items : List TreeItem
  pub locals : ℕ → Option ℕ
  pub arguments : List ℕ
  pub pushed : List ℕ
  pub result : ℕ

-- How many words a live call's frame has. The first of them are the function's locals; the others may be used freely.
pub record Extent : Type 0 where
  pub locals : ℕ
  pub words : ℕ

-- the innermost call, those that wait for it, the last caller first, the data area, and the input that is left
pub record State : Type 0 where
  pub running : Activation
  pub callers : List Activation
  pub area : List ℕ
  pub input : List ℕ

-- a call that begins
abbrev pub begun : TreeFn → List ℕ → Activation
begun g args = record { code = g.items; items = g.items; locals = λ n. None; arguments = args; pushed = []; result = 0 }

-- what a tree reads there
abbrev pub sight : State → Sight
sight s = record { locals = s.running.locals; arguments = s.running.arguments; area = s.area }

-- one more local is written
abbrev pub with_local : (ℕ → Option ℕ) → ℕ → ℕ → ℕ → Option ℕ
with_local f n v m = cond (m == n) (Some v) (f m)

-- the items behind a label's first place
abbrev pub behind_if : Option ℕ → ℕ → List TreeItem → List TreeItem → List TreeItem
behind_if None l is rest = rest
behind_if (Some m) l is rest = cond (m == l) is rest

abbrev pub label_of : TreeItem → Option ℕ
label_of (tree_item.Label l) = Some l
label_of (tree_item.Root w) = None

abbrev pub is_label : ℕ → TreeItem → Bool
is_label l (tree_item.Label m) = m == l
is_label l (tree_item.Root w) = false

abbrev pub behind : List TreeItem → ℕ → List TreeItem
behind [] l = []
behind (i ∷ is) l = behind_if (label_of i) l is (behind is l)

-- the root that comes first among items, behind labels, and the items behind it
abbrev pub ahead : List TreeItem → Option (List Leaf × List TreeItem)
ahead [] = None
ahead (tree_item.Label l ∷ is) = ahead is
ahead (tree_item.Root w ∷ is) = Some (w, is)

-- where a run comes to: its end, or a tree
pub data Next : Type 0 where
  over : (e : Finish) → Next
  tree_at : (w : List Leaf) (s : State) → Next

abbrev pub coming : Option (List Leaf × List TreeItem) → Activation → List Activation → List ℕ → List ℕ → Next → Next
coming None f callers area input otherwise = otherwise
coming (Some r) f callers area input otherwise = tree_at r.0 (record {
  running = record f { items = r.1 };
  callers = callers;
  area = area;
  input = input;
})

-- a call is left with a result; where a function's items have ended, it answers 0
abbrev pub returned : ℕ → List Activation → List ℕ → List ℕ → Next
returned v [] area input = over (finish.Ended v)
returned v (f ∷ fs) area input = coming (ahead f.items) (record f { result = v }) fs area input (returned 0 fs area input)

abbrev pub arrived : State → Next
arrived s = coming (ahead s.running.items) s.running s.callers s.area s.input (returned 0 s.callers s.area s.input)
