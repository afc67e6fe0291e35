-- What parts of expressions are lowered to: items, and what is due behind them.
use Rattle.std.specs.Prelude.{ℕ, List, [], ◌∷◌, ◌++◌, Bool, true, false}
use Rattle.c_types.specs.declared.types.CType.{CType}
use Rattle.c_types.specs.declared.types.Integer.TheVariants as ints
use Rattle.c_lower_scheme.specs.Trees.{Tree, Gaddr, Loc, Item, AssignLoc, AssignMem, Ret, reads}
use Rattle.c_lower_scheme.specs.Saving.{saving, saved, next_if}

-- Items, and a tree that is due directly behind them: it is evaluated, or saved, before anything else is done. Behind
-- them, the first temporary and the first label that are free.
pub record Lowered : Type 0 where
  pub items : List Item
  pub tree : Tree
  pub temps : ℕ
  pub labels : ℕ

-- the same with two trees, which are due in turn
pub record Pair : Type 0 where
  pub items : List Item
  pub first : Tree
  pub second : Tree
  pub temps : ℕ
  pub labels : ℕ

-- where a value is kept: a local, a parameter, or memory at an address
pub data Where : Type 0 where
  InLoc : (n : ℕ) → Where
  InArg : (n : ℕ) → Where
  InMem : (a : Tree) → Where

-- the same with a place, whose address is due, and the type of what is kept there
pub record Located : Type 0 where
  pub items : List Item
  pub type : CType
  pub place : Where
  pub temps : ℕ
  pub labels : ℕ

-- The same with the arguments of a call, which are due in turn. They are quiet where no argument has items of its own,
-- so that the items only save.
pub record Passing : Type 0 where
  pub items : List Item
  pub trees : List Tree
  pub quiet : Bool
  pub temps : ℕ
  pub labels : ℕ

-- items alone
pub record Emitted : Type 0 where
  pub items : List Item
  pub temps : ℕ
  pub labels : ℕ

-- items, a place, and the value that is assigned to it, both due
pub record Assignable : Type 0 where
  pub items : List Item
  pub type : CType
  pub place : Where
  pub value : Tree
  pub temps : ℕ
  pub labels : ℕ

-- Where a value goes: into an automatic local, or out of the function as its result. A function that has a block gives it back before: the
-- stack's pointer, an object, becomes the block's address, which a local holds.
pub data Destination : Type 0 where
  InLocal : (n : ℕ) → Destination
  AsResult : Destination
  Releasing : (pointer n : ℕ) → Destination

-- The four ways to lower an expression, from the first free temporary and label on: for its value; as a condition,
-- which goes to a label where its truth is the given one, and else falls through; for its effect alone; and for its
-- value at a destination.
pub record Lowering : Type 0 where
  pub low : ℕ → ℕ → Lowered
  pub branch : Bool → ℕ → ℕ → ℕ → Emitted
  pub drop : ℕ → ℕ → Emitted
  pub deliver : Destination → ℕ → ℕ → Emitted

-- one part behind another
abbrev pub behind_low : {A : Type 0} → Lowered → (ℕ → ℕ → A) → A
behind_low p f = f p.temps p.labels

abbrev pub behind_found : {A : Type 0} → Located → (ℕ → ℕ → A) → A
behind_found p f = f p.temps p.labels

abbrev pub behind_done : {A : Type 0} → Emitted → (ℕ → ℕ → A) → A
behind_done p f = f p.temps p.labels

-- a tree without items
abbrev pub due : Tree → ℕ → ℕ → Lowered
due w t l = record { items = []; tree = w; temps = t; labels = l }

abbrev pub nothing : ℕ → ℕ → Emitted
nothing t l = record { items = []; temps = t; labels = l }

abbrev pub is_nil : List Item → Bool
is_nil [] = true
is_nil (i ∷ is) = false

-- a pure operator over a value
abbrev pub over : (Tree → Tree) → Lowered → Lowered
over f p = record { items = p.items; tree = f p.tree; temps = p.temps; labels = p.labels }

abbrev pub over_two : (Tree → Tree → Tree) → Pair → Lowered
over_two f p = record { items = p.items; tree = f p.first p.second; temps = p.temps; labels = p.labels }

-- items in front of a value, and of others
abbrev pub with_done : Emitted → Lowered → Lowered
with_done a p = record { items = a.items ++ p.items; tree = p.tree; temps = p.temps; labels = p.labels }

abbrev pub then_done : Emitted → Emitted → Emitted
then_done a b = record { items = a.items ++ b.items; temps = b.temps; labels = b.labels }

-- a value goes to its destination by one root; before a block is given back it is saved if it reads memory
abbrev pub by_root : Item → Lowered → Emitted
by_root root p = record { items = p.items ++ (root ∷ []); temps = p.temps; labels = p.labels }

abbrev pub released : ℕ → ℕ → Lowered → Emitted
released pointer n p = record {
  items = p.items ++ (saving (reads p.tree) p.temps p.tree ++ (AssignMem ints.Int (Gaddr pointer) (Loc n) ∷
      Ret (saved (reads p.tree) p.temps p.tree) ∷ []));
  temps = next_if (reads p.tree) p.temps;
  labels = p.labels;
}

abbrev pub delivered : Destination → Lowered → Emitted
delivered (InLocal n) p = by_root (AssignLoc n p.tree) p
delivered AsResult p = by_root (Ret p.tree) p
delivered (Releasing pointer n) p = released pointer n p
