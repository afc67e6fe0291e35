-- Attributes that can be spelled: their numbers are longwords, and the object that one names is the program's;
-- and tree programs of such leaves.
use Rattle.std.specs.Prelude.{◌≡◌, ℕ, ◌^◌, ◌<◌, List, Some, length, slice_get}
use Rattle.std.specs.List.{AllByRecursion}
use Rattle.tree_core.specs.declared.tree.Att.{Att}
use Rattle.tree_core.specs.declared.tree.Att.TheVariants as att
use Rattle.tree_core.specs.declared.tree.Leaf.{Leaf}
use Rattle.tree_core.specs.declared.program.TreeItem.TheVariants as tree_item
use Rattle.tree_core.specs.declared.program.TreeFn.{TreeFn}
use Rattle.tree_core.specs.declared.program.TreeProgram.{TreeProgram}
use Rattle.sel_target.specs.declared.attr.Attr.{Attr}
use Rattle.sel_target.specs.declared.attr.Attr.TheVariants as attr

abbrev pub IsSpelled : TreeProgram → Att → Type 0
IsSpelled q att.Nothing = Unit {0}
IsSpelled q (att.Number n) = n < 2 ^ 32
IsSpelled q (att.Object object offset) = (object < length q.objects) × (offset < 2 ^ 32)
IsSpelled q (att.Slot k) = Unit {0}
IsSpelled q (att.Branch rel label) = label < 2 ^ 32
IsSpelled q (att.Label label) = label < 2 ^ 32
IsSpelled q (att.Callee function count) = Unit {0}

module _ {O : Type 0} where
  abbrev pub TokenIsSpelled : TreeProgram → Attr O → Type 0
  TokenIsSpelled q (attr.Token l) = IsSpelled q l.att
  TokenIsSpelled q a = Unit {0}

  -- each token among a rule's holes can be spelled
  abbrev pub AreSpelled : TreeProgram → List (Attr O) → Type 0
  AreSpelled q hs = AllByRecursion (TokenIsSpelled q) hs

-- it holds of each tree of each function
abbrev pub EachTree : (List Leaf → Type 0) → TreeProgram → Type 0
EachTree P q = (f n : ℕ) (g : TreeFn) (w : List Leaf) → slice_get q.functions f ≡ Some g → slice_get g.items n
    ≡ Some (tree_item.Root w) → P w

-- The numbers, offsets and labels in the trees of a program are longwords, and their objects the program's.
abbrev pub TreesAreSpelled : TreeProgram → Type 0
TreesAreSpelled q = EachTree (λ (w : List Leaf). AllByRecursion (λ (l : Leaf). IsSpelled q l.att) w) q
