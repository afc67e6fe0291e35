-- What the items of a function are, where labels, pushes and calls are looked at.
use Rattle.std.specs.Prelude.{◌≡◌, length, ℕ, ◌+◌, ◌==◌, List, [], ◌∷◌, ◌++◌, Option, Some, None, Bool, true, false, cond}
use Rattle.std.specs.List.{filter_map, flat_map}
use Rattle.tree_core.specs.declared.token.Tok.{Tok}
use Rattle.tree_core.specs.declared.token.Tok.TheVariants as tok
use Rattle.tree_core.specs.declared.tree.Att.{Att}
use Rattle.tree_core.specs.declared.tree.Att.TheVariants as att
use Rattle.tree_core.specs.declared.tree.Leaf.{Leaf}
use Rattle.tree_core.specs.declared.program.TreeItem.{TreeItem}
use Rattle.tree_core.specs.declared.program.TreeItem.TheVariants as tree_item
use Rattle.tree_core.specs.declared.program.TreeFn.{TreeFn}
use Rattle.tree_core.specs.declared.items.Mention.{Mention}
use Rattle.tree_core.specs.declared.items.Mention.TheVariants as mention
use Rattle.tree_core.specs.declared.items.Role.{Role}
use Rattle.tree_core.specs.declared.items.Role.TheVariants as role

-- the label that an attribute names
abbrev pub target_of : Att → Option ℕ
target_of att.Nothing = None
target_of (att.Number n) = None
target_of (att.Object object offset) = None
target_of (att.Slot n) = None
target_of (att.Branch rel label) = Some label
target_of (att.Label label) = Some label
target_of (att.Callee function count) = None

abbrev pub target_of_leaves : List Leaf → Option ℕ
target_of_leaves [] = None
target_of_leaves (l ∷ w) = target_of l.att

-- the label that stands there, and the label of the branch or jump that stands there
abbrev pub label_in : Mention → TreeItem → Option ℕ
label_in mention.Stands (tree_item.Label label) = Some label
label_in mention.Stands (tree_item.Root w) = None
label_in mention.Target (tree_item.Label label) = None
label_in mention.Target (tree_item.Root w) = target_of_leaves w

-- the labels that stand in a function, and those to which its branches and jumps go
abbrev pub labels : Mention → List TreeItem → List ℕ
labels m items = filter_map (label_in m) items

abbrev pub all_labels : List TreeFn → List ℕ
all_labels functions = flat_map (λ f. labels mention.Stands f.items) functions

-- how often a number stands in a list
abbrev pub times : ℕ → List ℕ → ℕ
times n [] = 0
times n (m ∷ ms) = cond (m == n) 1 0 + times n ms

-- what a root does to the pushed arguments
abbrev pub called : Att → Role
called att.Nothing = role.Other
called (att.Number n) = role.Other
called (att.Object object offset) = role.Other
called (att.Slot n) = role.Other
called (att.Branch rel label) = role.Other
called (att.Label label) = role.Other
called (att.Callee function count) = role.Calls count

abbrev pub role_of_token : Tok → Att → Role
role_of_token tok.Push a = role.Pushes
role_of_token tok.Call a = called a
role_of_token tok.Save a = role.Saves
role_of_token t a = role.Other

abbrev pub role_of_leaves : List Leaf → Role
role_of_leaves [] = role.Other
role_of_leaves (l ∷ w) = role_of_token l.tok l.att

abbrev pub role_of : TreeItem → Role
role_of (tree_item.Label label) = role.Other
role_of (tree_item.Root w) = role_of_leaves w

-- all items push
abbrev pub AllPush : List TreeItem → Type 0
AllPush [] = Unit {0}
AllPush (i ∷ is) = (role_of i ≡ role.Pushes) × AllPush is

-- Directly before a call stand as many pushes as its count, a push stands nowhere else, and a save stands only directly behind a call.
pub data CallsInOrder : List TreeItem → Type 0 where
  nothing : CallsInOrder []
  other : (i : TreeItem) (is : List TreeItem) → role_of i ≡ role.Other → CallsInOrder is → CallsInOrder (i ∷ is)
  call : (pushes : List TreeItem) (c : TreeItem) (is all : List TreeItem) → AllPush pushes → role_of c
      ≡ role.Calls (length pushes) → CallsInOrder is → all ≡ pushes ++ c ∷ is → CallsInOrder all
  saved : (pushes : List TreeItem) (c s : TreeItem) (is all : List TreeItem) → AllPush pushes → role_of c
      ≡ role.Calls (length pushes) → role_of s ≡ role.Saves → CallsInOrder is → all ≡ pushes ++ c ∷ s ∷ is → CallsInOrder all

-- how that is decided: how many pushes stand directly before, and whether a call does
abbrev pub after_item : Role → ℕ → Bool → Option (ℕ × Bool)
after_item role.Pushes pushed is_behind = Some (pushed + 1, false)
after_item (role.Calls count) pushed is_behind = cond (pushed == count) (Some (0, true)) None
after_item role.Saves pushed is_behind = cond is_behind (Some (pushed, false)) None
after_item role.Other pushed is_behind = cond (pushed == 0) (Some (pushed, false)) None

abbrev pub goes_on : Option (ℕ × Bool) → (ℕ → Bool → Bool) → Bool
goes_on None rest = false
goes_on (Some s) rest = rest s.0 s.1

abbrev pub in_order : ℕ → Bool → List TreeItem → Bool
in_order pushed is_behind [] = pushed == 0
in_order pushed is_behind (i ∷ is) = goes_on (after_item (role_of i) pushed is_behind) (λ n b. in_order n b is)
