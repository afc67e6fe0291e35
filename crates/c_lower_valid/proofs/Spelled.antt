-- Labels of items as they are spelled.
use Rattle.std.proofs.Common.{◌≡◌, ℕ, ◌+◌, ◌<◌, List, [], ◌∷◌, ◌++◌, Option, Some, None, refl, ap, arith}
use Rattle.std.specs.List.{cons_option, filter_map}
use Rattle.c_types.specs.declared.types.Integer.{Integer}
use Rattle.c_types.specs.declared.types.Integer.TheVariants as ints
use Rattle.tree_core.specs.declared.tree.Leaf.{Leaf}
use Rattle.tree_core.specs.declared.program.TreeItem.{TreeItem}
use Rattle.tree_core.specs.declared.program.TreeItem.TheVariants as tree_item
use Rattle.tree_core.specs.declared.program.TreeFn.{TreeFn}
use Rattle.tree_core.specs.Items.{target_of, times, all_labels}
use Rattle.tree_core.specs.Labels.{TargetsStandIn}
use Rattle.tree_core.proofs.Apart.{times-append}
use Rattle.c_lower_scheme.specs.Trees.{Item, Label, AssignLoc, AssignArg, AssignMem, Cbr, Jump, Push, Call, Save, Ret}
use Rattle.c_lower_scheme.specs.Spelling.{spelled, spelled_all}
use Rattle.c_lower_scheme.proofs.Labels.{at, tag, stands}
use Rattle.c_lower_valid.proofs.Marks.{aim, aims}

-- how often a number is the one that may be there
abbrev number_of : Option ℕ → ℕ → ℕ
number_of None n = 0
number_of (Some l) n = at l n

times_more : (o : Option ℕ) (n : ℕ) (ms : List ℕ) → times n (cons_option o ms) ≡ number_of o n + times n ms
times_more None n ms = omega arith
times_more (Some l) n ms = refl

-- a reading of items that finds the labels that stand there
module _ (h : TreeItem → Option ℕ) (on_label : (l : ℕ) → h (tree_item.Label l) ≡ Some l)
    (on_root : (l : Leaf) (w : List Leaf) → h (tree_item.Root (l ∷ w)) ≡ None) where
  stands_there : (i : Item) (n : ℕ) → number_of (h (spelled i)) n ≡ tag i n
  stands_there (Label l) n = ap (λ o. number_of o n) (on_label l)
  stands_there (AssignLoc k w) n = ap (λ o. number_of o n) (on_root _ _)
  stands_there (AssignArg k w) n = ap (λ o. number_of o n) (on_root _ _)
  stands_there (AssignMem i a w) n = memory i
    where
      memory : (i : Integer) → number_of (h (spelled (AssignMem i a w))) n ≡ 0
      memory ints.Char = ap (λ o. number_of o n) (on_root _ _)
      memory ints.UnsignedChar = ap (λ o. number_of o n) (on_root _ _)
      memory ints.Short = ap (λ o. number_of o n) (on_root _ _)
      memory ints.UnsignedShort = ap (λ o. number_of o n) (on_root _ _)
      memory ints.Int = ap (λ o. number_of o n) (on_root _ _)
  stands_there (Cbr r l a b) n = ap (λ o. number_of o n) (on_root _ _)
  stands_there (Jump l) n = ap (λ o. number_of o n) (on_root _ _)
  stands_there (Push w) n = ap (λ o. number_of o n) (on_root _ _)
  stands_there (Call f k) n = ap (λ o. number_of o n) (on_root _ _)
  stands_there (Save k) n = ap (λ o. number_of o n) (on_root _ _)
  stands_there (Ret w) n = ap (λ o. number_of o n) (on_root _ _)

  stands_all : (n : ℕ) (is : List Item) → times n (filter_map h (spelled_all is)) ≡ stands n is
  stands_all n [] = refl
  stands_all n (i ∷ is) = omega (arith, times_more (h (spelled i)) n (filter_map h (spelled_all is)), stands_there i n, stands_all n is)

  stands_before : (n : ℕ) (is : List Item) (ms : List ℕ) → times n (filter_map h (spelled_all is) ++ ms) ≡ stands n is + times n ms
  stands_before n is ms = omega (arith, times-append n (filter_map h (spelled_all is)) ms, stands_all n is)

-- one that finds the labels to which they go
module _ (h : TreeItem → Option ℕ) (on_label : (l : ℕ) → h (tree_item.Label l) ≡ None)
    (on_root : (l : Leaf) (w : List Leaf) → h (tree_item.Root (l ∷ w)) ≡ target_of l.att) where
  aims_there : (i : Item) (n : ℕ) → number_of (h (spelled i)) n ≡ aim i n
  aims_there (Label l) n = ap (λ o. number_of o n) (on_label l)
  aims_there (AssignLoc k w) n = ap (λ o. number_of o n) (on_root _ _)
  aims_there (AssignArg k w) n = ap (λ o. number_of o n) (on_root _ _)
  aims_there (AssignMem i a w) n = memory i
    where
      memory : (i : Integer) → number_of (h (spelled (AssignMem i a w))) n ≡ 0
      memory ints.Char = ap (λ o. number_of o n) (on_root _ _)
      memory ints.UnsignedChar = ap (λ o. number_of o n) (on_root _ _)
      memory ints.Short = ap (λ o. number_of o n) (on_root _ _)
      memory ints.UnsignedShort = ap (λ o. number_of o n) (on_root _ _)
      memory ints.Int = ap (λ o. number_of o n) (on_root _ _)
  aims_there (Cbr r l a b) n = ap (λ o. number_of o n) (on_root _ _)
  aims_there (Jump l) n = ap (λ o. number_of o n) (on_root _ _)
  aims_there (Push w) n = ap (λ o. number_of o n) (on_root _ _)
  aims_there (Call f k) n = ap (λ o. number_of o n) (on_root _ _)
  aims_there (Save k) n = ap (λ o. number_of o n) (on_root _ _)
  aims_there (Ret w) n = ap (λ o. number_of o n) (on_root _ _)

  aims_all : (n : ℕ) (is : List Item) → times n (filter_map h (spelled_all is)) ≡ aims n is
  aims_all n [] = refl
  aims_all n (i ∷ is) = omega (arith, times_more (h (spelled i)) n (filter_map h (spelled_all is)), aims_there i n, aims_all n is)

there : (h : TreeItem → Option ℕ) → ((l : ℕ) → h (tree_item.Label l) ≡ Some l) → ((l : Leaf) (w : List Leaf) → h (tree_item.Root (l ∷ w)) ≡ None)
    → (n : ℕ) (is : List Item) → 0 < stands n is → 0 < times n (filter_map h (spelled_all is))
there h a b n is lt = omega (arith, stands_all h a b n is)

gone_to : (h : TreeItem → Option ℕ) → ((l : ℕ) → h (tree_item.Label l) ≡ None)
    → ((l : Leaf) (w : List Leaf) → h (tree_item.Root (l ∷ w)) ≡ target_of l.att) → (n : ℕ) (is : List Item)
    → 0 < times n (filter_map h (spelled_all is)) → 0 < aims n is
gone_to h a b n is lt = omega (arith, aims_all h a b n is)

-- each label to which items go stands among them
pub targets_stand : (is : List Item) → ((n : ℕ) → 0 < aims n is → 0 < stands n is) → TargetsStandIn (spelled_all is)
targets_stand is h = λ n lt. there _ (λ l. refl) (λ l w. refl) n is (h n (gone_to _ (λ l. refl) (λ l w. refl) n is lt))

-- the labels of a function, in front of those of others
pub labels_before : (name : List ℕ) (args locals : ℕ) (wanted : List ℕ) (is : List Item) (fs : List TreeFn) (n : ℕ)
    → times n (all_labels (record { name = name; args = args; locals = locals; wanted = wanted; items = spelled_all is } ∷ fs)) ≡ stands n is + times n
    (all_labels fs)
labels_before name args locals wanted is fs n = stands_before _ (λ l. refl) (λ l w. refl) n is (all_labels fs)
