-- Trees as plain data, their leaves in prefix order, and which of them are well typed.
use Rattle.std.specs.Prelude.{◌≡◌, ℕ, zero, suc, List, [], ◌∷◌, ◌++◌, length, Option, Some, None, Bool, false, ◌&&◌, IsTrue, if◌then◌else◌}
use Rattle.tree_core.specs.declared.token.Sort.{Sort}
use Rattle.tree_core.specs.declared.tree.Leaf.{Leaf}
use Rattle.tree_core.specs.declared.tree.Tree.{Tree, Tree', Row_of-Tree, end_of-Tree, more_of-Tree}
use Rattle.tree_core.specs.Grammar.{kids, sort_of, fits}
use Rattle.tree_core.specs.Attributes.{leaf_fits, end_leaf, is_end}

-- Trees one after another: the first one's leaf and the trees below it, and the trees behind it.
pub data Forest : Type 0 where
  none : Forest
  tree : (leaf : Leaf) (below : Forest) (behind : Forest) → Forest

-- their leaves in prefix order, in front of a list
abbrev pub leaves_onto : Forest → List Leaf → List Leaf
leaves_onto none w = w
leaves_onto (tree l below behind) w = l ∷ leaves_onto below (leaves_onto behind w)

-- a leaf may stand where a tree of a sort is wanted
abbrev pub sort_fits : Option Sort → Sort → Bool
sort_fits None x = false
sort_fits (Some s) x = fits s x

abbrev pub stands_for : Leaf → Sort → Bool
stands_for l x = sort_fits (sort_of l.tok) x && leaf_fits l

-- The trees are as many as the sorts, and each may stand where its sort is wanted, with kids that may stand below its token.
abbrev pub Typed : List Sort → Forest → Type 0
Typed [] none = Unit {0}
Typed [] (tree l below behind) = ⊥
Typed (x ∷ xs) none = ⊥
Typed (x ∷ xs) (tree l below behind) = IsTrue (stands_for l x) × Typed (kids l.tok) below × Typed xs behind

-- the leaves are those of one tree of the sort, and one End
pub record IsTyped (w : List Leaf) (x : Sort) : Type 0 where
  pub trees : Forest
  pub typed : Typed (x ∷ []) trees
  pub spelled : leaves_onto trees (end_leaf ∷ []) ≡ w

-- how that is decided: trees of the sorts that are wanted stand one after another, and then one End
abbrev pub walk : List Sort → List Leaf → Bool
walk [] [] = false
walk [] (l ∷ []) = is_end l
walk [] (l ∷ m ∷ w) = false
walk (x ∷ xs) [] = false
walk (x ∷ xs) (l ∷ w) = if stands_for l x then walk (kids l.tok ++ xs) w else false

-- the tree that the program holds, in front of others
abbrev mutual
  pub planted : Tree → Forest → Forest
  planted (Tree' l shape row) behind = tree l (planted_row row) behind

  pub planted_row : {m : _} → Row_of-Tree m → Forest
  planted_row end_of-Tree = none
  planted_row (more_of-Tree t rest) = planted t (planted_row rest)

abbrev pub forest_of : Tree → Forest
forest_of t = planted t none

abbrev pub forest_of_all : List Tree → Forest
forest_of_all [] = none
forest_of_all (t ∷ ts) = planted t (forest_of_all ts)

-- the first trees of a forest, and the trees behind them
abbrev pub firsts : ℕ → Forest → Forest
firsts zero f = none
firsts (suc n) none = none
firsts (suc n) (tree l below behind) = tree l below (firsts n behind)

abbrev pub others : ℕ → Forest → Forest
others zero f = f
others (suc n) none = none
others (suc n) (tree l below behind) = others n behind

-- the trees whose leaves these are: each token takes as many of the trees behind it as it has kids
abbrev pub grown : List Leaf → Forest
grown [] = none
grown (l ∷ w) = tree l (firsts (length (kids l.tok)) (grown w)) (others (length (kids l.tok)) (grown w))

-- one forest in front of another
abbrev pub before : Forest → Forest → Forest
before none g = g
before (tree l below behind) g = tree l below (before behind g)

-- the trees of well-typed leaves are those whose leaves they are
abbrev pub GrowsBack : Type 0
GrowsBack = (xs : List Sort) (f : Forest) (w : List Leaf) → Typed xs f → grown (leaves_onto f w) ≡ before f (grown w)
