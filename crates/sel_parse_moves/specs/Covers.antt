-- Which part of a tree a symbol covers, and by which moves.
use Rattle.std.specs.Prelude.{◌≡◌, ℕ, List, [], ◌∷◌, ◌++◌, Some, true, slice_get}
use Rattle.tree_core.specs.declared.token.Sort.{Sort}
use Rattle.tree_core.specs.declared.tree.Leaf.{Leaf}
use Rattle.tree_core.specs.Attributes.{leaf_fits}
use Rattle.tree_core.specs.Trees.{Forest, none, tree, leaves_onto}
use Rattle.md_reader.specs.declared.types.Class.{Class}
use Rattle.md_reader.specs.declared.types.Rule.{Rule}
use Rattle.md_reader.specs.declared.types.Sym.{Sym}
use Rattle.md_reader.specs.declared.types.Sym.TheVariants as grammar_symbol
use Rattle.md_reader.specs.Patterns.{sort_of_symbol, kids_of, Trees, no_tree, node, onto, sorted_test}
use Rattle.lr_check_parse.specs.Moves.{Move, Shift, Reduce}

module _ (classes : List Class) (rules : List Rule) where
  mutual
    -- the class covers the tree: the tree is a rule's pattern, whose classes cover the trees in their places
    pub data Covers : ℕ → Leaf → Forest → List (Move Leaf) → Type 0 where
      by_rule : {l : Leaf} {below : Forest} {ms : List (Move Leaf)} {x : Sort} (n : ℕ) (r : Rule)
          (pattern : Trees (sorted_test classes) (x ∷ [])) →
          slice_get rules n ≡ Some r → sort_of_symbol classes (grammar_symbol.Class r.left) ≡ Some x → onto pattern [] ≡ r.right →
          Fills (x ∷ []) pattern (tree l below none) ms →
          Covers r.left l below (ms ++ Reduce n ∷ [])

    -- the trees are the patterns, in which a token is a leaf and a class covers a tree; and the moves from the first symbol to the last
    pub data Fills : (xs : List Sort) → Trees (sorted_test classes) xs → Forest → List (Move Leaf) → Type 0 where
      nothing : Fills [] no_tree none []
      token : {x : Sort} {xs : List Sort} {f g : Forest} {ms ns : List (Move Leaf)} (l : Leaf)
          (passes : sorted_test classes (grammar_symbol.Tok l.tok) x ≡ true)
          (below : Trees (sorted_test classes) (kids_of (grammar_symbol.Tok l.tok))) (beside : Trees (sorted_test classes) xs)
          → leaf_fits l ≡ true →
          Fills (kids_of (grammar_symbol.Tok l.tok)) below f ms → Fills xs beside g ns →
          Fills (x ∷ xs) (node (grammar_symbol.Tok l.tok) passes below beside) (tree l f g) (Shift l ∷ (ms ++ ns))
      class : {x : Sort} {xs : List Sort} {f g : Forest} {ms ns : List (Move Leaf)} {l : Leaf} (c : ℕ)
          (passes : sorted_test classes (grammar_symbol.Class c) x ≡ true)
          (below : Trees (sorted_test classes) []) (beside : Trees (sorted_test classes) xs) →
          Covers c l f ms → Fills xs beside g ns →
          Fills (x ∷ xs) (node (grammar_symbol.Class c) passes below beside) (tree l f g) (ms ++ ns)

  -- the symbols of a stack, the lowest first, cover the leaves one after another
  pub data Parts : List Sym → List Leaf → List (Move Leaf) → Type 0 where
    empty : Parts [] [] []
    token : {a : List Sym} {w : List Leaf} {ms : List (Move Leaf)} (l : Leaf) → leaf_fits l ≡ true →
        Parts a w ms →
        Parts (grammar_symbol.Tok l.tok ∷ a) (l ∷ w) (Shift l ∷ ms)
    class : {c : ℕ} {a : List Sym} {l : Leaf} {f : Forest} {w : List Leaf} {ms ns : List (Move Leaf)} →
        Covers c l f ms → Parts a w ns →
        Parts (grammar_symbol.Class c ∷ a) (l ∷ leaves_onto f w) (ms ++ ns)

  -- the same of a stack whose top stands first
  pub data Pile : List Sym → List Leaf → List (Move Leaf) → Type 0 where
    empty : Pile [] [] []
    token : {a : List Sym} {w : List Leaf} {ms : List (Move Leaf)} (l : Leaf) → leaf_fits l ≡ true →
        Pile a w ms →
        Pile (grammar_symbol.Tok l.tok ∷ a) (w ++ l ∷ []) (ms ++ Shift l ∷ [])
    class : {c : ℕ} {a : List Sym} {l : Leaf} {f : Forest} {w : List Leaf} {ms ns : List (Move Leaf)} →
        Pile a w ms → Covers c l f ns →
        Pile (grammar_symbol.Class c ∷ a) (w ++ (l ∷ leaves_onto f [])) (ms ++ ns)

  -- the class covers the tree with these leaves
  pub record CoversAll (c : ℕ) (w : List Leaf) (ms : List (Move Leaf)) : Type 0 where
    pub leaf : Leaf
    pub below : Forest
    pub covers : Covers c leaf below ms
    pub spelled : leaf ∷ leaves_onto below [] ≡ w
