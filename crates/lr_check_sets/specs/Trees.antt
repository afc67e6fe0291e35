-- Typed trees whose nodes carry answers, and their tokens in prefix order.
use Rattle.std.specs.Prelude.{◌≡◌, List, [], ◌∷◌, Bool, true}
use Rattle.tree_core.specs.declared.token.Tok.{Tok}
use Rattle.tree_core.specs.declared.token.Sort.{Sort}
use Rattle.tree_core.specs.Grammar.{kids, sort_of}
use Rattle.tree_core.specs.Trees.{sort_fits}

-- a tree that begins with the token may stand where the sort is wanted
abbrev pub may : Tok → Sort → Bool
may k x = sort_fits (sort_of k) x

abbrev pub May : Tok → Sort → Type 0
May k x = may k x ≡ true

-- a well-typed tree, whose nodes carry the answers to their questions, and a list of them
mutual
  pub data Tree : Sort → Type 0 where
    node : {x : Sort} (k : Tok) → May k x → List Bool → Trees (kids k) → Tree x

  pub data Trees : List Sort → Type 0 where
    no_trees : Trees []
    more_trees : {x : Sort} {xs : List Sort} → Tree x → Trees xs → Trees (x ∷ xs)

-- the tokens of a tree, in front of a list of tokens
abbrev mutual
  pub onto : {x : Sort} → Tree x → List Tok → List Tok
  onto (node k m answers vs) w = k ∷ onto_all vs w

  pub onto_all : {xs : List Sort} → Trees xs → List Tok → List Tok
  onto_all no_trees w = w
  onto_all (more_trees v vs) w = onto v (onto_all vs w)

-- the first token of a tree
abbrev pub root : {x : Sort} → Tree x → Tok
root (node k m answers vs) = k

-- the tokens that may come next, where trees of these sorts are to come and then the token
abbrev pub Begins : List Sort → Tok → Tok → Type 0
Begins [] t n = n ≡ t
Begins (x ∷ xs) t n = May n x

-- the token that comes next before these trees and then the token
abbrev pub first : {xs : List Sort} → Trees xs → Tok → Tok
first no_trees t = t
first (more_trees v vs) t = root v
