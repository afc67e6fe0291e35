-- Lists of tokens that are typed trees.
use Rattle.std.specs.Prelude.{List, [], ◌∷◌, ◌++◌, IsTrue}
use Rattle.tree_core.specs.declared.token.Tok.{Tok}
use Rattle.tree_core.specs.declared.token.Sort.{Sort}
use Rattle.tree_core.specs.declared.token.Sort.TheVariants as sort
use Rattle.tree_core.specs.Grammar.{kids, sort_of}
use Rattle.tree_core.specs.Trees.{sort_fits}

-- trees of these sorts stand one after another: each begins with a token that may stand where its sort is wanted, and
-- its kids' trees follow
pub data AreTyped : List Sort → List Tok → Type 0 where
  ends : AreTyped [] []
  begins : {x : Sort} {xs : List Sort} {w : List Tok} (t : Tok) →
      IsTrue (sort_fits (sort_of t) x) → AreTyped (kids t ++ xs) w →
      AreTyped (x ∷ xs) (t ∷ w)

-- a typed statement tree
abbrev pub IsStatement : List Tok → Type 0
IsStatement w = AreTyped (sort.Stmt ∷ []) w
