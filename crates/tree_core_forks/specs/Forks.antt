-- Forks: tokens with two kids. While one kid's value waits for the other's, code holds it, so forks bound what code for a tree needs.
use Rattle.std.specs.Prelude.{ℕ, ◌+◌, List, [], ◌∷◌}
use Rattle.tree_core.specs.declared.token.Sort.{Sort}
use Rattle.tree_core.specs.declared.tree.Leaf.{Leaf}
use Rattle.tree_core.specs.Grammar.{kids}

-- one for a token with two kids
abbrev pub fork : List Sort → ℕ
fork [] = 0
fork (a ∷ []) = 0
fork (a ∷ b ∷ more) = 1

-- how many of a tree's leaves have two kids
abbrev pub forks : List Leaf → ℕ
forks [] = 0
forks (l ∷ w) = fork (kids l.tok) + forks w
