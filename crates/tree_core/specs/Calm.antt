-- Trees in which no memory is read behind a division, so that a zero divisor traps before any access can be wild.
use Rattle.std.specs.Prelude.{◌≡◌, List, [], Bool, true, false}
use Rattle.std.specs.List.{list_any}
use Rattle.tree_core.specs.declared.token.Tok.{Tok}
use Rattle.tree_core.specs.declared.token.Tok.TheVariants as tok
use Rattle.tree_core.specs.declared.tree.Leaf.{Leaf}
use Rattle.tree_core.specs.Trees.{Forest, none, tree, leaves_onto, grown}

abbrev pub divides : Tok → Bool
divides tok.Div = true
divides tok.Mod = true
divides t = false

abbrev pub reads_memory : Tok → Bool
reads_memory tok.IndirB = true
reads_memory tok.IndirW = true
reads_memory tok.IndirL = true
reads_memory t = false

-- no Indir stands among leaves
abbrev pub ReadsNothing : List Leaf → Type 0
ReadsNothing w = list_any (λ l. reads_memory l.tok) w ≡ false

-- For each Div or Mod of the trees, no Indir stands among the leaves behind its own tree: those of the trees behind it,
-- and those in front of which the trees stand.
abbrev pub CalmBefore : Forest → List Leaf → Type 0
CalmBefore none w = Unit {0}
CalmBefore (tree l below behind) w = (divides l.tok ≡ true → ReadsNothing (leaves_onto behind w))
    × CalmBefore below (leaves_onto behind w) × CalmBefore behind w

abbrev pub Calm : List Leaf → Type 0
Calm w = CalmBefore (grown w) []
