-- How a sample is printed: a line for each node, with its number, its token, its kids' numbers and its answers.
use Rattle.std.specs.Prelude.{ℕ, ◌+◌, List, [], ◌∷◌, ◌++◌, Bool, true, false, codes}
use Rattle.std.specs.List.{flat_map}
use Rattle.std.specs.Fmt.{decimal}
use Rattle.tree_core.specs.Names.{name_of}
use Rattle.lr_check.specs.Tree.{Node}

abbrev pub kid_word : ℕ → List ℕ
kid_word k = codes " " ++ decimal k

abbrev pub answer_letter : Bool → List ℕ
answer_letter true = codes "y"
answer_letter false = codes "n"

-- nothing, where there are no answers
abbrev pub answer_word : List Bool → List ℕ
answer_word [] = []
answer_word (b ∷ bs) = codes " " ++ flat_map answer_letter (b ∷ bs)

abbrev pub node_line : ℕ → Node → List ℕ
node_line n v = codes "  " ++ (decimal n ++ (codes " " ++ (name_of v.tok
    ++ (flat_map kid_word v.kids ++ (answer_word v.answers ++ codes "\n")))))

-- nodes are counted on from a number
abbrev pub lines_from : ℕ → List Node → List ℕ
lines_from n [] = []
lines_from n (v ∷ vs) = node_line n v ++ lines_from (n + 1) vs

abbrev pub sample_lines : List Node → List ℕ
sample_lines nodes = lines_from 0 nodes
