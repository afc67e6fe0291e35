-- A parse whose questions are answered by lists: each leaf comes with the answers to its node's questions, which are
-- used one after another.
use Rattle.std.specs.Prelude.{◌≡◌, ℕ, zero, suc, ◌-◌, List, [], ◌∷◌, Some, Bool, length, map, drop}
use Rattle.md_reader.specs.declared.types.Rule.{Rule}
use Rattle.lr_check.specs.declared.sample.Outcome.{Outcome}
use Rattle.lr_check.specs.declared.sample.Outcome.TheVariants as outcome
use Rattle.lr_check.specs.Tree.{Token}
use Rattle.lr_check.specs.Parse.{Part, answer}
use Rattle.lr_check_parse.specs.Moves.{Answering, Ending, Accepts, Blocks, Loops, Refuses}

-- the answers beside the stack's symbols, those of the top first
abbrev pub Lists : Type 0
Lists = List (List Bool)

-- those at a depth; none are beside no symbol
abbrev pub list_at : ℕ → Lists → List Bool
list_at depth [] = []
list_at zero (l ∷ x) = l
list_at (suc depth) (l ∷ x) = list_at depth x

abbrev pub used : ℕ → Lists → Lists
used depth [] = []
used zero (l ∷ x) = drop 1 l ∷ x
used (suc depth) (l ∷ x) = l ∷ used depth x

-- the node that a right side covers begins where its first symbol does
abbrev pub first_of : Rule → ℕ
first_of r = length r.right - 1

abbrev pub by_lists : Answering Token Lists
by_lists = record {
  token = λ w. w.tok;
  says = λ r x. answer (list_at (first_of r) x);
  asked = λ r x. used (first_of r) x;
  shifted = λ w x. w.answers ∷ x;
  reduced = λ n r x. Some (list_at (first_of r) x ∷ drop (length r.right) x);
}

-- what stands beside the symbols of a stack
abbrev pub answers_of : List Part → Lists
answers_of s = map (λ (p : Part). p.answers) s

-- the same end
abbrev pub EndsSo : {X : Type 0} → Ending X → Outcome → Type 0
EndsSo (Accepts x) o = o ≡ outcome.Done
EndsSo (Blocks at) o = o ≡ outcome.Blocks at
EndsSo (Loops at) o = o ≡ outcome.Loops at
EndsSo Refuses o = ⊥
