-- Lists of lists that are made byte by byte.
use Rattle.std.specs.Prelude.{ℕ, List, [], ◌∷◌, Option, Some, None}

-- a byte in front of the first of these lists
abbrev pub put_front : ℕ → List (List ℕ) → List (List ℕ)
put_front b [] = (b ∷ []) ∷ []
put_front b (l ∷ ls) = (b ∷ l) ∷ ls

-- a list, from its first element and the others
abbrev pub list_of : {A : Type 0} → Option (A × List A) → List A
list_of None = []
list_of (Some x) = x.0 ∷ x.1
