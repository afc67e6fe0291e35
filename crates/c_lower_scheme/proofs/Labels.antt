-- How often a label stands among items.
use Rattle.std.proofs.Common.{◌≡◌, ℕ, ◌+◌, List, [], ◌∷◌, ◌++◌, ap, arith, ◌⊎◌, inl, inr, ⊎_elim}
use Rattle.std.specs.Prelude.{◌==◌, cond}
use Rattle.std.proofs.lemmas.Bool.{cases_eq, eq-eqb, ne_eqb}
use Rattle.c_lower_scheme.specs.Trees.{Item, Label, AssignLoc, AssignArg, AssignMem, Cbr, Jump, Push, Call, Save, Ret}

-- whether a number is a label's
abbrev pub at : ℕ → ℕ → ℕ
at l m = cond (l == m) 1 0

pub tag_by : (l m : ℕ) → ((l ≡ m) × (at l m ≡ 1)) ⊎ ((l ≡ m → ⊥) × (at l m ≡ 0))
tag_by l m = ⊎_elim (λ e. inl (e, ap (λ b. cond b 1 0) (eq-eqb l m e))) (λ n. inr (n, ap (λ b. cond b 1 0) (ne_eqb l m n))) (cases_eq l m)

-- whether an item is a label, as a number
abbrev pub tag : Item → ℕ → ℕ
tag (Label l) m = at l m
tag (AssignLoc n w) m = 0
tag (AssignArg n w) m = 0
tag (AssignMem i a w) m = 0
tag (Cbr r l a b) m = 0
tag (Jump l) m = 0
tag (Push w) m = 0
tag (Call f n) m = 0
tag (Save n) m = 0
tag (Ret w) m = 0

-- how often a label stands among items
abbrev pub stands : ℕ → List Item → ℕ
stands m [] = 0
stands m (i ∷ is) = tag i m + stands m is

pub stands_append : (m : ℕ) (a b : List Item) → stands m (a ++ b) ≡ stands m a + stands m b
stands_append m [] b = omega arith
stands_append m (i ∷ a) b = let h = stands_append m a b in omega arith
