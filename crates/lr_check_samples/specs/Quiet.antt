-- A missing answer is no: stacks that answer alike, and stacks all of whose answers are no.
use Rattle.std.specs.Prelude.{◌≡◌, ℕ, zero, suc, List, [], ◌∷◌, Bool, false}
use Rattle.md_reader.specs.declared.types.Sym.{Sym}
use Rattle.lr_check.specs.Parse.{Part}

-- the answer to the question with this number
abbrev pub answer_at : List Bool → ℕ → Bool
answer_at [] n = false
answer_at (b ∷ bs) zero = b
answer_at (b ∷ bs) (suc n) = answer_at bs n

abbrev pub SameAnswers : List Bool → List Bool → Type 0
SameAnswers b c = (n : ℕ) → answer_at b n ≡ answer_at c n

-- the same symbols, whose nodes answer alike
abbrev pub AreAlike : List Part → List Part → Type 0
AreAlike [] [] = Unit {0}
AreAlike [] (g ∷ b) = ⊥
AreAlike (h ∷ a) [] = ⊥
AreAlike (h ∷ a) (g ∷ b) = (h.symbol ≡ g.symbol) × SameAnswers h.answers g.answers × AreAlike a b

-- symbols without answers
abbrev pub bare : List Sym → List Part
bare [] = []
bare (X ∷ s) = record { symbol = X; answers = [] } ∷ bare s

-- a stack of these symbols, whose nodes answer no to all
abbrev pub IsQuiet : List Sym → List Part → Type 0
IsQuiet s z = AreAlike (bare s) z
