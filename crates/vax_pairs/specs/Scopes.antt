-- The symbols of a state on terms are among the first ones.
use Rattle.std.specs.Prelude.{ℕ, ◌<◌, ◌^◌, List, [], ◌∷◌}
use Rattle.term_core.specs.Shape.{Shape, Constant, Symbol, LastResult, Memory, Unary, Binary}
use Rattle.vax_pairs.specs.TermStates.{Signs, SignsBefore, Tests, Compares, Carry, CarryBefore, Off, Below, Made, TermState}

abbrev pub Under : ℕ → Shape → Type 0
Under n (Constant k) = Unit {0}
Under n (Symbol i) = i < n
Under n LastResult = Unit {0}
Under n (Memory size a) = Unit {0}
Under n (Unary op t) = Under n t
Under n (Binary op a b) = Under n a × Under n b

abbrev pub AllUnder : ℕ → List Shape → Type 0
AllUnder n [] = Unit {0}
AllUnder n (t ∷ ts) = Under n t × AllUnder n ts

abbrev pub SignsUnder : ℕ → Signs → Type 0
SignsUnder n SignsBefore = Unit {0}
SignsUnder n (Tests size t) = Under n t
SignsUnder n (Compares size a b) = Under n a × Under n b

abbrev pub CarryUnder : ℕ → Carry → Type 0
CarryUnder n CarryBefore = Unit {0}
CarryUnder n Off = Unit {0}
CarryUnder n (Below a b) = Under n a × Under n b
CarryUnder n (Made f a b) = Under n a × Under n b

pub record Scoped (n : ℕ) (s : TermState) : Type 0 where
  pub registers : AllUnder n s.registers
  pub signs : SignsUnder n s.signs
  pub carry : CarryUnder n s.carry

-- a term without memory, whose constants are longwords
abbrev pub IsPlain : Shape → Type 0
IsPlain (Constant n) = n < 2 ^ 32
IsPlain (Symbol i) = Unit {0}
IsPlain LastResult = ⊥
IsPlain (Memory size a) = ⊥
IsPlain (Unary op t) = IsPlain t
IsPlain (Binary op a b) = IsPlain a × IsPlain b
