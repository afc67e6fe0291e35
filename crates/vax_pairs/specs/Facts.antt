-- The relation of two machines at places that stand to each other: a list of facts about r0 to r11.
use Rattle.std.specs.Prelude.{◌≡◌, ◌⊎◌, ℕ, ◌+◌, ◌<◌, ◌≤◌, ◌==◌, List, [], ◌∷◌, slice_index, if◌then◌else◌}
use Rattle.term_core.specs.Shape.{Shape, Constant, Symbol}
use Rattle.vax_pairs.specs.Standing.{Seen}
use Rattle.vax_pairs.specs.TermStates.{TermState, SignsBefore, CarryBefore}

pub data Fact : Type 0 where
  -- register `second` of the second machine has what register `first` of the first has
  Equal : (second first : ℕ) → Fact
  -- a register of the first machine, or of the second, has this number
  First : (r v : ℕ) → Fact
  Second : (r v : ℕ) → Fact

abbrev pub IsSo : Fact → Seen → Seen → Type 0
IsSo (Equal q r) a b = (q < 12) × ((r < 12) × (slice_index b.registers q ≡ slice_index a.registers r))
IsSo (First r v) a b = (r < 12) × (slice_index a.registers r ≡ v)
IsSo (Second r v) a b = (r < 12) × (slice_index b.registers r ≡ v)

abbrev pub AreSo : List Fact → Seen → Seen → Type 0
AreSo [] a b = Unit {0}
AreSo (f ∷ fs) a b = IsSo f a b × AreSo fs a b

-- a fact speaks of registers that a call saves, or of the result
abbrev pub Outlasts : Fact → Type 0
Outlasts (Equal q r) = ((2 ≤ q) × ((q < 12) × ((2 ≤ r) × (r < 12)))) ⊎ ((q ≡ 0) × (r ≡ 0))
Outlasts (First r v) = (2 ≤ r) × (r < 12)
Outlasts (Second r v) = (2 ≤ r) × (r < 12)

-- ---- the states on terms with which pieces begin: symbols 0 to 14 are the first machine's registers, 15 to 29 the second's

abbrev pub first_term : List Fact → ℕ → Shape
first_term [] r = Symbol r
first_term (First q v ∷ fs) r = if q == r then Constant v else first_term fs r
first_term (Equal q p ∷ fs) r = first_term fs r
first_term (Second q v ∷ fs) r = first_term fs r

abbrev pub second_term : List Fact → ℕ → Shape
second_term [] r = Symbol (15 + r)
second_term (First q v ∷ fs) r = second_term fs r
second_term (Equal q p ∷ fs) r = if q == r then Symbol p else second_term fs r
second_term (Second q v ∷ fs) r = if q == r then Constant v else second_term fs r

abbrev pub first_begins : List Fact → TermState
first_begins fs = record {
  registers = first_term fs 0 ∷ (first_term fs 1 ∷ (first_term fs 2 ∷ (first_term fs 3 ∷ (first_term fs 4 ∷ (first_term fs 5 ∷
      (first_term fs 6 ∷ (first_term fs 7 ∷ (first_term fs 8 ∷ (first_term fs 9 ∷ (first_term fs 10 ∷ (first_term fs 11 ∷
      (Symbol 12 ∷ (Symbol 13 ∷ (Symbol 14 ∷ []))))))))))))));
  signs = SignsBefore;
  carry = CarryBefore;
}

abbrev pub second_begins : List Fact → TermState
second_begins fs = record {
  registers = second_term fs 0 ∷ (second_term fs 1 ∷ (second_term fs 2 ∷ (second_term fs 3 ∷ (second_term fs 4 ∷ (second_term fs 5 ∷
      (second_term fs 6 ∷ (second_term fs 7 ∷ (second_term fs 8 ∷ (second_term fs 9 ∷ (second_term fs 10 ∷ (second_term fs 11 ∷
      (Symbol 12 ∷ (Symbol 13 ∷ (Symbol 14 ∷ []))))))))))))));
  signs = SignsBefore;
  carry = CarryBefore;
}
