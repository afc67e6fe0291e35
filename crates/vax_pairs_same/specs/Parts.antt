-- What is seen to be the same of two trees, part by part.
use Rattle.std.specs.Prelude.{◌≡◌, ◌⊎◌, ℕ, ◌+◌, ◌<◌, Bool, true, false, List, [], ◌∷◌, length, Some, slice_get}
use Rattle.term_core.specs.Shape.{Constant}
use Rattle.vax_core.specs.declared.code.CodeItem.{CodeItem}
use Rattle.vax_machine.specs.Labels.{next_item}
use Rattle.vax_machine.specs.Calls.{entry_mask}
use Rattle.vax_machine.specs.declared.function.Test.{Test}
use Rattle.vax_machine.specs.declared.function.Test.TheVariants as test
use Rattle.vax_pairs.specs.Events.{Event}
use Rattle.vax_pairs.specs.SameTrees.{Agree, SameEvent}
use Rattle.vax_pairs.specs.TermStates.{Signs, Tests, Compares, Carry, Made, TermState, term_at}
use Rattle.vax_pairs.specs.Facts.{Fact, Equal, First, Second, Outlasts}
use Rattle.vax_pairs_checked.specs.Accepted.{Cut, IsCut}

-- events are the same, one by one
abbrev pub SameEvents : List Event → List Event → Type 0
SameEvents [] [] = Unit {0}
SameEvents [] (f ∷ fs) = ⊥
SameEvents (e ∷ es) [] = ⊥
SameEvents (e ∷ es) (f ∷ fs) = SameEvent e f × SameEvents es fs

-- both states have fifteen registers, and the same ap, fp and sp
pub record SameControl (s t : TermState) : Type 0 where
  pub long : length s.registers ≡ 15
  pub others_long : length t.registers ≡ 15
  pub ap : Agree (term_at t 12) (term_at s 12)
  pub fp : Agree (term_at t 13) (term_at s 13)
  pub sp : Agree (term_at t 14) (term_at s 14)

-- a fact holds of two states on terms
abbrev pub HoldsOn : Fact → TermState → TermState → Type 0
HoldsOn (Equal q r) s t = (q < 12) × ((r < 12) × Agree (term_at t q) (term_at s r))
HoldsOn (First r v) s t = (r < 12) × Agree (term_at s r) (Constant v)
HoldsOn (Second r v) s t = (r < 12) × Agree (term_at t r) (Constant v)

abbrev pub AllHold : List Fact → TermState → TermState → Type 0
AllHold [] s t = Unit {0}
AllHold (f ∷ fs) s t = HoldsOn f s t × AllHold fs s t

-- N and Z are those of one number at a size, or of one comparison
abbrev pub SameSigns : Signs → Signs → Type 0
SameSigns (Tests z a) (Tests y b) = (z ≡ y) × Agree a b
SameSigns (Compares z a b) (Compares y c d) = (z ≡ y) × (Agree a c × Agree b d)
SameSigns s t = ⊥

-- C is as one function leaves it
abbrev pub SameCarry : Carry → Carry → Type 0
SameCarry (Made f a b) (Made g c d) = (f ≡ g) × (Agree a c × Agree b d)
SameCarry s t = ⊥

-- a test reads C
abbrev pub reads_carry : Test → Bool
reads_carry test.LessUnsigned = true
reads_carry test.LessOrEqualUnsigned = true
reads_carry test.GreaterUnsigned = true
reads_carry test.GreaterOrEqualUnsigned = true
reads_carry t = false

-- C is the same, where a test reads it
abbrev pub CarryFor : Test → Carry → Carry → Type 0
CarryFor t a b = reads_carry t ≡ true → SameCarry a b

-- both machines have the same r0
abbrev pub IsSameResult : Fact → Type 0
IsSameResult (Equal q r) = (q ≡ 0) × (r ≡ 0)
IsSameResult (First r v) = ⊥
IsSameResult (Second r v) = ⊥

-- a fact holds behind a call that is made in two states: r0 is what the call gives, and a fact about registers that are kept holds before
abbrev pub Lasts : Fact → TermState → TermState → Type 0
Lasts f s t = IsSameResult f ⊎ (Outlasts f × HoldsOn f s t)

abbrev pub AllLast : List Fact → TermState → TermState → Type 0
AllLast [] s t = Unit {0}
AllLast (f ∷ fs) s t = Lasts f s t × AllLast fs s t

-- behind the label at a place, and behind others, an entry mask stands in front of a place
abbrev pub IsEntry : List CodeItem → (label place mask : ℕ) → Type 0
IsEntry items label place mask = (place ≡ next_item items label + 1) × (entry_mask (slice_get items (next_item items label)) ≡ Some mask)

-- calls to two places come to the same mask, and behind it to a cut at which nothing is known
pub record BothEnter (cuts : List Cut) (cs ds : List CodeItem) (place other : ℕ) : Type 0 where
  pub mask : entry_mask (slice_get ds (next_item ds other)) ≡ entry_mask (slice_get cs (next_item cs place))
  pub rank : ℕ
  pub into : IsCut cuts rank (next_item cs place + 1) (next_item ds other + 1) []
