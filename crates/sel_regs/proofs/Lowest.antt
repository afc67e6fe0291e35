-- The lowest free register, as `find` finds it.
use Rattle.std.proofs.Common.{◌≡◌, ℕ, ◌<◌, ◌≤◌, List, length, Option, Some, None, arith}
use Rattle.std.specs.Prelude.{slice_get, IfSome}
use Rattle.std.specs.Option.{MatchOption}
use Rattle.std.proofs.lemmas.Option.{slice_get_within}
use Rattle.sel_regs.specs.declared.pool.Register.{Register}
use Rattle.sel_regs.specs.declared.pool.Register.TheVariants.{Free}

abbrev pub IsFreeAt : List Register → ℕ → Type 0
IsFreeAt all r = slice_get all r ≡ Some Free

abbrev pub Found : List Register → Option ℕ → Type 0
Found all r = MatchOption r ((k : ℕ) → 0 ≤ k → k < 16 → IsFreeAt all k → ⊥)
    (λ i. (0 ≤ i) × (i < 16) × IsFreeAt all i × ((k : ℕ) → 0 ≤ k → k < i → IsFreeAt all k → ⊥))

pub none_is_free : (all : List Register) (r : Option ℕ) → length all ≡ 16 → Found all r → r ≡ None → (k : ℕ) → IsFreeAt all k → ⊥
none_is_free all None long found none k at = found k (omega arith) (omega (arith, long, slice_get_within all k Free at)) at
none_is_free all (Some i) long found none k at = absurd (cc)

pub found_is_free : (all : List Register) (r : Option ℕ) → Found all r → IfSome r (IsFreeAt all)
found_is_free all None found = tt
found_is_free all (Some i) found = found.2

pub found_is_lowest : (all : List Register) (r : Option ℕ) → Found all r → IfSome r (λ i. (q : ℕ) → q < i → IsFreeAt all q → ⊥)
found_is_lowest all None found = tt
found_is_lowest all (Some i) found = λ q below. found.3 q (omega arith) below
