-- What a part of the walk answers, by the definition that computes it.
use Rattle.std.specs.Prelude.{◌≡◌, ℕ, Option, Some, Result, Ok, Err}
use Rattle.vax_pairs_walk.specs.declared.gap.Gap.{Gap}

-- it is what is wanted, or nothing is said
abbrev pub Gives : {X Y : Type 0} → (X → Y) → Result X Gap → Option Y → Type 0
Gives view (Ok x) wanted = wanted ≡ Some (view x)
Gives view (Err e) wanted = Unit {0}

-- a number as it is
abbrev pub itself : ℕ → ℕ
itself n = n

-- it is what is wanted, and so is the front behind it, or nothing is said
abbrev pub Leads : {X Y Z : Type 0} → (X → Y) → Result X Gap → Z → Option (Y × Z) → Type 0
Leads view (Ok x) behind wanted = wanted ≡ Some (view x, behind)
Leads view (Err e) behind wanted = Unit {0}
