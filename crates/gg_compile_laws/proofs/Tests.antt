-- Tests of each element, and which names can be spelled.
use Rattle.std.proofs.Common.{◌≡◌, ℕ, ◌^◌, ◌<◌, Bool, true, List, [], ◌∷◌, length, refl, arith}
use Rattle.std.specs.Prelude.{nat_le}
use Rattle.std.specs.Fmt.{decimal}
use Rattle.std.specs.List.{list_all, AllByRecursion as All}
use Rattle.std.proofs.lemmas.Bool.{le-leb, and_from, and_parts}
use Rattle.std.proofs.lemmas.Fmt.{length-decimal-le}
use Rattle.gg_base.specs.Names.{is_name_part}
use Rattle.tree_core.specs.Names.{label_name}
use Rattle.gg_base.proofs.Names.{digits_are_parts}
use Rattle.vax_core.specs.Valid.{is_name}

-- ---- all elements

pub all_true : {X : Type 0} (p : X → Bool) (xs : List X) → All (λ (x : X). p x ≡ true) xs → list_all p xs ≡ true
all_true p [] h = refl
all_true p (x ∷ xs) h = and_from (p x) (list_all p xs) h.0 (all_true p xs h.1)

pub all_passed : {X : Type 0} (p : X → Bool) (xs : List X) → list_all p xs ≡ true → All (λ (x : X). p x ≡ true) xs
all_passed p [] h = tt
all_passed p (x ∷ xs) h = let both = and_parts (p x) (list_all p xs) h in (both.0, all_passed p xs both.1)

-- ---- the name of a label of 64 bits

pub label_spelled : (n : ℕ) → n < 2 ^ 64 → is_name (label_name n) ≡ true
label_spelled n lt =
    let short = length-decimal-le 20 n (omega arith) (omega (arith, lt)) lt in
    and_from (nat_le (length (decimal n)) 63) (list_all is_name_part (decimal n)) (le-leb (length (decimal n)) 63 (omega (arith, short))) (digits_are_parts n lt)
