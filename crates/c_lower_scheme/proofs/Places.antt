-- What it says of a place that a value is delivered to.
use Rattle.std.proofs.Common.{◌≡◌, ℕ, refl, ap}
use Rattle.std.specs.Prelude.{Some}
use Rattle.c_types.specs.declared.types.Integer.{Integer}
use Rattle.c_types.specs.declared.types.Integer.TheVariants as ints
use Rattle.c_lower_scheme.specs.Parts.{Where, InLoc, InArg, InMem}
use Rattle.c_lower_scheme.specs.Places.{local_in}

-- it is a local, and its type is as wide as a longword
pub local_is : (i : Integer) (s : Where) (n : ℕ) → local_in i s ≡ Some n → (s ≡ InLoc n) × (i ≡ ints.Int)
local_is ints.Int (InLoc m) n e = let same : m ≡ n = cc in (ap InLoc same, refl)
local_is _ _ n e = absurd (cc)
