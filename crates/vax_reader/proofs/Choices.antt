-- What a reading found, taken apart.
use Rattle.std.proofs.Common.{◌≡◌, Option, Some, None, refl}
use Rattle.std.specs.Option.{option_map, option_map_or}
use Rattle.std.proofs.lemmas.Option.{none-some, same_Some}

pub map_or_some : {A B P : Type 0} (o : Option A) (f : A → Option B) (other : Option B) (y : B) → option_map_or f o other ≡ Some y
    → ((x : A) → o ≡ Some x → f x ≡ Some y → P) → (other ≡ Some y → P) → P
map_or_some (Some x) f other y e found none = found x refl e
map_or_some None f other y e found none = none e

pub map_some : {A B P : Type 0} (f : A → B) (o : Option A) (y : B) → option_map f o ≡ Some y → ((x : A) → o ≡ Some x → f x ≡ y → P) → P
map_some f None y e k = absurd (none-some y e)
map_some f (Some x) y e k = k x refl (same_Some (f x) y e)
