-- What holds of a value where there is one.
use Rattle.std.specs.Prelude.{Option, Some, None, Result, Ok, Err}

-- of what is found
abbrev pub Each : {A : Type 0} → (A → Type 0) → Option A → Type 0
Each P None = Unit {0}
Each P (Some x) = P x

-- of what is right
abbrev pub EachOk : {A E : Type 0} → (A → Type 0) → Result A E → Type 0
EachOk P (Ok x) = P x
EachOk P (Err e) = Unit {0}
