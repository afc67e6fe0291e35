-- What a truth value counts, and how a signed number is written.
use Rattle.std.specs.Prelude.{ℕ, ◌-◌, ◌^◌, Bool, true, false, List, ◌++◌, nat_lt, if◌then◌else◌, codes}
use Rattle.std.specs.Fmt.{decimal}

-- 1 or 0
abbrev pub truth : Bool → ℕ
truth true = 1
truth false = 0

-- 32 bits as a signed number
abbrev pub signed_text : ℕ → List ℕ
signed_text n = if nat_lt n (2 ^ 31) then decimal n else codes "-" ++ decimal (2 ^ 32 - n)
