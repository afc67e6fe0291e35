-- The lines of a description that its parts begin with, and the letters of sizes.
use Rattle.std.specs.Prelude.{ℕ, ◌+◌, Bool, true, false, ◌==◌, ◌&&◌, nat_le, List, [], ◌∷◌, Option, Some, None, codes}
use Rattle.std.specs.Prelude.{if◌then◌else◌}
use Rattle.std.specs.Option.{option_map, option_and_then}
use Rattle.gg_base.specs.declared.size.Size.{Size}
use Rattle.gg_base.specs.declared.size.Size.TheVariants as sizes
use Rattle.md_reader_text.specs.Words.{same}

-- a blank line, or one whose first word begins with `#`
abbrev pub is_skipped : List (List ℕ) → Bool
is_skipped [] = true
is_skipped ([] ∷ ws) = false
is_skipped ((b ∷ bs) ∷ ws) = b == 35

-- `version 1`, `target vax`
abbrev pub are_both : List (List ℕ) → List ℕ → List ℕ → Bool
are_both (a ∷ b ∷ []) v w = same a v && same b w
are_both ws v w = false

-- the first word is this one
abbrev pub begins_with : List ℕ → List (List ℕ) → Bool
begins_with w [] = false
begins_with w (a ∷ ws) = same a w

abbrev pub is_each : List (List ℕ) → Bool
is_each ws = begins_with (codes "each") ws

abbrev pub is_rule : List (List ℕ) → Bool
is_rule ws = begins_with (codes "rule") ws

-- the size that a letter names
abbrev pub size_of : List ℕ → Option Size
size_of w =
    if same w (codes "b") then Some sizes.Byte
    else if same w (codes "w") then Some sizes.Word
    else if same w (codes "l") then Some sizes.Long else None

abbrev pub size_number : Size → ℕ
size_number sizes.Byte = 0
size_number sizes.Word = 1
size_number sizes.Long = 2

-- letters of different sizes in their order, each of them of this size's number at least
abbrev pub next_size : ℕ → Size → (ℕ → Option (List Size)) → Option (List Size)
next_size least z others =
    if nat_le least (size_number z) then option_map (λ (zs : List Size). z ∷ zs) (others (size_number z + 1)) else None

abbrev pub sizes_from : ℕ → List (List ℕ) → Option (List Size)
sizes_from least [] = Some []
sizes_from least (w ∷ ws) = option_and_then (λ (z : Size). next_size least z (λ (n : ℕ). sizes_from n ws)) (size_of w)

-- the sizes of an `each` line: one to three different letters of `b w l` in that order
abbrev pub each_sizes : List (List ℕ) → Option (List Size)
each_sizes (each ∷ w ∷ ws) = sizes_from 0 (w ∷ ws)
each_sizes ws = None
