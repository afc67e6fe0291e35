-- The forms of the lines in front of the rules, over their words: the head, the classes and what is saved.
use Rattle.std.specs.Prelude.{ℕ, ◌+◌, ◌^◌, Bool, false, ◌==◌, ◌||◌, ◌&&◌, nat_le, bit_and, bit_or, List, []}
use Rattle.std.specs.Prelude.{◌∷◌, length, Option, Some, None, codes, if◌then◌else◌}
use Rattle.std.specs.Char.{is_ascii_lowercase, is_ascii_digit}
use Rattle.std.specs.Option.{option_map, option_and_then}
use Rattle.std.specs.List.{list_all}
use Rattle.md_reader_text.specs.Words.{same}
use Rattle.md_reader_text.specs.Numbers.{number}
use Rattle.gg_base.specs.declared.size.Size.{Size}
use Rattle.md_types.specs.Forms.{are_both, size_of, size_number}
use Rattle.md_reader.specs.declared.types.Kind.{Kind}
use Rattle.md_reader.specs.declared.types.Kind.TheVariants as kind
use Rattle.md_reader.specs.declared.forms.Saved.{Saved}
use Rattle.md_reader.specs.declared.forms.Saved.TheVariants as saved

-- `version 1`, and `version 2` above lines in which rules were written out
abbrev pub is_version : List (List ℕ) → Bool
is_version ws = are_both ws (codes "version") (codes "1") || are_both ws (codes "version") (codes "2")

-- `target`, and the word of the machine that is described
abbrev pub is_target : List ℕ → List (List ℕ) → Bool
is_target target ws = are_both ws (codes "target") target

-- a register's number, 0 to 11
abbrev pub register_numbered : ℕ → Option ℕ
register_numbered n = if nat_le n 11 then Some n else None

abbrev pub register_of : List ℕ → Option ℕ
register_of [] = None
register_of (b ∷ w) = if b == 114 then option_and_then register_numbered (number 255 w) else None

-- one more register of a pool, whose bits are those of its registers' numbers
abbrev pub with_register : ℕ → Option ℕ → Option ℕ
with_register m None = None
with_register m (Some n) = if bit_and m (2 ^ n) == 0 then Some (bit_or m (2 ^ n)) else None

-- a pool's registers, each once
abbrev pub pool_from : ℕ → List (List ℕ) → Option ℕ
pool_from m [] = Some m
pool_from m (w ∷ ws) = option_and_then (λ (n : ℕ). pool_from n ws) (with_register m (register_of w))

-- `pool rN ..`
abbrev pub pool_form : List (List ℕ) → Option ℕ
pool_form [] = None
pool_form (a ∷ []) = None
pool_form (a ∷ r ∷ rs) = if same a (codes "pool") then pool_from 0 (r ∷ rs) else None

-- 1 to 31 lower-case letters and digits, the first a letter
abbrev pub in_name : ℕ → Bool
in_name b = is_ascii_lowercase b || is_ascii_digit b

abbrev pub is_name : List ℕ → Bool
is_name [] = false
is_name (b ∷ bs) = is_ascii_lowercase b && (nat_le (length bs) 30 && list_all in_name bs)

abbrev pub plain_kind : List ℕ → Option Kind
plain_kind k =
    if same k (codes "Reg") then Some kind.Reg
    else if same k (codes "Con") then Some kind.Con
    else if same k (codes "Ea") then Some kind.Ea
    else if same k (codes "Nothing") then Some kind.Nothing else None

abbrev pub sized_kind : List ℕ → Size → Option Kind
sized_kind k z =
    if same k (codes "Value") then Some (kind.Value z)
    else if same k (codes "Place") then Some (kind.Place z) else None

-- `KIND` or `KIND SIZE`
abbrev pub kind_form : List (List ℕ) → Option Kind
kind_form [] = None
kind_form (k ∷ []) = plain_kind k
kind_form (k ∷ z ∷ []) = option_and_then (sized_kind k) (size_of z)
kind_form (k ∷ z ∷ w ∷ ws) = None

-- `class NAME KIND`
abbrev pub class_form : List (List ℕ) → Option (List ℕ × Kind)
class_form [] = None
class_form (a ∷ []) = None
class_form (a ∷ name ∷ ws) = if same a (codes "class") && is_name name then option_map (λ (k : Kind). (name, k)) (kind_form ws) else None

-- what a spill line saves, or a reload line brings back, with the words of its instruction
abbrev pub sized_form : List ℕ → List (List ℕ) → Size → Option (Saved × List (List ℕ))
sized_form a ws z =
    if same a (codes "value") then Some (saved.Value z, ws)
    else if same a (codes "place") then Some (saved.Place z, ws) else None

abbrev pub spill_words : List (List ℕ) → Option (Saved × List (List ℕ))
spill_words [] = None
spill_words (a ∷ []) = if same a (codes "ea") then Some (saved.Ea, []) else None
spill_words (a ∷ z ∷ ws) = if same a (codes "ea") then Some (saved.Ea, z ∷ ws) else option_and_then (sized_form a ws) (size_of z)

-- `spill value SIZE LINE`, `spill place SIZE LINE`, `spill ea LINE`, `reload LINE`
abbrev pub spill_form : List (List ℕ) → Option (Saved × List (List ℕ))
spill_form [] = None
spill_form (a ∷ ws) = if same a (codes "reload") then Some (saved.Reload, ws) else if same a (codes "spill") then spill_words ws else None

-- where the line stands among the eight
abbrev pub saved_number : Saved → ℕ
saved_number (saved.Value z) = size_number z
saved_number (saved.Place z) = 3 + size_number z
saved_number saved.Ea = 6
saved_number saved.Reload = 7
