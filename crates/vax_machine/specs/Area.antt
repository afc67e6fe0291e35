-- The data area: how its items are laid out from `AREA_START` on, what its labels stand for, and its bytes.
use Rattle.std.specs.Prelude.{ℕ, ◌+◌, ◌-◌, ◌%◌, ◌^◌, Bool, false, List, [], ◌∷◌, ◌++◌, replicate, Option, Some, None, if◌then◌else◌}
use Rattle.std.specs.List.{list_any}
use Rattle.std.specs.Int.{w16, w32, to_le_bytes}
use Rattle.std.specs.Str.{bytes_eq}
use Rattle.gg_base.specs.declared.limits.TheConstants.{AREA_START}
use Rattle.gg_base.specs.Arithmetic.{add32}
use Rattle.vax_core.specs.declared.operand.Addr.{Addr}
use Rattle.vax_core.specs.declared.code.AreaItem.{AreaItem}
use Rattle.vax_core.specs.declared.code.AreaItem.TheVariants as areas

-- so many bytes 0
unfoldable pub zeros : ℕ → List ℕ
zeros n = replicate n 0

-- how many bytes lie between an address and the next multiple of 2 ^ k
abbrev pub padding : ℕ → ℕ → ℕ
padding k at = (2 ^ k - at % 2 ^ k) % 2 ^ k

-- how many bytes an item takes at an address
abbrev pub size_at : AreaItem → ℕ → ℕ
size_at (areas.Label name) at = 0
size_at (areas.Globl name) at = 0
size_at (areas.Align k) at = padding k at
size_at (areas.Byte n) at = 1
size_at (areas.Word n) at = 2
size_at (areas.Long a) at = 4
size_at (areas.Space n) at = n

-- the address behind items that are laid out from an address on
abbrev pub end_from : List AreaItem → ℕ → ℕ
end_from [] at = at
end_from (item ∷ rest) at = end_from rest (at + size_at item at)

-- the size of the data area
abbrev pub area_size : List AreaItem → ℕ
area_size layout = end_from layout AREA_START - AREA_START

abbrev pub is_area_label : AreaItem → List ℕ → Bool
is_area_label (areas.Label n) name = bytes_eq n name
is_area_label (areas.Globl n) name = false
is_area_label (areas.Align k) name = false
is_area_label (areas.Byte n) name = false
is_area_label (areas.Word n) name = false
is_area_label (areas.Long a) name = false
is_area_label (areas.Space n) name = false

abbrev pub has_area_label : List AreaItem → List ℕ → Bool
has_area_label items name = list_any (λ (item : AreaItem). is_area_label item name) items

-- the address of the first label of that name among items that are laid out from an address on
abbrev pub address_from : List AreaItem → ℕ → List ℕ → ℕ
address_from [] at name = at
address_from (item ∷ rest) at name = if is_area_label item name then at else address_from rest (at + size_at item at) name

-- the address that a label of the data area stands for
abbrev pub label_address : List AreaItem → List ℕ → ℕ
label_address layout name = address_from layout AREA_START name

abbrev pub resolved_of : List AreaItem → Option (List ℕ) → ℕ → ℕ
resolved_of layout None offset = offset
resolved_of layout (Some name) offset = add32 (label_address layout name) offset

-- the number that a name with an offset stands for, or a number alone
abbrev pub resolved : List AreaItem → Addr → ℕ
resolved layout a = resolved_of layout a.name a.offset

-- the bytes of an item at an address
abbrev pub item_bytes : List AreaItem → AreaItem → ℕ → List ℕ
item_bytes layout (areas.Label name) at = []
item_bytes layout (areas.Globl name) at = []
item_bytes layout (areas.Align k) at = zeros (padding k at)
item_bytes layout (areas.Byte n) at = n ∷ []
item_bytes layout (areas.Word n) at = to_le_bytes w16 n
item_bytes layout (areas.Long a) at = to_le_bytes w32 (resolved layout a)
item_bytes layout (areas.Space n) at = zeros n

abbrev pub bytes_from : List AreaItem → List AreaItem → ℕ → List ℕ
bytes_from layout [] at = []
bytes_from layout (item ∷ rest) at = item_bytes layout item at ++ bytes_from layout rest (at + size_at item at)

-- the bytes of the data area as a run begins
abbrev pub area_bytes : List AreaItem → List ℕ
area_bytes layout = bytes_from layout layout AREA_START
