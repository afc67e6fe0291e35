-- How a data area grows as its items are laid out.
use Rattle.std.proofs.Common.{◌≡◌, ℕ, ◌+◌, ◌<◌, ◌≤◌, List, [], ◌∷◌, ◌++◌, length, drop, get_or, true, refl, sym, ap, ◌∙◌, arith, append_assoc, length-append}
use Rattle.std.proofs.lemmas.List.{length-replicate}
use Rattle.std.proofs.lemmas.Bool.{and_parts}
use Rattle.std.specs.List.{list_all}
use Rattle.gg_base.proofs.Facts.{front_is}
use Rattle.vax_core.specs.Valid.{is_area_item}
use Rattle.vax_core.specs.declared.code.AreaItem.{AreaItem}
use Rattle.vax_core.specs.declared.code.AreaItem.TheVariants as areas
use Rattle.vax_machine.specs.Area.{zeros, padding, size_at, end_from, area_size, item_bytes, bytes_from}

pub end_grows : (items : List AreaItem) (at : ℕ) → at ≤ end_from items at
end_grows [] at = omega arith
end_grows (item ∷ rest) at = omega (arith, end_grows rest (at + size_at item at))

-- an item that is laid out ends at most where all do
pub ends_inside : (items : List AreaItem) (i at : ℕ) (item : AreaItem) → i < length items → item ≡ get_or items i item → end_from (drop i items) at ≡ end_from items 65536 → at
    + size_at item at ≤ end_from items 65536
ends_inside items i at item lt is h =
    let front = front_is items i item lt is in
    let e : end_from (drop (i + 1) items) (at + size_at item at) ≡ end_from items 65536 = sym (ap (λ (l : List AreaItem). end_from l at) front) ∙ h in
    omega (arith, e, end_grows (drop (i + 1) items) (at + size_at item at))

pub too_large : (items : List AreaItem) (i at : ℕ) (item : AreaItem) → i < length items → item ≡ get_or items i item → end_from (drop i items) at ≡ end_from items 65536 → 1114112 < at
    + size_at item at → 1048576 < area_size items
too_large items i at item lt is h big = omega (arith, ends_inside items i at item lt is h)

pub length-zeros : (n : ℕ) → length (zeros n) ≡ n
unfolding zeros
length-zeros n = length-replicate n 0

pub length-item_bytes : (layout : List AreaItem) (item : AreaItem) (at : ℕ) → length (item_bytes layout item at) ≡ size_at item at
length-item_bytes layout (areas.Label name) at = refl
length-item_bytes layout (areas.Globl name) at = refl
length-item_bytes layout (areas.Align k) at = length-zeros (padding k at)
length-item_bytes layout (areas.Byte n) at = refl
length-item_bytes layout (areas.Word n) at = refl
length-item_bytes layout (areas.Long a) at = refl
length-item_bytes layout (areas.Space n) at = length-zeros n

-- one item more is laid out
pub bytes_more : (layout items : List AreaItem) (i at size : ℕ) (item : AreaItem) (old new total : List ℕ) → drop i items ≡ item ∷ drop (i + 1) items → size ≡ size_at item at → new ≡ old
    ++ item_bytes layout item at
    → old ++ bytes_from layout (drop i items) at ≡ total → new ++ bytes_from layout (drop (i + 1) items) (at + size) ≡ total
bytes_more layout items i at size item old new total front s put h =
    ap (λ (b : List ℕ). b ++ bytes_from layout (drop (i + 1) items) (at + size)) put
    ∙ append_assoc old (item_bytes layout item at) (bytes_from layout (drop (i + 1) items) (at + size))
    ∙ ap (λ (n : ℕ). old ++ (item_bytes layout item at ++ bytes_from layout (drop (i + 1) items) (at + n))) s
    ∙ ap (λ (l : List AreaItem). old ++ bytes_from layout l at) (sym front)
    ∙ h

pub end_more : (items : List AreaItem) (i at size total : ℕ) (item : AreaItem) → drop i items ≡ item ∷ drop (i + 1) items → size ≡ size_at item at → end_from (drop i items) at ≡ total
    → end_from (drop (i + 1) items) (at + size) ≡ total
end_more items i at size total item front s h =
    ap (λ (n : ℕ). end_from (drop (i + 1) items) (at + n)) s ∙ ap (λ (l : List AreaItem). end_from l at) (sym front) ∙ h

pub valid_more : (items : List AreaItem) (i : ℕ) (item : AreaItem) → drop i items ≡ item ∷ drop (i + 1) items → list_all is_area_item (drop i items) ≡ true
    → list_all is_area_item (drop (i + 1) items) ≡ true
valid_more items i item front h = (and_parts (is_area_item item) (list_all is_area_item (drop (i + 1) items)) (sym (ap (list_all is_area_item) front) ∙ h)).1

pub long_more : (layout : List AreaItem) (at size : ℕ) (item : AreaItem) (old new : List ℕ) → size ≡ size_at item at → new ≡ old ++ item_bytes layout item at → 65536 + length old ≡ at
    → 65536 + length new ≡ at + size
long_more layout at size item old new s put h = omega (arith, ap length put, length-append old (item_bytes layout item at), length-item_bytes layout item at)
