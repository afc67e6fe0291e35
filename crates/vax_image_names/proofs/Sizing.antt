-- How a data area grows as its items are laid out.
use Rattle.std.proofs.Common.{◌≡◌, ℕ, ◌+◌, ◌<◌, ◌≤◌, true, false, leb, List, [], ◌∷◌, length, drop, get_or, sym, ap, ◌∙◌, arith}
use Rattle.std.proofs.lemmas.Bool.{le-leb}
use Rattle.gg_base.proofs.Facts.{front_is}
use Rattle.vax_core.specs.declared.code.AreaItem.{AreaItem}
use Rattle.vax_machine.specs.Area.{size_at, end_from, area_size}

end_grows : (items : List AreaItem) (at : ℕ) → at ≤ end_from items at
end_grows [] at = omega arith
end_grows (item ∷ rest) at = omega (arith, end_grows rest (at + size_at item at))

-- an item that is laid out ends at most where all do
pub too_large : (items : List AreaItem) (i at : ℕ) (item : AreaItem) → i < length items → item ≡ get_or items i item → end_from (drop i items) at ≡ end_from items 65536
    → 1114112 < at + size_at item at → leb (area_size items) 1048576 ≡ false
too_large items i at item lt is h big =
    let front = front_is items i item lt is in
    let e : end_from (drop (i + 1) items) (at + size_at item at) ≡ end_from items 65536 = sym (ap (λ (l : List AreaItem). end_from l at) front) ∙ h in
    let large : 1048576 < area_size items = omega (arith, e, end_grows (drop (i + 1) items) (at + size_at item at), big) in
    grind (arith, large)

pub small_enough : (items : List AreaItem) (end : ℕ) → end ≡ end_from items 65536 → end ≤ 1114112 → leb (area_size items) 1048576 ≡ true
small_enough items end e le = le-leb (area_size items) 1048576 (omega (arith, e, le))
