-- Where the items of a data area lie, and its labels.
use Rattle.std.proofs.Common.{◌≡◌, ℕ, suc, zero, ◌+◌, ◌<◌, ◌≤◌, ◌-◌, Bool, true, false, cond, List, [], ◌∷◌, length, get_or, Option, Some, None, refl, sym, ap, ◌∙◌, arith}
use Rattle.std.proofs.lemmas.Option.{same_Some}
use Rattle.vax_core.specs.declared.code.AreaItem.{AreaItem}
use Rattle.vax_machine.specs.declared.area.Layout.{Layout}
use Rattle.vax_machine.specs.Area.{is_area_label, size_at, end_from, address_from, label_address}
use Rattle.vax_machine.specs.Tables.{Names, area_place_in, addresses_from}
use Rattle.vax_machine.specs.LaidOut.{IsLaidOut}

-- a label's place among the items, counted from the first, is that of its address
record Lies (addresses : List ℕ) (first place address : ℕ) : Type 0 where
  below : first ≤ place
  within : place < first + length addresses
  is : get_or addresses (place - first) 0 ≡ address

further : (at : ℕ) (addresses : List ℕ) (first place address : ℕ) → Lies addresses (first + 1) place address → Lies (at ∷ addresses) first place address
further at addresses first place address h =
    let low : first + 1 ≤ place = h.below in
    let high : place < first + 1 + length addresses = h.within in
    let e : place - first ≡ suc (place - (first + 1)) = omega arith in
    record {
      below = omega arith;
      within = omega arith;
      is = ap (λ (k : ℕ). get_or (at ∷ addresses) k 0) e ∙ h.is;
    }

lies_by : (b : Bool) (o : Option ℕ) (first place at address : ℕ) (addresses : List ℕ) → cond b (Some first) o ≡ Some place
    → (o ≡ Some place → Lies addresses (first + 1) place address) → Lies (at ∷ addresses) first place (cond b at address)
lies_by true o first place at address addresses e h =
    let p : first ≡ place = same_Some first place e in
    let z : place - first ≡ 0 = omega arith in
    record {
      below = omega arith;
      within = omega arith;
      is = ap (λ (k : ℕ). get_or (at ∷ addresses) k 0) z;
    }
lies_by false o first place at address addresses e h = further at addresses first place address (h e)

lies : (items : List AreaItem) (first at place : ℕ) (name : List ℕ) → area_place_in items first name ≡ Some place → Lies (addresses_from items at) first place (address_from items at name)
lies [] first at place name e = absurd cc
lies (item ∷ rest) first at place name e =
    lies_by (is_area_label item name) (area_place_in rest (first + 1) name) first place at (address_from rest (at + size_at item at) name) (addresses_from rest (at + size_at item at)) e
    (λ f. lies rest (first + 1) (at + size_at item at) place name f)

nowhere_by : (b : Bool) (o : Option ℕ) (first at address end : ℕ) → cond b (Some first) o ≡ None → (o ≡ None → address ≡ end) → cond b at address ≡ end
nowhere_by true o first at address end e h = absurd cc
nowhere_by false o first at address end e h = h e

nowhere : (items : List AreaItem) (first at : ℕ) (name : List ℕ) → area_place_in items first name ≡ None → address_from items at name ≡ end_from items at
nowhere [] first at name e = refl
nowhere (item ∷ rest) first at name e =
    nowhere_by (is_area_label item name) (area_place_in rest (first + 1) name) first at (address_from rest (at + size_at item at) name) (end_from rest (at + size_at item at)) e
    (λ f. nowhere rest (first + 1) (at + size_at item at) name f)

-- a label that has a place has an address there
pub place_lies : (names : Names) (items : List AreaItem) (l : Layout) (place : ℕ) (name : List ℕ) → names ≡ area_place_in items 0 → IsLaidOut items l → names name ≡ Some place
    → place < length l.addresses.items
place_lies names items l place name e laid h =
    let k = lies items 0 65536 place name (sym (λ i. e i name) ∙ h) in
    let within : place < 0 + length (addresses_from items 65536) = k.within in
    let same : length l.addresses.items ≡ length (addresses_from items 65536) = ap length laid.addresses in
    omega arith

pub address_is : (names : Names) (items : List AreaItem) (l : Layout) (place : ℕ) (name : List ℕ) → names ≡ area_place_in items 0 → IsLaidOut items l → names name ≡ Some place
    → get_or l.addresses.items place 0 ≡ label_address items name
address_is names items l place name e laid h =
    let k = lies items 0 65536 place name (sym (λ i. e i name) ∙ h) in
    let z : place ≡ place - 0 = omega arith in
    ap (λ (x : List ℕ). get_or x place 0) laid.addresses ∙ ap (λ (x : ℕ). get_or (addresses_from items 65536) x 0) z ∙ k.is

pub end_is : (names : Names) (items : List AreaItem) (l : Layout) (name : List ℕ) → names ≡ area_place_in items 0 → IsLaidOut items l → names name ≡ None → l.end ≡ label_address items name
end_is names items l name e laid h = laid.end ∙ sym (nowhere items 0 65536 name (sym (λ i. e i name) ∙ h))

-- an element that is there doesn't depend on what stands for one that isn't
pub get_or-default : (xs : List ℕ) (i d : ℕ) → i < length xs → get_or xs i d ≡ get_or xs i 0
get_or-default [] i d lt = absurd (omega arith)
get_or-default (x ∷ xs) zero d lt = refl
get_or-default (x ∷ xs) (suc i) d lt = get_or-default xs i d (omega arith)
