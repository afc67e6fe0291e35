-- Entries that don't stand in slots as registers' symbols.
use Rattle.std.specs.List.{AllByRecursion as All}
use Rattle.std.proofs.Common.{◌≡◌, ◌<◌, ◌≤◌, ℕ, zero, suc, List, [], ◌∷◌, length, Some, slice_get, refl, arith, true}
use Rattle.sel_target.specs.declared.attr.Attr.{Attr}
use Rattle.sel_target.specs.declared.attr.Attr.TheVariants as attr
use Rattle.sel_parse_selected.specs.Entries.{Entry}
use Rattle.sel_target.specs.Meaning.{Meaning}
use Rattle.sel_target.specs.Symbols.{is_register}
use Rattle.sel_parse_selected.specs.Spills.{in_slot}

abbrev pub IsLoaded : {O : Type 0} → Attr O → Type 0
IsLoaded (attr.InSlot w) = ⊥
IsLoaded a = Unit {0}

abbrev pub AllLoaded : {O : Type 0} → List (Entry O) → Type 0
AllLoaded {O = O} es = All (λ (e : Entry O). IsLoaded e.attr) es

-- each of so many, and there are no more
pub all_loaded : {O : Type 0} (es : List (Entry O)) (n : ℕ) → length es ≤ n → ((j : ℕ) (e : Entry O) → j < n → slice_get es j ≡ Some e → IsLoaded e.attr) → AllLoaded es
all_loaded [] n le h = tt
all_loaded (e ∷ es) zero le h = absurd (omega (arith, le))
all_loaded (e ∷ es) (suc n) le h = (h zero e (omega arith) refl, all_loaded es n (omega (arith, le)) (λ j x lt there. h (suc j) x (omega (arith, lt)) there))

pub in_slot_loaded : {O I S F : Type 0} (of : Meaning O I S F) (b : Attr O) (w : ℕ) → (is_register b ≡ true → ⊥) → IsLoaded b → IsLoaded (in_slot of b w)
in_slot_loaded of (attr.Reg r) w apart h = absurd (apart refl)
in_slot_loaded of (attr.InSlot u) w apart h = h
in_slot_loaded of (attr.Value o) w apart h = tt
in_slot_loaded of (attr.Place o) w apart h = tt
in_slot_loaded of (attr.Con n) w apart h = tt
in_slot_loaded of (attr.Ea o) w apart h = tt
in_slot_loaded of (attr.Token l) w apart h = tt
in_slot_loaded of attr.Nothing w apart h = tt
