-- Where the labels of the code stand, and the table of their places.
use Rattle.std.proofs.Common.{◌≡◌, ℕ, ◌+◌, Bool, true, false, cond, ◌||◌, List, [], ◌∷◌, length, Option, Some, refl, ap, ◌∙◌, arith, is_some}
use Rattle.std.specs.Option.{unwrap_or}
use Rattle.vax_machine.specs.Tables.{Names}
use Rattle.l32_core.specs.declared.code.Item32.{Item32}
use Rattle.l32_machine.specs.Labels.{is_label, has_label, label_place}
use Rattle.l32_machine.specs.Tables.{place_in}

has_by : (b : Bool) (place : ℕ) (o : Option ℕ) (c : Bool) → is_some o ≡ c → is_some (cond b (Some place) o) ≡ (b || c)
has_by true place o c e = refl
has_by false place o c e = e

has_from : (items : List Item32) (place : ℕ) (name : List ℕ) → is_some (place_in items place name) ≡ has_label items name
has_from [] place name = refl
has_from (item ∷ rest) place name = has_by (is_label item name) place (place_in rest (place + 1) name) (has_label rest name) (has_from rest (place + 1) name)

pub has_place : (names : Names) (items : List Item32) (place : ℕ) (name : List ℕ) (o : Option ℕ) → names ≡ place_in items place → o ≡ names name → is_some o ≡ has_label items name
has_place names items place name o e h = ap is_some (h ∙ (λ i. e i name)) ∙ has_from items place name

place_by : (b : Bool) (place d k : ℕ) (o : Option ℕ) → unwrap_or o d ≡ place + 1 + k → unwrap_or (cond b (Some place) o) d ≡ place + cond b 0 (k + 1)
place_by true place d k o e = omega arith
place_by false place d k o e = omega (arith, e)

place_from : (items : List Item32) (place : ℕ) (name : List ℕ) → unwrap_or (place_in items place name) (place + length items) ≡ place + label_place items name
place_from [] place name = refl
place_from (item ∷ rest) place name =
    let len : place + length (item ∷ rest) ≡ place + 1 + length rest = omega arith in
    ap (λ (d : ℕ). unwrap_or (place_in (item ∷ rest) place name) d) len
    ∙ place_by (is_label item name) place (place + 1 + length rest) (label_place rest name) (place_in rest (place + 1) name) (place_from rest (place + 1) name)

pub place_is : (names : Names) (items : List Item32) (name : List ℕ) (o : Option ℕ) → names ≡ place_in items 0 → o ≡ names name → unwrap_or o (length items) ≡ label_place items name
place_is names items name o e h =
    let is : unwrap_or o (length items) ≡ unwrap_or (place_in items 0 name) (0 + length items) = ap (λ (x : Option ℕ). unwrap_or x (length items)) (h ∙ (λ i. e i name))
    ∙ (let z : length items ≡ 0 + length items = omega arith in ap (λ (d : ℕ). unwrap_or (place_in items 0 name) d) z) in
    omega (arith, is, place_from items 0 name)
