-- The labels of a text, found from its end on.
use Rattle.std.proofs.Common.{◌≡◌, ℕ, ◌+◌, ◌-◌, ◌<◌, ◌≤◌, Bool, cond, ◌||◌, List, ◌∷◌, length, drop, get_or, Option, Some, refl, sym, ap, ◌∙◌, arith, is_some}
use Rattle.std.proofs.lemmas.List.{drop_more}
use Rattle.vax_core.specs.declared.code.AreaItem.{AreaItem}
use Rattle.vax_core.specs.declared.code.AreaItem.TheVariants as areas
use Rattle.vax_core.specs.declared.code.CodeItem.{CodeItem}
use Rattle.vax_core.specs.declared.code.CodeItem.TheVariants as item_kind
use Rattle.vax_machine.specs.Area.{has_area_label}
use Rattle.vax_machine.specs.Labels.{is_service, has_label, double_label, double_area_label}
use Rattle.vax_machine.specs.Tables.{Names, place_in, area_place_in, with_name}
use Rattle.vax_machine.proofs.Places.{has_place, has_area_place}

-- an item in front of those from a place on
pub in_front : {A : Type 0} (xs : List A) (place : ℕ) (x : A) → 0 < place → place ≤ length xs → x ≡ get_or xs (place - 1) x → drop (place - 1) xs ≡ x ∷ drop place xs
in_front xs place x pos le e =
    let lt : place - 1 < length xs = omega arith in
    let next : place - 1 + 1 ≡ place = omega arith in
    drop_more xs (place - 1) x lt ∙ ap (λ y. y ∷ drop (place - 1 + 1) xs) (sym e) ∙ ap (λ (k : ℕ). x ∷ drop k xs) next

before : (place : ℕ) → 0 < place → place ≡ place - 1 + 1
before place pos = omega arith

pub places_more : (list : List CodeItem) (place : ℕ) (n : List ℕ) (names new : Names) → 0 < place → drop (place - 1) list ≡ item_kind.Label n ∷ drop place list
    → names ≡ place_in (drop place list) place → new ≡ with_name names n (place - 1) → new ≡ place_in (drop (place - 1) list) (place - 1)
places_more list place n names new pos e h put =
    put
    ∙ ap (λ (t : Names). with_name t n (place - 1)) (h ∙ ap (λ (k : ℕ). place_in (drop place list) k) (before place pos))
    ∙ ap (λ (l : List CodeItem). place_in l (place - 1)) (sym e)

pub area_places_more : (list : List AreaItem) (place : ℕ) (n : List ℕ) (names new : Names) → 0 < place → drop (place - 1) list ≡ areas.Label n ∷ drop place list
    → names ≡ area_place_in (drop place list) place → new ≡ with_name names n (place - 1) → new ≡ area_place_in (drop (place - 1) list) (place - 1)
area_places_more list place n names new pos e h put =
    put
    ∙ ap (λ (t : Names). with_name t n (place - 1)) (h ∙ ap (λ (k : ℕ). area_place_in (drop place list) k) (before place pos))
    ∙ ap (λ (l : List AreaItem). area_place_in l (place - 1)) (sym e)

pub double_more : (list : List CodeItem) (place : ℕ) (n : List ℕ) (names : Names) (again : Bool) (old new : Option (List ℕ)) → drop (place - 1) list ≡ item_kind.Label n ∷ drop place list
    → names ≡ place_in (drop place list) place → again ≡ (is_service n || is_some (names n)) → old ≡ double_label (drop place list) → new ≡ cond again (Some n) old
    → new ≡ double_label (drop (place - 1) list)
double_more list place n names again old new e h test was is =
    is
    ∙ ap (λ (b : Bool). cond b (Some n) old) (test ∙ ap (λ (b : Bool). is_service n || b) (has_place names (drop place list) place n (names n) h refl))
    ∙ ap (λ (o : Option (List ℕ)). cond (is_service n || has_label (drop place list) n) (Some n) o) was
    ∙ ap double_label (sym e)

pub area_double_more : (list : List AreaItem) (code : List CodeItem) (place : ℕ) (n : List ℕ) (names code_names : Names) (again : Bool) (old new : Option (List ℕ)) → drop (place - 1) list
    ≡ areas.Label n ∷ drop place list
    → names ≡ area_place_in (drop place list) place → code_names ≡ place_in code 0 → again ≡ (is_service n || (is_some (names n) || is_some (code_names n))) → old
    ≡ double_area_label (drop place list) code
    → new ≡ cond again (Some n) old → new ≡ double_area_label (drop (place - 1) list) code
area_double_more list code place n names code_names again old new e h g test was is =
    is
    ∙ ap (λ (b : Bool). cond b (Some n) old)
    (test
    ∙ ap (λ (b : Bool). is_service n || (b || is_some (code_names n))) (has_area_place names (drop place list) place n (names n) h refl)
    ∙ ap (λ (b : Bool). is_service n || (has_area_label (drop place list) n || b)) (has_place code_names code 0 n (code_names n) g refl))
    ∙ ap (λ (o : Option (List ℕ)). cond (is_service n || (has_area_label (drop place list) n || has_label code n)) (Some n) o) was
    ∙ ap (λ (l : List AreaItem). double_area_label l code) (sym e)
