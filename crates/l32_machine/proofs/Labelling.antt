-- The labels of a text, found from its end on.
use Rattle.std.proofs.Common.{◌≡◌, ℕ, ◌+◌, ◌-◌, ◌<◌, Bool, cond, ◌||◌, List, ◌∷◌, drop, Option, Some, refl, sym, ap, ◌∙◌, arith, is_some}
use Rattle.vax_core.specs.declared.code.AreaItem.{AreaItem}
use Rattle.vax_core.specs.declared.code.AreaItem.TheVariants as areas
use Rattle.vax_machine.specs.Area.{has_area_label}
use Rattle.vax_machine.specs.Labels.{is_service}
use Rattle.vax_machine.specs.Tables.{Names, area_place_in, with_name}
use Rattle.vax_machine.proofs.Places.{has_area_place}
use Rattle.l32_core.specs.declared.code.Item32.{Item32}
use Rattle.l32_core.specs.declared.code.Item32.TheVariants as item_kind
use Rattle.l32_machine.specs.Labels.{has_label, double_label, double_area_label}
use Rattle.l32_machine.specs.Tables.{place_in}
use Rattle.l32_machine.proofs.Places.{has_place}

before : (place : ℕ) → 0 < place → place ≡ place - 1 + 1
before place pos = omega arith

pub places_more : (list : List Item32) (place : ℕ) (n : List ℕ) (names new : Names) → 0 < place → drop (place - 1) list ≡ item_kind.Label n ∷ drop place list
    → names ≡ place_in (drop place list) place → new ≡ with_name names n (place - 1) → new ≡ place_in (drop (place - 1) list) (place - 1)
places_more list place n names new pos e h put =
    put
    ∙ ap (λ (t : Names). with_name t n (place - 1)) (h ∙ ap (λ (k : ℕ). place_in (drop place list) k) (before place pos))
    ∙ ap (λ (l : List Item32). place_in l (place - 1)) (sym e)

pub double_more : (list : List Item32) (place : ℕ) (n : List ℕ) (names : Names) (again : Bool) (old new : Option (List ℕ)) → drop (place - 1) list ≡ item_kind.Label n ∷ drop place list
    → names ≡ place_in (drop place list) place → again ≡ (is_service n || is_some (names n)) → old ≡ double_label (drop place list) → new ≡ cond again (Some n) old
    → new ≡ double_label (drop (place - 1) list)
double_more list place n names again old new e h test was is =
    is
    ∙ ap (λ (b : Bool). cond b (Some n) old) (test ∙ ap (λ (b : Bool). is_service n || b) (has_place names (drop place list) place n (names n) h refl))
    ∙ ap (λ (o : Option (List ℕ)). cond (is_service n || has_label (drop place list) n) (Some n) o) was
    ∙ ap double_label (sym e)

pub area_double_more : (list : List AreaItem) (code : List Item32) (place : ℕ) (n : List ℕ) (names code_names : Names) (again : Bool) (old new : Option (List ℕ)) → drop (place - 1) list
    ≡ areas.Label n ∷ drop place list
    → names ≡ area_place_in (drop place list) place → code_names ≡ place_in code 0 → again ≡ (is_service n || (is_some (names n) || is_some (code_names n))) → old
    ≡ double_area_label (drop place list) code
    → new ≡ cond again (Some n) old → new ≡ double_area_label (drop (place - 1) list) code
area_double_more list code place n names code_names again old new e h g test was is =
    is
    ∙ ap (λ (b : Bool). cond b (Some n) old)
    (test
    ∙ ap (λ (b : Bool). is_service n || (b || is_some (code_names n))) (has_area_place names (drop place list) place n (names n) h refl)
    ∙ ap (λ (b : Bool). is_service n || (has_area_label (drop place list) n || b)) (has_place code_names code 0 n (code_names n) g refl))
    ∙ ap (λ (o : Option (List ℕ)). cond (is_service n || (has_area_label (drop place list) n || has_label code n)) (Some n) o) was
    ∙ ap (λ (l : List AreaItem). double_area_label l code) (sym e)
