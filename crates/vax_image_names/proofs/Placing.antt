-- The labels of a code, gone through from the last on, and what a table of them tells.
use Rattle.std.proofs.Common.{◌≡◌, ℕ, ◌+◌, ◌-◌, ◌<◌, ◌≤◌, Bool, true, false, cond, ◌||◌, List, [], ◌∷◌, length, drop, get_or, Option, Some, None, refl, sym, ap, ◌∙◌, arith, is_some}
use Rattle.std.specs.Option.{unwrap_or}
use Rattle.std.proofs.lemmas.List.{drop_more}
use Rattle.vax_core.specs.declared.code.AreaItem.{AreaItem}
use Rattle.vax_core.specs.declared.code.AreaItem.TheVariants as areas
use Rattle.vax_core.specs.declared.code.CodeItem.{CodeItem}
use Rattle.vax_core.specs.declared.code.CodeItem.TheVariants as item_kind
use Rattle.vax_machine.specs.Area.{is_area_label, has_area_label}
use Rattle.vax_machine.specs.Labels.{is_service, is_label, has_label, label_place, double_label, double_area_label}
use Rattle.vax_machine.specs.Tables.{Names, place_in, area_place_in, with_name}
use Rattle.vax_image_names.specs.Stands.{place_of}

-- a table tells which labels there are, and where they stand

placed_by : (b c : Bool) (o : Option ℕ) (place k : ℕ) → o ≡ cond c (Some (place + 1 + k)) None → cond b (Some place) o ≡ cond (b || c) (Some (place + cond b 0 (k + 1))) None
placed_by true c o place k e = let none : place ≡ place + 0 = omega arith in ap Some none
placed_by false true o place k e = e ∙ (let one : place + 1 + k ≡ place + (k + 1) = omega arith in ap Some one)
placed_by false false o place k e = e

placed : (items : List CodeItem) (place : ℕ) (name : List ℕ) → place_in items place name ≡ cond (has_label items name) (Some (place + label_place items name)) None
placed [] place name = refl
placed (item ∷ rest) place name =
    placed_by (is_label item name) (has_label rest name) (place_in rest (place + 1) name) place (label_place rest name) (placed rest (place + 1) name)

pub place_is : (names : Names) (items : List CodeItem) (name : List ℕ) (o : Option ℕ) → names ≡ place_in items 0 → o ≡ names name → o ≡ place_of items name
place_is names items name o e h =
    let first : 0 + label_place items name ≡ label_place items name = omega arith in
    h ∙ (λ i. e i name) ∙ placed items 0 name ∙ ap (λ (k : ℕ). cond (has_label items name) (Some k) None) first

number_by : (b : Bool) (place d k : ℕ) (o : Option ℕ) → unwrap_or o d ≡ place + 1 + k → unwrap_or (cond b (Some place) o) d ≡ place + cond b 0 (k + 1)
number_by true place d k o e = omega arith
number_by false place d k o e = omega (arith, e)

number_from : (items : List CodeItem) (place : ℕ) (name : List ℕ) → unwrap_or (place_in items place name) (place + length items) ≡ place + label_place items name
number_from [] place name = refl
number_from (item ∷ rest) place name =
    let end : place + length (item ∷ rest) ≡ place + 1 + length rest = omega arith in
    ap (λ (d : ℕ). unwrap_or (place_in (item ∷ rest) place name) d) end
    ∙ number_by (is_label item name) place (place + 1 + length rest) (label_place rest name) (place_in rest (place + 1) name) (number_from rest (place + 1) name)

pub number_is : (names : Names) (items : List CodeItem) (name : List ℕ) (o : Option ℕ) → names ≡ place_in items 0 → o ≡ names name → unwrap_or o (length items) ≡ label_place items name
number_is names items name o e h =
    let first : length items ≡ 0 + length items = omega arith in
    let is : unwrap_or o (length items) ≡ unwrap_or (place_in items 0 name) (0 + length items) =
    ap (λ (x : Option ℕ). unwrap_or x (length items)) (h ∙ (λ i. e i name)) ∙ ap (λ (d : ℕ). unwrap_or (place_in items 0 name) d) first in
    omega (arith, is, number_from items 0 name)

has_by : (b : Bool) (place : ℕ) (o : Option ℕ) (c : Bool) → is_some o ≡ c → is_some (cond b (Some place) o) ≡ (b || c)
has_by true place o c e = refl
has_by false place o c e = e

has_from : (items : List CodeItem) (place : ℕ) (name : List ℕ) → is_some (place_in items place name) ≡ has_label items name
has_from [] place name = refl
has_from (item ∷ rest) place name = has_by (is_label item name) place (place_in rest (place + 1) name) (has_label rest name) (has_from rest (place + 1) name)

area_has_from : (items : List AreaItem) (place : ℕ) (name : List ℕ) → is_some (area_place_in items place name) ≡ has_area_label items name
area_has_from [] place name = refl
area_has_from (item ∷ rest) place name = has_by (is_area_label item name) place (area_place_in rest (place + 1) name) (has_area_label rest name) (area_has_from rest (place + 1) name)

pub label_is : (names : Names) (items : List CodeItem) (place : ℕ) (name : List ℕ) (o : Option ℕ) → names ≡ place_in items place → o ≡ names name → is_some o ≡ has_label items name
label_is names items place name o e h = ap is_some (h ∙ (λ i. e i name)) ∙ has_from items place name

pub area_label_is : (names : Names) (items : List AreaItem) (place : ℕ) (name : List ℕ) (o : Option ℕ) → names ≡ area_place_in items place → o ≡ names name → is_some o ≡ has_area_label items name
area_label_is names items place name o e h = ap is_some (h ∙ (λ i. e i name)) ∙ area_has_from items place name

-- one label more, in front

pub in_front : {A : Type 0} (xs : List A) (place : ℕ) (x : A) → 0 < place → place ≤ length xs → x ≡ get_or xs (place - 1) x → drop (place - 1) xs ≡ x ∷ drop place xs
in_front xs place x pos le e =
    let lt : place - 1 < length xs = omega arith in
    let next : place - 1 + 1 ≡ place = omega arith in
    drop_more xs (place - 1) x lt ∙ ap (λ y. y ∷ drop (place - 1 + 1) xs) (sym e) ∙ ap (λ (k : ℕ). x ∷ drop k xs) next

before : (place : ℕ) → 0 < place → place ≡ place - 1 + 1
before place pos = omega arith

pub numbers_step : (list : List CodeItem) (place : ℕ) (n : List ℕ) (names new : Names) → 0 < place → drop (place - 1) list ≡ item_kind.Label n ∷ drop place list
    → names ≡ place_in (drop place list) place → new ≡ with_name names n (place - 1) → new ≡ place_in (drop (place - 1) list) (place - 1)
numbers_step list place n names new pos e h put =
    put
    ∙ ap (λ (t : Names). with_name t n (place - 1)) (h ∙ ap (λ (k : ℕ). place_in (drop place list) k) (before place pos))
    ∙ ap (λ (l : List CodeItem). place_in l (place - 1)) (sym e)

pub area_numbers_step : (list : List AreaItem) (place : ℕ) (n : List ℕ) (names new : Names) → 0 < place → drop (place - 1) list ≡ areas.Label n ∷ drop place list
    → names ≡ area_place_in (drop place list) place → new ≡ with_name names n (place - 1) → new ≡ area_place_in (drop (place - 1) list) (place - 1)
area_numbers_step list place n names new pos e h put =
    put
    ∙ ap (λ (t : Names). with_name t n (place - 1)) (h ∙ ap (λ (k : ℕ). area_place_in (drop place list) k) (before place pos))
    ∙ ap (λ (l : List AreaItem). area_place_in l (place - 1)) (sym e)

some_by : (b : Bool) (n : List ℕ) (o : Option (List ℕ)) → (b || is_some o) ≡ is_some (cond b (Some n) o)
some_by true n o = refl
some_by false n o = refl

pub double_step : (list : List CodeItem) (place : ℕ) (n : List ℕ) (names : Names) (again old new : Bool) → drop (place - 1) list ≡ item_kind.Label n ∷ drop place list
    → names ≡ place_in (drop place list) place → again ≡ (is_service n || is_some (names n)) → old ≡ is_some (double_label (drop place list)) → new ≡ (again || old)
    → new ≡ is_some (double_label (drop (place - 1) list))
double_step list place n names again old new e h test was is =
    let twice = is_service n || has_label (drop place list) n in
    is
    ∙ ap (λ (b : Bool). b || old) (test ∙ ap (λ (b : Bool). is_service n || b) (label_is names (drop place list) place n (names n) h refl))
    ∙ ap (λ (b : Bool). twice || b) was
    ∙ some_by twice n (double_label (drop place list))
    ∙ ap (λ (l : List CodeItem). is_some (double_label l)) (sym e)

pub area_double_step : (list : List AreaItem) (code : List CodeItem) (place : ℕ) (n : List ℕ) (names code_names : Names) (again old new : Bool)
    → drop (place - 1) list ≡ areas.Label n ∷ drop place list → names ≡ area_place_in (drop place list) place → code_names ≡ place_in code 0
    → again ≡ (is_service n || (is_some (names n) || is_some (code_names n))) → old ≡ is_some (double_area_label (drop place list) code) → new ≡ (again || old)
    → new ≡ is_some (double_area_label (drop (place - 1) list) code)
area_double_step list code place n names code_names again old new e h g test was is =
    let twice = is_service n || (has_area_label (drop place list) n || has_label code n) in
    is
    ∙ ap (λ (b : Bool). b || old)
    (test
    ∙ ap (λ (b : Bool). is_service n || (b || is_some (code_names n))) (area_label_is names (drop place list) place n (names n) h refl)
    ∙ ap (λ (b : Bool). is_service n || (has_area_label (drop place list) n || b)) (label_is code_names code 0 n (code_names n) g refl))
    ∙ ap (λ (b : Bool). twice || b) was
    ∙ some_by twice n (double_area_label (drop place list) code)
    ∙ ap (λ (l : List AreaItem). is_some (double_area_label l code)) (sym e)
