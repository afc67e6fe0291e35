-- The tests of a code tell whether it can be run.
use Rattle.std.proofs.Common.{◌≡◌, ℕ, Bool, true, false, cond, ◌&&◌, ltb, leb, List, [], ◌∷◌, Option, Some, None, refl, sym, ap, ◌∙◌, arith}
use Rattle.std.specs.Prelude.{is_none, is_some}
use Rattle.std.specs.Option.{option_or}
use Rattle.std.specs.List.{list_all}
use Rattle.std.proofs.lemmas.Bool.{and_parts, le-leb, le-ltb, leb-true}
use Rattle.gg_base.proofs.Facts.{some_none, none_is, true_or_false, false_true}
use Rattle.vax_core.specs.declared.operand.Operand.{Operand}
use Rattle.vax_core.specs.declared.code.AreaItem.{AreaItem}
use Rattle.vax_core.specs.declared.code.AreaItem.TheVariants as areas
use Rattle.vax_core.specs.declared.code.CodeItem.{CodeItem}
use Rattle.vax_core.specs.declared.code.CodeItem.TheVariants as item_kind
use Rattle.vax_core.specs.declared.code.Code.{Code}
use Rattle.vax_core.specs.First.{main_name}
use Rattle.vax_core.specs.Valid.{is_area_item, is_code_item, is_code}
use Rattle.vax_machine.specs.declared.loading.LoadFault.TheVariants as loading_fault
use Rattle.vax_machine.specs.declared.loading.LoadFault.{LoadFault}
use Rattle.vax_machine.specs.Area.{area_size}
use Rattle.vax_machine.specs.Functions.{action_of}
use Rattle.vax_machine.specs.Labels.{has_label, double_label, double_area_label, name_in, undefined_name, undefined_operand, undefined_target, is_call}
use Rattle.vax_machine.specs.Labels.{undefined_at, undefined_label, undefined_area_at, undefined_area_label}
use Rattle.vax_machine.specs.Loading.{too_large, or_undefined, or_double, undefined_name_of, double_label_of, Loads}
use Rattle.vax_image_names.specs.Stands.{operand_stands, item_stands, area_stands, names_stand, may_run}

none_or : (a b : Option (List ℕ)) → is_none (option_or a b) ≡ (is_none a && is_none b)
none_or None b = refl
none_or (Some n) b = refl

operands_are : (layout : List AreaItem) (os : List Operand) → is_none (undefined_operand layout os) ≡ list_all (operand_stands layout) os
operands_are layout [] = refl
operands_are layout (o ∷ os) =
    none_or (undefined_name layout (name_in o.base)) (undefined_operand layout os) ∙ ap (λ (b : Bool). operand_stands layout o && b) (operands_are layout os)

item_is : (layout : List AreaItem) (all : List CodeItem) (item : CodeItem) → is_none (undefined_at layout all item) ≡ item_stands layout all item
item_is layout all (item_kind.Label name) = refl
item_is layout all (item_kind.Globl name) = refl
item_is layout all (item_kind.Mask mask) = refl
item_is layout all (item_kind.Instr i) =
    let target = undefined_target all (is_call (action_of i.op)) i.target in
    none_or (undefined_operand layout i.operands) target ∙ ap (λ (b : Bool). b && is_none target) (operands_are layout i.operands)

items_are : (layout : List AreaItem) (all items : List CodeItem) → is_none (undefined_label items layout all) ≡ list_all (item_stands layout all) items
items_are layout all [] = refl
items_are layout all (item ∷ items) =
    none_or (undefined_at layout all item) (undefined_label items layout all)
    ∙ ap (λ (b : Bool). b && is_none (undefined_label items layout all)) (item_is layout all item)
    ∙ ap (λ (b : Bool). item_stands layout all item && b) (items_are layout all items)

area_is : (layout : List AreaItem) (item : AreaItem) → is_none (undefined_area_at layout item) ≡ area_stands layout item
area_is layout (areas.Label name) = refl
area_is layout (areas.Globl name) = refl
area_is layout (areas.Align k) = refl
area_is layout (areas.Byte n) = refl
area_is layout (areas.Word n) = refl
area_is layout (areas.Long a) = refl
area_is layout (areas.Space n) = refl

areas_are : (layout items : List AreaItem) → is_none (undefined_area_label items layout) ≡ list_all (area_stands layout) items
areas_are layout [] = refl
areas_are layout (item ∷ items) =
    none_or (undefined_area_at layout item) (undefined_area_label items layout)
    ∙ ap (λ (b : Bool). b && is_none (undefined_area_label items layout)) (area_is layout item)
    ∙ ap (λ (b : Bool). area_stands layout item && b) (areas_are layout items)

names_are : (c : Code) → is_none (undefined_name_of c) ≡ names_stand c.area c.items
names_are c =
    none_or (undefined_area_label c.area c.area) (undefined_label c.items c.area c.items)
    ∙ ap (λ (b : Bool). b && is_none (undefined_label c.items c.area c.items)) (areas_are c.area c.area)
    ∙ ap (λ (b : Bool). list_all (area_stands c.area) c.area && b) (items_are c.area c.items c.items)

pub loads_so : (c : Code) → double_label_of c ≡ None → may_run c.area c.items ≡ true → Loads c
loads_so c double h =
    let p = and_parts (names_stand c.area c.items) (has_label c.items main_name && leb (area_size c.area) 1048576) h in
    let q = and_parts (has_label c.items main_name) (leb (area_size c.area) 1048576) p.1 in
    let names : undefined_name_of c ≡ None = none_is (undefined_name_of c) (names_are c ∙ p.0) in
    ap (λ (o : Option (List ℕ)). or_double o c) double
    ∙ ap (λ (o : Option (List ℕ)). or_undefined o c) names
    ∙ ap (λ (b : Bool). cond b (too_large c) (Some loading_fault.NoMain)) q.0
    ∙ ap (λ (b : Bool). cond b (Some loading_fault.TooLarge) None) (le-ltb 1048576 (area_size c.area) (leb-true (area_size c.area) 1048576 q.1))

-- each test fails where its fault is

small_by : (n : ℕ) (b : Bool) → ltb 1048576 n ≡ b → ◌≡◌ {A = Option LoadFault} (cond b (Some loading_fault.TooLarge) None) None → leb n 1048576 ≡ true
small_by n true e h = absurd (some_none loading_fault.TooLarge h)
small_by n false e h = le-leb n 1048576 (grind (arith, e))

main_by : (c : Code) (b : Bool) → ◌≡◌ {A = Option LoadFault} (cond b (too_large c) (Some loading_fault.NoMain)) None → (b && leb (area_size c.area) 1048576) ≡ true
main_by c true h = small_by (area_size c.area) (ltb 1048576 (area_size c.area)) refl h
main_by c false h = absurd (some_none loading_fault.NoMain h)

defined_by : (c : Code) (o : Option (List ℕ)) → or_undefined o c ≡ None → (is_none o && (has_label c.items main_name && leb (area_size c.area) 1048576)) ≡ true
defined_by c None h = main_by c (has_label c.items main_name) h
defined_by c (Some n) h = absurd (some_none (loading_fault.UndefinedLabel n) h)

pub fails_so : (c : Code) → double_label_of c ≡ None → may_run c.area c.items ≡ false → Loads c → ⊥
fails_so c double h loads =
    let rest = has_label c.items main_name && leb (area_size c.area) 1048576 in
    let by = defined_by c (undefined_name_of c) (sym (ap (λ (o : Option (List ℕ)). or_double o c) double) ∙ loads) in
    true_or_false (may_run c.area c.items) (ap (λ (b : Bool). b && rest) (sym (names_are c)) ∙ by) h

pub double_so : (c : Code) → (double_label_of c ≡ None → ⊥) → Loads c → ⊥
double_so c h loads = by (double_label_of c) refl loads
  where
    by : (o : Option (List ℕ)) → double_label_of c ≡ o → or_double o c ≡ None → ⊥
    by None e l = h e
    by (Some n) e l = some_none (loading_fault.DoubleLabel n) l

-- where the tables found a label that stands twice, and where they found none

or_first : (a b : Option (List ℕ)) → is_some a ≡ true → option_or a b ≡ None → ⊥
or_first None b h e = false_true h
or_first (Some n) b h e = some_none n e

or_second : (a b : Option (List ℕ)) → is_some b ≡ true → option_or a b ≡ None → ⊥
or_second None None h e = false_true h
or_second None (Some n) h e = some_none n e
or_second (Some m) b h e = some_none m e

or_none : (a b : Option (List ℕ)) → is_some a ≡ false → is_some b ≡ false → option_or a b ≡ None
or_none None None x y = refl
or_none None (Some n) x y = false_true (sym y)
or_none (Some n) b x y = false_true (sym x)

same_area : (c : Code) (layout : List AreaItem) (items : List CodeItem) → layout ≡ c.area → items ≡ c.items → is_some (double_area_label layout items) ≡ is_some (double_area_label c.area c.items)
same_area c layout items e f = ap (λ (l : List AreaItem). is_some (double_area_label l items)) e ∙ ap (λ (l : List CodeItem). is_some (double_area_label c.area l)) f

same_code : (c : Code) (items : List CodeItem) → items ≡ c.items → is_some (double_label items) ≡ is_some (double_label c.items)
same_code c items f = ap (λ (l : List CodeItem). is_some (double_label l)) f

pub area_double : (c : Code) (layout : List AreaItem) (items : List CodeItem) (b : Bool) → layout ≡ c.area → items ≡ c.items → b ≡ is_some (double_area_label layout items) → b ≡ true
    → double_label_of c ≡ None → ⊥
area_double c layout items b e f is h = or_first (double_area_label c.area c.items) (double_label c.items) (sym (same_area c layout items e f) ∙ sym is ∙ h)

pub code_double : (c : Code) (items : List CodeItem) (b : Bool) → items ≡ c.items → b ≡ is_some (double_label items) → b ≡ true → double_label_of c ≡ None → ⊥
code_double c items b f is h = or_second (double_area_label c.area c.items) (double_label c.items) (sym (same_code c items f) ∙ sym is ∙ h)

pub no_double : (c : Code) (layout : List AreaItem) (items : List CodeItem) (a b : Bool) → layout ≡ c.area → items ≡ c.items → a ≡ is_some (double_area_label layout items) → a ≡ false
    → b ≡ is_some (double_label items) → b ≡ false → double_label_of c ≡ None
no_double c layout items a b e f is x it y =
    or_none (double_area_label c.area c.items) (double_label c.items) (sym (same_area c layout items e f) ∙ sym is ∙ x) (sym (same_code c items f) ∙ sym it ∙ y)

pub ruleset double_facts = (area_double, code_double, no_double)

-- whether the code of these names loads

may_run_is : (c : Code) (layout : List AreaItem) (items : List CodeItem) → layout ≡ c.area → items ≡ c.items → may_run layout items ≡ may_run c.area c.items
may_run_is c layout items e f = ap (λ (l : List AreaItem). may_run l items) e ∙ ap (λ (l : List CodeItem). may_run c.area l) f

pub linked_none : (c : Code) (layout : List AreaItem) (items : List CodeItem) → layout ≡ c.area → items ≡ c.items → double_label_of c ≡ None → may_run layout items ≡ false → Loads c → ⊥
linked_none c layout items e f double h = fails_so c double (sym (may_run_is c layout items e f) ∙ h)

pub linked_some : (c : Code) (layout : List AreaItem) (items : List CodeItem) → layout ≡ c.area → items ≡ c.items → double_label_of c ≡ None → may_run layout items ≡ true → Loads c
linked_some c layout items e f double h = loads_so c double (sym (may_run_is c layout items e f) ∙ h)

pub layout_valid : (c : Code) (layout : List AreaItem) → layout ≡ c.area → is_code c ≡ true → list_all is_area_item layout ≡ true
layout_valid c layout e h = ap (list_all is_area_item) e ∙ (and_parts (list_all is_area_item c.area) (list_all is_code_item c.items) h).0

pub ruleset link_facts = (double_so, linked_none, linked_some, layout_valid)
