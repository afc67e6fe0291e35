-- Code without some of its instructions has the same labels, can be written, and can be run.
use Rattle.std.proofs.Common.{◌≡◌, ℕ, zero, suc, Bool, true, false, cond, List, [], ◌∷◌, Option, Some, None, refl, sym, ap, subst, ◌∙◌, arith}
use Rattle.std.specs.Prelude.{◌||◌, ◌&&◌, slice_get}
use Rattle.std.specs.List.{list_all}
use Rattle.std.specs.Option.{option_or}
use Rattle.gg_base.proofs.Facts.{some_none, first_true, second_true}
use Rattle.vax_core.specs.declared.code.Code.{Code}
use Rattle.vax_core.specs.declared.code.Instr.{Instr}
use Rattle.vax_core.specs.declared.code.AreaItem.{AreaItem}
use Rattle.vax_core.specs.declared.code.AreaItem.TheVariants as areas
use Rattle.vax_core.specs.declared.code.CodeItem.{CodeItem}
use Rattle.vax_core.specs.declared.code.CodeItem.TheVariants as item_kind
use Rattle.vax_core.specs.First.{main_name}
use Rattle.vax_core.specs.Valid.{is_area_item, is_code_item, is_code}
use Rattle.vax_machine.specs.declared.loading.LoadFault.TheVariants as loading_fault
use Rattle.vax_machine.specs.Functions.{action_of}
use Rattle.vax_machine.specs.Area.{has_area_label}
use Rattle.vax_machine.specs.Labels.{is_label, has_label, is_service, is_call, double_at, double_label}
use Rattle.vax_machine.specs.Labels.{double_area_at, double_area_label, undefined_operand, undefined_target, undefined_at, undefined_label, undefined_area_label}
use Rattle.vax_machine.specs.Loading.{too_large, no_main, or_undefined, undefined_name_of, or_double, double_label_of, load_fault, Loads}
use Rattle.vax_passes.specs.Thinned.{Thinned, nothing, kept, dropped, IsThinned}

pub same_labels : {k : ℕ} {c d : List CodeItem} → Thinned k c d → (n : List ℕ) → has_label d n ≡ has_label c n
same_labels nothing n = refl
same_labels (kept x r) n = ap (λ (b : Bool). is_label x n || b) (same_labels r n)
same_labels (dropped i r) n = same_labels r n

pub same_double_at : (x : CodeItem) (c d : List CodeItem) (o p : Option (List ℕ)) → ((n : List ℕ) → has_label d n ≡ has_label c n) → p ≡ o → double_at x d p ≡ double_at x c o
same_double_at (item_kind.Label n) c d o p h e = ap (λ (b : Bool). cond (is_service n || b) (Some n) p) (h n) ∙ ap (λ (q : Option (List ℕ)). cond (is_service n || has_label c n) (Some n) q) e
same_double_at (item_kind.Globl n) c d o p h e = e
same_double_at (item_kind.Mask m) c d o p h e = e
same_double_at (item_kind.Instr i) c d o p h e = e

same_double : {k : ℕ} {c d : List CodeItem} → Thinned k c d → double_label d ≡ double_label c
same_double nothing = refl
same_double (kept {c = c} {d = d} x r) = same_double_at x c d _ _ (same_labels r) (same_double r)
same_double (dropped i r) = same_double r

same_double_area_at : (x : AreaItem) (rest : List AreaItem) (c d : List CodeItem) (o p : Option (List ℕ)) → ((n : List ℕ) → has_label d n ≡ has_label c n) → p ≡ o
    → double_area_at x rest d p ≡ double_area_at x rest c o
same_double_area_at (areas.Label n) rest c d o p h e =
    ap (λ (b : Bool). cond (is_service n || (has_area_label rest n || b)) (Some n) p) (h n) ∙ ap (λ (q : Option (List ℕ)). cond (is_service n || (has_area_label rest n || has_label c n)) (Some n) q) e
same_double_area_at (areas.Globl n) rest c d o p h e = e
same_double_area_at (areas.Align n) rest c d o p h e = e
same_double_area_at (areas.Byte n) rest c d o p h e = e
same_double_area_at (areas.Word n) rest c d o p h e = e
same_double_area_at (areas.Long a) rest c d o p h e = e
same_double_area_at (areas.Space n) rest c d o p h e = e

same_double_area : (area : List AreaItem) (c d : List CodeItem) → ((n : List ℕ) → has_label d n ≡ has_label c n) → double_area_label area d ≡ double_area_label area c
same_double_area [] c d h = refl
same_double_area (x ∷ rest) c d h = same_double_area_at x rest c d _ _ h (same_double_area rest c d h)

-- ---- names that aren't defined

pub first_none : {A : Type 0} (o p : Option A) → option_or o p ≡ None → o ≡ None
first_none None p e = refl
first_none (Some x) p e = absurd (some_none x e)

pub second_none : {A : Type 0} (o p : Option A) → option_or o p ≡ None → p ≡ None
second_none None p e = e
second_none (Some x) p e = absurd (some_none x e)

pub both_none : {A : Type 0} (o p : Option A) → o ≡ None → p ≡ None → option_or o p ≡ None
both_none o p e f = ap (λ q. option_or q p) e ∙ f

same_target : (c d : List CodeItem) (call : Bool) (t : Option (List ℕ)) → ((n : List ℕ) → has_label d n ≡ has_label c n) → undefined_target d call t ≡ undefined_target c call t
same_target c d call None h = refl
same_target c d call (Some t) h = ap (λ (b : Bool). cond ((call && is_service t) || b) None (Some t)) (h t)

same_undefined : (layout : List AreaItem) (c d : List CodeItem) (x : CodeItem) → ((n : List ℕ) → has_label d n ≡ has_label c n) → undefined_at layout d x ≡ undefined_at layout c x
same_undefined layout c d (item_kind.Label n) h = refl
same_undefined layout c d (item_kind.Globl n) h = refl
same_undefined layout c d (item_kind.Mask m) h = refl
same_undefined layout c d (item_kind.Instr i) h = ap (λ (o : Option (List ℕ)). option_or (undefined_operand layout i.operands) o) (same_target c d (is_call (action_of i.op)) i.target h)

defined : {k : ℕ} {xs ys : List CodeItem} → Thinned k xs ys → (layout : List AreaItem) (c d : List CodeItem) → ((n : List ℕ) → has_label d n ≡ has_label c n)
    → undefined_label xs layout c ≡ None → undefined_label ys layout d ≡ None
defined nothing layout c d h e = refl
defined (kept x r) layout c d h e = both_none _ _ (same_undefined layout c d x h ∙ first_none _ _ e) (defined r layout c d h (second_none _ _ e))
defined (dropped i r) layout c d h e = defined r layout c d h (second_none _ _ e)

-- ---- the faults of loading

module _ (c : Code) (loads : Loads c) where
  double_by : (o : Option (List ℕ)) → double_label_of c ≡ o → or_double o c ≡ None → double_label_of c ≡ None
  double_by None is e = is
  double_by (Some n) is e = absurd (some_none _ e)

  pub none_double : double_label_of c ≡ None
  none_double = double_by (double_label_of c) refl loads

  undefined_faults : or_undefined (undefined_name_of c) c ≡ None
  undefined_faults = sym (ap (λ (o : Option (List ℕ)). or_double o c) none_double) ∙ loads

  undefined_by : (o : Option (List ℕ)) → undefined_name_of c ≡ o → or_undefined o c ≡ None → undefined_name_of c ≡ None
  undefined_by None is e = is
  undefined_by (Some n) is e = absurd (some_none _ e)

  pub none_undefined : undefined_name_of c ≡ None
  none_undefined = undefined_by (undefined_name_of c) refl undefined_faults

  pub main_faults : no_main c ≡ None
  main_faults = sym (ap (λ (o : Option (List ℕ)). or_undefined o c) none_undefined) ∙ undefined_faults

  main_by : (b : Bool) → has_label c.items main_name ≡ b → cond b (too_large c) (Some loading_fault.NoMain) ≡ None → has_label c.items main_name ≡ true
  main_by true is e = is
  main_by false is e = absurd (some_none _ e)

  pub has_main : has_label c.items main_name ≡ true
  has_main = main_by (has_label c.items main_name) refl main_faults

  pub labels_once : double_label c.items ≡ None
  labels_once = second_none (double_area_label c.area c.items) _ none_double

  pub names_defined : undefined_label c.items c.area c.items ≡ None
  names_defined = second_none (undefined_area_label c.area c.area) _ none_undefined

-- what an instruction of a code names is defined
pub instr_defined : (items : List CodeItem) (layout : List AreaItem) (all : List CodeItem) (p : ℕ) (i : Instr) → undefined_label items layout all ≡ None
    → slice_get items p ≡ Some (item_kind.Instr i) → undefined_target all (is_call (action_of i.op)) i.target ≡ None
instr_defined [] layout all p i e h = absurd (some_none _ (sym h))
instr_defined (x ∷ xs) layout all zero i e h =
    let same : x ≡ item_kind.Instr i = cc in
    second_none (undefined_operand layout i.operands) _ (sym (ap (λ (y : CodeItem). undefined_at layout all y) same) ∙ first_none (undefined_at layout all x) _ e)
instr_defined (x ∷ xs) layout all (suc p) i e h = instr_defined xs layout all p i (second_none (undefined_at layout all x) _ e) h

pub target_there : (all : List CodeItem) (call : Bool) (t : List ℕ) → undefined_target all call (Some t) ≡ None → ((call && is_service t) || has_label all t) ≡ true
target_there all call t e = by ((call && is_service t) || has_label all t) refl e
  where
    by : (b : Bool) → ((call && is_service t) || has_label all t) ≡ b → cond b None (Some t) ≡ None → ((call && is_service t) || has_label all t) ≡ true
    by true is h = is
    by false is h = absurd (some_none _ h)

module _ (c d : Code) (area : d.area ≡ c.area) (labels : (n : List ℕ) → has_label d.items n ≡ has_label c.items n) (once : double_label d.items ≡ double_label c.items)
    (names : undefined_label c.items c.area c.items ≡ None → undefined_label d.items c.area d.items ≡ None) (loads : Loads c) where
  -- over the first's data area
  abbrev other : Code
  other = record { area = c.area; items = d.items }

  no_double : double_label_of other ≡ None
  no_double =
      ap (λ (o : Option (List ℕ)). option_or o (double_label d.items)) (same_double_area c.area c.items d.items labels)
      ∙ ap (λ (o : Option (List ℕ)). option_or (double_area_label c.area c.items) o) once
      ∙ none_double c loads

  no_undefined : undefined_name_of other ≡ None
  no_undefined = both_none _ _ (first_none _ _ (none_undefined c loads)) (names (names_defined c loads))

  no_fault : load_fault other ≡ None
  no_fault =
      ap (λ (o : Option (List ℕ)). or_double o other) no_double
      ∙ ap (λ (o : Option (List ℕ)). or_undefined o other) no_undefined
      ∙ ap (λ (b : Bool). cond b (too_large c) (Some loading_fault.NoMain)) (labels main_name)
      ∙ main_faults c loads

  -- a code can be run where its names are as they are in another
  pub loads_by : Loads d
  loads_by = subst (λ (x : List AreaItem). load_fault (record { area = x; items = d.items }) ≡ None) (sym area) no_fault

pub thinned_loads : (k : ℕ) (c d : Code) → d.area ≡ c.area → Thinned k c.items d.items → Loads c → Loads d
thinned_loads k c d area thin loads = loads_by c d area (same_labels thin) (same_double thin) (defined thin c.area c.items d.items (same_labels thin)) loads

-- ---- validity

items_valid : {k : ℕ} {c d : List CodeItem} → Thinned k c d → list_all is_code_item c ≡ true → list_all is_code_item d ≡ true
items_valid nothing e = refl
items_valid (kept {d = d} x r) e =
    ap (λ (b : Bool). b && list_all is_code_item d) (first_true (is_code_item x) _ e) ∙ items_valid r (second_true (is_code_item x) _ e)
items_valid (dropped i r) e = items_valid r (second_true (is_code_item (item_kind.Instr i)) _ e)

pub thinned_valid : (k : ℕ) (c d : Code) → d.area ≡ c.area → Thinned k c.items d.items → is_code c ≡ true → is_code d ≡ true
thinned_valid k c d area thin e =
    ap (λ (a : List AreaItem). list_all is_area_item a && list_all is_code_item d.items) area
    ∙ ap (λ (b : Bool). b && list_all is_code_item d.items) (first_true (list_all is_area_item c.area) _ e)
    ∙ items_valid thin (second_true (list_all is_area_item c.area) _ e)

-- ---- nothing dropped

pub thinned_same : {k : ℕ} {c d : List CodeItem} → Thinned k c d → k ≡ 0 → d ≡ c
thinned_same nothing e = refl
thinned_same (kept x r) e = ap (λ xs. x ∷ xs) (thinned_same r e)
thinned_same (dropped i r) e = absurd (omega arith)

pub same_code : (c d : Code) (before after : ℕ) → IsThinned c d before after → after ≡ before → d ≡ c
same_code c d before after h e =
    let n : h.number ≡ 0 = let f = h.counts in omega arith in
    let items : d.items ≡ c.items = thinned_same h.items n in
    λ t. record { area = h.area t; items = items t }
