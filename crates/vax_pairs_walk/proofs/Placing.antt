-- Where labels and next items stand, found from front to back.
use Rattle.std.proofs.Common.{◌≡◌, ℕ, zero, suc, ◌+◌, ◌≤◌, Bool, true, false, cond, List, [], ◌∷◌, length, drop, Some, refl, ap, ◌∙◌, arith}
use Rattle.std.proofs.lemmas.Option.{same_Some}
use Rattle.std.specs.Prelude.{slice_get}
use Rattle.vax_core.specs.declared.code.CodeItem.{CodeItem}
use Rattle.vax_core.specs.declared.code.CodeItem.TheVariants as item_kind
use Rattle.vax_core.specs.declared.code.Instr.{Instr}
use Rattle.vax_machine.specs.Labels.{skipped, next_item, is_label, label_place}

at_drop : (items : List CodeItem) (n : ℕ) (x : CodeItem) → slice_get items n ≡ Some x → drop n items ≡ x ∷ drop (suc n) items
at_drop [] zero x e = absurd (cc)
at_drop [] (suc n) x e = absurd (cc)
at_drop (y ∷ ys) zero x e = ap (λ (z : CodeItem). z ∷ ys) (same_Some y x e)
at_drop (y ∷ ys) (suc n) x e = at_drop ys n x e

past_drop : (items : List CodeItem) (n : ℕ) → length items ≤ n → drop n items ≡ []
past_drop [] zero lt = refl
past_drop [] (suc n) lt = refl
past_drop (y ∷ ys) zero lt = absurd (omega (arith, lt))
past_drop (y ∷ ys) (suc n) lt = past_drop ys n (omega (arith, lt))

-- ---- labels

-- the first label of that name stands so far behind a place
abbrev pub Ahead : List CodeItem → List ℕ → ℕ → Type 0
Ahead items name n = label_place items name ≡ n + label_place (drop n items) name

pub ahead_begins : (items : List CodeItem) (name : List ℕ) → Ahead items name 0
ahead_begins items name = omega arith

by_item : (items : List CodeItem) (name : List ℕ) (n : ℕ) (x : CodeItem) (b : Bool) → slice_get items n ≡ Some x → is_label x name ≡ b → Ahead items name n
    → label_place items name ≡ n + cond b 0 (label_place (drop (suc n) items) name + 1)
by_item items name n x b at e h =
    h ∙ ap (λ (xs : List CodeItem). n + label_place xs name) (at_drop items n x at)
    ∙ ap (λ (c : Bool). n + cond c 0 (label_place (drop (suc n) items) name + 1)) e

pub ahead_found : (items : List CodeItem) (name : List ℕ) (n : ℕ) (x : CodeItem) → slice_get items n ≡ Some x → is_label x name ≡ true → Ahead items name n
    → n ≡ label_place items name
ahead_found items name n x at e h = (let k = by_item items name n x true at e h in omega (arith, k))

pub ahead_more : (items : List CodeItem) (name : List ℕ) (n : ℕ) (x : CodeItem) → slice_get items n ≡ Some x → is_label x name ≡ false → Ahead items name n
    → Ahead items name (n + 1)
ahead_more items name n x at e h =
    (let k = by_item items name n x false at e h in omega (arith, k)) ∙ ap (λ (m : ℕ). m + label_place (drop m items) name) (one n) where
      one : (n : ℕ) → suc n ≡ n + 1
      one n = omega arith

pub ahead_ends : (items : List CodeItem) (name : List ℕ) (n : ℕ) → length items ≤ n → Ahead items name n → label_place items name ≡ n
ahead_ends items name n long h = (let k : label_place items name ≡ n + 0 = h ∙ ap (λ (xs : List CodeItem). n + label_place xs name) (past_drop items n long) in omega (arith, k))

-- ---- next items

one_more : (n : ℕ) → suc n ≡ n + 1
one_more n = omega arith

inwards : (a b : ℕ) → a + (b + 1) ≡ suc a + b
inwards a b = omega arith

pub next_of_label : (items : List CodeItem) (n : ℕ) (name : List ℕ) → slice_get items n ≡ Some (item_kind.Label name) → next_item items n ≡ next_item items (n + 1)
next_of_label items n name at =
    ap (λ (xs : List CodeItem). n + skipped xs) (at_drop items n (item_kind.Label name) at)
    ∙ inwards n (skipped (drop (suc n) items)) ∙ ap (λ (m : ℕ). m + skipped (drop m items)) (one_more n)

pub next_of_globl : (items : List CodeItem) (n : ℕ) (name : List ℕ) → slice_get items n ≡ Some (item_kind.Globl name) → next_item items n ≡ next_item items (n + 1)
next_of_globl items n name at =
    ap (λ (xs : List CodeItem). n + skipped xs) (at_drop items n (item_kind.Globl name) at)
    ∙ inwards n (skipped (drop (suc n) items)) ∙ ap (λ (m : ℕ). m + skipped (drop m items)) (one_more n)

pub next_of_mask : (items : List CodeItem) (n mask : ℕ) → slice_get items n ≡ Some (item_kind.Mask mask) → next_item items n ≡ n
next_of_mask items n mask at = (let k : next_item items n ≡ n + 0 = ap (λ (xs : List CodeItem). n + skipped xs) (at_drop items n (item_kind.Mask mask) at) in omega (arith, k))

pub next_of_instr : (items : List CodeItem) (n : ℕ) (i : Instr) → slice_get items n ≡ Some (item_kind.Instr i) → next_item items n ≡ n
next_of_instr items n i at = (let k : next_item items n ≡ n + 0 = ap (λ (xs : List CodeItem). n + skipped xs) (at_drop items n (item_kind.Instr i) at) in omega (arith, k))

pub next_behind : (items : List CodeItem) (n : ℕ) → length items ≤ n → next_item items n ≡ n
next_behind items n long = (let k : next_item items n ≡ n + 0 = ap (λ (xs : List CodeItem). n + skipped xs) (past_drop items n long) in omega (arith, k))
