-- What stands next behind each label, found from the end of a code on.
use Rattle.std.proofs.Common.{◌≡◌, ℕ, ◌+◌, ◌-◌, ◌<◌, Bool, true, false, cond, List, [], ◌∷◌, length, drop, Some, sym, ap, subst, ◌∙◌, arith}
use Rattle.std.specs.Option.{unwrap_or}
use Rattle.std.specs.Str.{bytes_eq}
use Rattle.vax_core.specs.declared.code.Instr.{Instr}
use Rattle.vax_core.specs.declared.code.CodeItem.{CodeItem}
use Rattle.vax_core.specs.declared.code.CodeItem.TheVariants as item_kind
use Rattle.vax_machine.specs.Labels.{skipped, next_item, label_place}
use Rattle.vax_machine.specs.Tables.{Names, with_name}
use Rattle.vax_passes.proofs.Suffixes.{one_on}
use Rattle.vax_codes.specs.declared.nexts.Nexts.{Nexts}
use Rattle.vax_codes.specs.Nexts.{found, next_behind, next_in, HasNexts}

-- ---- one item more in front

pub label_in_front : (old new : Nexts) (n : List ℕ) (items : List CodeItem) (place : ℕ) → found new ≡ with_name (found old) n old.next → new.next ≡ old.next → new.end ≡ old.end
    → HasNexts old items (place + 1) → HasNexts new (item_kind.Label n ∷ items) place
label_in_front old new n items place put next last h = record {
  names = put ∙ ap (λ (t : Names). with_name t n old.next) h.names ∙ ap (λ (k : ℕ). with_name (next_in items (place + 1)) n k) h.next;
  next = (let e = h.next in omega (arith, next, e));
  last = (let e = h.last in omega (arith, last, e));
}

pub globl_in_front : (f : Nexts) (n : List ℕ) (items : List CodeItem) (place : ℕ) → HasNexts f items (place + 1) → HasNexts f (item_kind.Globl n ∷ items) place
globl_in_front f n items place h = record {
  names = h.names;
  next = (let e = h.next in omega (arith, e));
  last = (let e = h.last in omega (arith, e));
}

pub mask_in_front : (old : Nexts) (m : ℕ) (items : List CodeItem) (place : ℕ) → HasNexts old items (place + 1) → HasNexts (record old { next = place }) (item_kind.Mask m ∷ items) place
mask_in_front old m items place h = record { names = h.names; next = omega arith; last = (let e = h.last in omega (arith, e)) }

pub instr_in_front : (old : Nexts) (i : Instr) (items : List CodeItem) (place : ℕ) → HasNexts old items (place + 1) → HasNexts (record old { next = place }) (item_kind.Instr i ∷ items) place
instr_in_front old i items place h = record { names = h.names; next = omega arith; last = (let e = h.last in omega (arith, e)) }

-- the loop: one item further to the front
pub one_back : (old new : Nexts) (list : List CodeItem) (place : ℕ) (x : CodeItem) → 0 < place → drop (place - 1) list ≡ x ∷ drop place list → HasNexts old (drop place list) place
    → ((items : List CodeItem) → HasNexts old items (place - 1 + 1) → HasNexts new (x ∷ items) (place - 1)) → HasNexts new (drop (place - 1) list) (place - 1)
one_back old new list place x pos e h put =
    let same : place ≡ place - 1 + 1 = omega arith in
    subst (λ (s : List CodeItem). HasNexts new s (place - 1)) (sym e) (put (drop place list) (subst (λ (k : ℕ). HasNexts old (drop place list) k) same h))

-- ---- all items

behind_one : (x : CodeItem) (rest : List CodeItem) (place : ℕ) (name : List ℕ)
    → unwrap_or (next_in rest (place + 1) name) (place + 1 + length rest) ≡ place + 1 + next_item rest (label_place rest name)
    → unwrap_or (next_in rest (place + 1) name) (place + length (x ∷ rest)) ≡ place + next_item (x ∷ rest) (label_place rest name + 1)
behind_one x rest place name h =
    let len : place + length (x ∷ rest) ≡ place + 1 + length rest = omega arith in
    let same : skipped (drop (label_place rest name + 1) (x ∷ rest)) ≡ skipped (drop (label_place rest name) rest) = ap skipped (one_on x rest (label_place rest name)) in
    ap (λ (d : ℕ). unwrap_or (next_in rest (place + 1) name) d) len ∙ h ∙ omega (arith, same)

label_by : (n : List ℕ) (rest : List CodeItem) (place : ℕ) (name : List ℕ) (b : Bool)
    → unwrap_or (next_in rest (place + 1) name) (place + 1 + length rest) ≡ place + 1 + next_item rest (label_place rest name)
    → unwrap_or (cond b (Some (place + 1 + skipped rest)) (next_in rest (place + 1) name)) (place + length (item_kind.Label n ∷ rest))
    ≡ place + next_item (item_kind.Label n ∷ rest) (cond b 0 (label_place rest name + 1))
label_by n rest place name true h = omega arith
label_by n rest place name false h = behind_one (item_kind.Label n) rest place name h

next_is : (items : List CodeItem) (place : ℕ) (name : List ℕ) → unwrap_or (next_in items place name) (place + length items) ≡ place + next_item items (label_place items name)
next_is [] place name = omega arith
next_is (item_kind.Label n ∷ rest) place name = label_by n rest place name (bytes_eq n name) (next_is rest (place + 1) name)
next_is (item_kind.Globl n ∷ rest) place name = behind_one (item_kind.Globl n) rest place name (next_is rest (place + 1) name)
next_is (item_kind.Mask m ∷ rest) place name = behind_one (item_kind.Mask m) rest place name (next_is rest (place + 1) name)
next_is (item_kind.Instr i ∷ rest) place name = behind_one (item_kind.Instr i) rest place name (next_is rest (place + 1) name)

pub all_behind : (n : Nexts) (items : List CodeItem) (name : List ℕ) → HasNexts n items 0 → next_behind n name ≡ next_item items (label_place items name)
all_behind n items name h =
    ap (λ (t : Names). unwrap_or (t name) n.end) h.names ∙ ap (λ (d : ℕ). unwrap_or (next_in items 0 name) d) h.last ∙ next_is items 0 name ∙ omega arith
