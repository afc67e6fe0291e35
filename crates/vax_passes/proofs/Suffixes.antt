-- The rest of a code from a place on.
use Rattle.std.proofs.Common.{◌≡◌, ℕ, zero, suc, ◌+◌, ◌<◌, ◌≤◌, Bool, true, false, cond, List, [], ◌∷◌, length, drop, Some, None, refl, sym, ap, ◌∙◌, arith}
use Rattle.std.specs.Prelude.{◌||◌, slice_get}
use Rattle.std.specs.Str.{bytes_eq}
use Rattle.std.proofs.lemmas.List.{drop-drop}
use Rattle.std.proofs.lemmas.Bool.{true≢false}
use Rattle.std.proofs.lemmas.Slice.Eq.{bytes_eq-Decides}
use Rattle.gg_base.proofs.Facts.{some_none, nil_cons, or_true, second_false}
use Rattle.vax_core.specs.declared.code.CodeItem.{CodeItem}
use Rattle.vax_core.specs.declared.code.CodeItem.TheVariants as item_kind
use Rattle.vax_machine.specs.Labels.{skipped, next_item, is_label, has_label, label_place, double_label, is_service}

-- one place on, behind one item more
pub one_on : {A : Type 0} (x : A) (xs : List A) (p : ℕ) → drop (p + 1) (x ∷ xs) ≡ drop p xs
one_on x xs p = let e : p + 1 ≡ suc p = omega arith in ap (λ (k : ℕ). drop k (x ∷ xs)) e

pub get_on : {A : Type 0} (x : A) (xs : List A) (p : ℕ) → slice_get (x ∷ xs) (p + 1) ≡ slice_get xs p
get_on x xs p = let e : p + 1 ≡ suc p = omega arith in ap (λ (k : ℕ). slice_get (x ∷ xs) k) e

-- an item is the head of the rest from its place on
pub head_at : {A : Type 0} (xs : List A) (p : ℕ) (x : A) (rest : List A) → drop p xs ≡ x ∷ rest → slice_get xs p ≡ Some x
head_at [] zero x rest e = absurd (nil_cons x rest e)
head_at [] (suc p) x rest e = absurd (nil_cons x rest e)
head_at (y ∷ ys) zero x rest e = cc
head_at (y ∷ ys) (suc p) x rest e = head_at ys p x rest e

pub none_at : {A : Type 0} (xs : List A) (p : ℕ) → drop p xs ≡ [] → slice_get xs p ≡ None
none_at [] zero e = refl
none_at [] (suc p) e = refl
none_at (y ∷ ys) zero e = absurd (nil_cons y ys (sym e))
none_at (y ∷ ys) (suc p) e = none_at ys p e

pub rest_behind : {A : Type 0} (xs : List A) (p : ℕ) (x : A) (rest : List A) → drop p xs ≡ x ∷ rest → drop (p + 1) xs ≡ rest
rest_behind [] zero x rest e = absurd (nil_cons x rest e)
rest_behind [] (suc p) x rest e = absurd (nil_cons x rest e)
rest_behind (y ∷ ys) zero x rest e = one_on y ys zero ∙ cc
rest_behind (y ∷ ys) (suc p) x rest e = one_on y ys (suc p) ∙ (let f : suc p ≡ p + 1 = omega arith in ap (λ (k : ℕ). drop k ys) f) ∙ rest_behind ys p x rest e

pub get_inside : {A : Type 0} (xs : List A) (p : ℕ) (x : A) → slice_get xs p ≡ Some x → p < length xs
get_inside [] zero x e = absurd (some_none x (sym e))
get_inside [] (suc p) x e = absurd (some_none x (sym e))
get_inside (y ∷ ys) zero x e = omega arith
get_inside (y ∷ ys) (suc p) x e = let h = get_inside ys p x e in omega (arith, h)

pub get_behind : {A : Type 0} (xs : List A) (p i : ℕ) → slice_get (drop p xs) i ≡ slice_get xs (p + i)
get_behind xs zero i = let e : i ≡ 0 + i = omega arith in ap (λ (k : ℕ). slice_get xs k) e
get_behind [] (suc p) i = refl
get_behind (y ∷ ys) (suc p) i = get_behind ys p i ∙ (let e : suc (p + i) ≡ suc p + i = omega arith in ap (λ (k : ℕ). slice_get (y ∷ ys) k) e)

-- ---- the next item

abbrev pub ahead : List CodeItem → List CodeItem
ahead s = drop (skipped s) s

pub next_rest : (xs : List CodeItem) (p : ℕ) → drop (next_item xs p) xs ≡ ahead (drop p xs)
next_rest xs p = sym (drop-drop (skipped (drop p xs)) p xs)

pub next_head : (xs : List CodeItem) (p : ℕ) (x : CodeItem) (rest : List CodeItem) → ahead (drop p xs) ≡ x ∷ rest → slice_get xs (next_item xs p) ≡ Some x
next_head xs p x rest e = head_at xs (next_item xs p) x rest (next_rest xs p ∙ e)

pub next_none : (xs : List CodeItem) (p : ℕ) → ahead (drop p xs) ≡ [] → slice_get xs (next_item xs p) ≡ None
next_none xs p e = none_at xs (next_item xs p) (next_rest xs p ∙ e)

pub next_behind : (xs : List CodeItem) (p : ℕ) (x : CodeItem) (rest : List CodeItem) → ahead (drop p xs) ≡ x ∷ rest → drop (next_item xs p + 1) xs ≡ rest
next_behind xs p x rest e = rest_behind xs (next_item xs p) x rest (next_rest xs p ∙ e)

skipped_less_by : (n : ℕ) (s : List CodeItem) (x : CodeItem) (j : ℕ) → skipped (x ∷ s) ≡ skipped s + 1 → (j ≤ skipped s → j + skipped (drop j s) ≡ skipped s) → suc j ≤ skipped (x ∷ s)
    → suc j + skipped (drop j s) ≡ skipped (x ∷ s)
skipped_less_by n s x j e h le = let g : j ≤ skipped s = omega (arith, e, le) in omega (arith, e, h g)

pub skipped_less : (s : List CodeItem) (j : ℕ) → j ≤ skipped s → j + skipped (drop j s) ≡ skipped s
skipped_less s zero le = omega arith
skipped_less (item_kind.Label n ∷ s) (suc j) le = skipped_less_by 0 s (item_kind.Label n) j refl (skipped_less s j) le
skipped_less (item_kind.Globl n ∷ s) (suc j) le = skipped_less_by 0 s (item_kind.Globl n) j refl (skipped_less s j) le
skipped_less _ _ le = absurd (omega arith)

-- among labels and `.globl` lines the next item is the same
pub next_same : (xs : List CodeItem) (p j : ℕ) → j ≤ skipped (drop p xs) → next_item xs (p + j) ≡ next_item xs p
next_same xs p j le =
    let e : drop (p + j) xs ≡ drop j (drop p xs) = sym (drop-drop j p xs) in
    let f : j + skipped (drop j (drop p xs)) ≡ skipped (drop p xs) = skipped_less (drop p xs) j le in
    ap (λ (s : List CodeItem). p + j + skipped s) e ∙ omega (arith, f)

-- ---- the place of a label

pub has_in : (ys : List CodeItem) (x : ℕ) (l : List ℕ) (rest : List CodeItem) → drop x ys ≡ item_kind.Label l ∷ rest → has_label ys l ≡ true
has_in [] zero l rest e = absurd (nil_cons _ rest e)
has_in [] (suc x) l rest e = absurd (nil_cons _ rest e)
has_in (y ∷ ys) zero l rest e =
    let same : y ≡ item_kind.Label l = cc in
    ap (λ (z : CodeItem). is_label z l || has_label ys l) same ∙ ap (λ (b : Bool). b || has_label ys l) ((bytes_eq-Decides l l).1 refl)
has_in (y ∷ ys) (suc x) l rest e = ap (λ (b : Bool). is_label y l || b) (has_in ys x l rest e) ∙ or_true (is_label y l)

other_label : (y : CodeItem) (ys : List CodeItem) (l : List ℕ) → has_label ys l ≡ true → double_label (y ∷ ys) ≡ None → (is_label y l ≡ false) × (double_label ys ≡ None)
other_label (item_kind.Globl m) ys l h e = (refl, e)
other_label (item_kind.Mask m) ys l h e = (refl, e)
other_label (item_kind.Instr i) ys l h e = (refl, e)
other_label (item_kind.Label m) ys l h e = by (is_service m || has_label ys m) refl e
  where
    other : (b : Bool) → bytes_eq m l ≡ b → has_label ys m ≡ false → bytes_eq m l ≡ false
    other true eq f = let same : m ≡ l = (bytes_eq-Decides m l).0 eq in absurd (true≢false (sym h ∙ sym (ap (λ (k : List ℕ). has_label ys k) same) ∙ f))
    other false eq f = eq

    by : (b : Bool) → (is_service m || has_label ys m) ≡ b → cond b (Some m) (double_label ys) ≡ None → (bytes_eq m l ≡ false) × (double_label ys ≡ None)
    by true is e = absurd (some_none m e)
    by false is e = (other (bytes_eq m l) refl (second_false _ _ is), e)

-- where no label stands twice, a label's place is where it stands
pub place_of : (ys : List CodeItem) (x : ℕ) (l : List ℕ) (rest : List CodeItem) → double_label ys ≡ None → drop x ys ≡ item_kind.Label l ∷ rest → label_place ys l ≡ x
place_of [] zero l rest d e = absurd (nil_cons _ rest e)
place_of [] (suc x) l rest d e = absurd (nil_cons _ rest e)
place_of (y ∷ ys) zero l rest d e =
    let same : y ≡ item_kind.Label l = cc in
    ap (λ (z : CodeItem). cond (is_label z l) 0 (label_place ys l + 1)) same ∙ ap (λ (b : Bool). cond b 0 (label_place ys l + 1)) ((bytes_eq-Decides l l).1 refl)
place_of (y ∷ ys) (suc x) l rest d e =
    let o = other_label y ys l (has_in ys x l rest e) d in
    ap (λ (b : Bool). cond b 0 (label_place ys l + 1)) o.0 ∙ ap (λ (p : ℕ). p + 1) (place_of ys x l rest o.1 e) ∙ omega arith
