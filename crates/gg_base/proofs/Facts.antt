-- Small facts of truth values, choices, numbers and lists that proofs of many crates cite, beside those of std.
use Rattle.std.proofs.Common.{◌≡◌, ℕ, zero, suc, ◌+◌, ◌-◌, ◌<◌, Bool, true, false, ◌⊎◌, inl, inr, ⊎_elim, Option, Some, None, List, [], ◌∷◌, ◌++◌, length, refl, sym, ap, subst}
use Rattle.std.proofs.Common.{take, drop, get_or, reverse, ◌∙◌, arith}
use Rattle.std.specs.Prelude.{◌≤◌, ◌&&◌, ◌||◌, ◌==◌, cond, if◌then◌else◌, is_some, is_none, IsSome, Result, Ok, Err, IfOk, slice_get, slice_set, slice_index_or}
use Rattle.std.specs.List.{AllByRecursion as All}
use Rattle.std.proofs.Math.Seq.{take-append_seam}
use Rattle.std.proofs.lemmas.List.{length-append, reverse-append, drop_more}
use Rattle.std.proofs.lemmas.Option.{none-some, same_Some}
use Rattle.std.proofs.lemmas.Bool.Decides.{nat_tests}

-- truth values

pub first_true : (a b : Bool) → (a && b) ≡ true → a ≡ true
first_true true b e = refl
first_true false b e = e

pub second_true : (a b : Bool) → (a && b) ≡ true → b ≡ true
second_true true b e = e
second_true false b e = cc

pub first_false : (a b : Bool) → (a || b) ≡ false → a ≡ false
first_false true b e = cc
first_false false b e = refl

pub second_false : (a b : Bool) → (a || b) ≡ false → b ≡ false
second_false true b e = cc
second_false false b e = e

pub either_is : (a b : Bool) {P : Type 0} → (a || b) ≡ true → (a ≡ true → P) → (b ≡ true → P) → P
either_is true b e f g = f refl
either_is false b e f g = g e

pub true_or_false : (b : Bool) → b ≡ true → b ≡ false → ⊥
true_or_false b e h = cc

pub false_true : {A : Type 0} → false ≡ true → A
false_true e = absurd (cc)

pub same_bool : (a b : Bool) → (a ≡ true → b ≡ true) → (b ≡ true → a ≡ true) → a ≡ b
same_bool true b h g = sym (h refl)
same_bool false true h g = g refl
same_bool false false h g = refl

pub no_prop : IsProp ⊥
no_prop = hlevel

pub or_true : (b : Bool) → (b || true) ≡ true
or_true true = refl
or_true false = refl

pub and_false : (b : Bool) → (b && false) ≡ false
and_false true = refl
and_false false = refl

-- choices

pub some_none : {A : Type 0} (x : A) → Some x ≡ None → ⊥
some_none x e = cc

pub none_or_some : {A : Type 0} (o : Option A) (x : A) → o ≡ None → o ≡ Some x → ⊥
none_or_some o x e h = cc

pub none_is : {A : Type 0} (o : Option A) → is_none o ≡ true → o ≡ None
none_is None e = refl
none_is (Some x) e = absurd (cc)

pub not_some : {A : Type 0} (o : Option A) → is_some o ≡ false → o ≡ None
not_some None e = refl
not_some (Some x) e = absurd (cc)

pub guarded : {A : Type 0} (b : Bool) (o : Option A) (y : A) → cond b o None ≡ Some y → (b ≡ true) × (o ≡ Some y)
guarded true o y e = (refl, e)
guarded false o y e = absurd (none-some y e)

pub unguarded : {A : Type 0} (b : Bool) (o : Option A) (y : A) → cond b None o ≡ Some y → (b ≡ false) × (o ≡ Some y)
unguarded false o y e = (refl, e)
unguarded true o y e = absurd (none-some y e)

pub the_number : (o : Option ℕ) → IsSome o → (x : ℕ) × (o ≡ Some x)
the_number None h = absurd (let e : false ≡ true = h in cc)
the_number (Some x) h = (x, refl)

pub err_ok : {A E : Type 0} (e : E) (x : A) → Err e ≡ Ok x → ⊥
err_ok e x h = cc

pub ok_same : {A E : Type 0} (x y : A) → ◌≡◌ {A = Result A E} (Ok x) (Ok y) → x ≡ y
ok_same x y e = cc

pub if_ok : {A E : Type 0} (r : Result A E) (P Q : A → Type 0) → ((x : A) → P x → Q x) → IfOk r P → IfOk r Q
if_ok (Ok x) P Q g h = g x h
if_ok (Err e) P Q g h = tt

pub if_true : {A : Type 0} (b : Bool) (x y : A) → b ≡ true → (if b then x else y) ≡ x
if_true b x y e = ap (λ t. if t then x else y) e

pub if_false : {A : Type 0} (b : Bool) (x y : A) → b ≡ false → (if b then x else y) ≡ y
if_false b x y e = ap (λ t. if t then x else y) e

-- numbers

pub one_up : (m n : ℕ) → m ≤ n → m ≤ 1 + n
one_up m n le = omega (arith, le)

pub not_zero : (k : ℕ) → (suc k == 0) ≡ false
not_zero k = grind (arith, nat_tests)

pub one_less : (k : ℕ) → suc k - 1 ≡ k
one_less k = omega arith

pub is_zero : (n : ℕ) → n ≡ 0 → (n == 0) ≡ true
is_zero n e = ap (λ (k : ℕ). k == 0) e

-- lists

pub nil_cons : {A : Type 0} (x : A) (xs : List A) → [] ≡ x ∷ xs → ⊥
nil_cons x xs e = cc

pub cons_nil : {A : Type 0} (x : A) (xs : List A) → x ∷ xs ≡ [] → ⊥
cons_nil x xs e = cc

pub head_same : {A : Type 0} (x y : A) (xs ys : List A) → x ∷ xs ≡ y ∷ ys → x ≡ y
head_same x y xs ys e = cc

pub tail_same : {A : Type 0} (x y : A) (xs ys : List A) → x ∷ xs ≡ y ∷ ys → xs ≡ ys
tail_same x y xs ys e = cc

pub slice_some : {A : Type 0} (xs : List A) (n : ℕ) → n < length xs → (x : A) × (slice_get xs n ≡ Some x)
slice_some [] n lt = absurd (omega (arith, lt))
slice_some (x ∷ xs) zero lt = (x, refl)
slice_some (x ∷ xs) (suc n) lt = slice_some xs n (omega (arith, lt))

pub slice_left : {A : Type 0} (xs ys : List A) (n : ℕ) (x : A) → slice_get xs n ≡ Some x → slice_get (xs ++ ys) n ≡ Some x
slice_left [] ys n x e = absurd (none-some x e)
slice_left (z ∷ xs) ys zero x e = e
slice_left (z ∷ xs) ys (suc n) x e = slice_left xs ys n x e

pub slice_seam : {A : Type 0} (xs : List A) (x : A) (ys : List A) → slice_get (xs ++ x ∷ ys) (length xs) ≡ Some x
slice_seam [] x ys = refl
slice_seam (z ∷ xs) x ys = slice_seam xs x ys

pub slice_last : {A : Type 0} (xs : List A) (x : A) → slice_get (xs ++ x ∷ []) (length xs) ≡ Some x
slice_last xs x = slice_seam xs x []

pub slice_set_same : {A : Type 0} (xs : List A) (n : ℕ) (y : A) → n < length xs → slice_get (slice_set xs n y) n ≡ Some y
slice_set_same [] n y lt = absurd (omega (arith, lt))
slice_set_same (x ∷ xs) zero y lt = refl
slice_set_same (x ∷ xs) (suc n) y lt = slice_set_same xs n y (omega (arith, lt))

pub slice_set_other : {A : Type 0} (xs : List A) (n : ℕ) (y : A) (i : ℕ) → (i ≡ n → ⊥) → slice_get (slice_set xs n y) i ≡ slice_get xs i
slice_set_other [] n y i ne = refl
slice_set_other (x ∷ xs) zero y zero ne = absurd (ne refl)
slice_set_other (x ∷ xs) zero y (suc i) ne = refl
slice_set_other (x ∷ xs) (suc n) y zero ne = refl
slice_set_other (x ∷ xs) (suc n) y (suc i) ne = slice_set_other xs n y i (λ e. ne (ap suc e))

pub all_append : {A : Type 0} (P : A → Type 0) (xs ys : List A) → All P xs → All P ys → All P (xs ++ ys)
all_append P [] ys h g = g
all_append P (x ∷ xs) ys h g = (h.0, all_append P xs ys h.1 g)

pub all_get : {A : Type 0} (P : A → Type 0) (xs : List A) (n : ℕ) (x : A) → All P xs → slice_get xs n ≡ Some x → P x
all_get P [] n x h e = absurd (none-some x e)
all_get P (y ∷ xs) zero x h e = subst P (same_Some y x e) h.0
all_get P (y ∷ xs) (suc n) x h e = all_get P xs n x h.1 e

pub slice_cases : {A : Type 0} (xs : List A) (x : A) (n : ℕ) (y : A)
    → slice_get (xs ++ x ∷ []) n ≡ Some y → (slice_get xs n ≡ Some y) ⊎ ((n ≡ length xs) × (y ≡ x))
slice_cases [] x zero y e = inr (refl, sym (same_Some x y e))
slice_cases [] x (suc n) y e = absurd (none-some y e)
slice_cases (z ∷ xs) x zero y e = inl e
slice_cases (z ∷ xs) x (suc n) y e = ⊎_elim (λ h. inl h) (λ h. inr (ap suc h.0, h.1)) (slice_cases xs x n y e)

pub take_within : {A : Type 0} (xs ys : List A) (n : ℕ) → n ≤ length xs → take n (xs ++ ys) ≡ take n xs
take_within xs ys zero le = refl
take_within [] ys (suc n) le = absurd (omega (arith, le))
take_within (x ∷ xs) ys (suc n) le = ap (λ (zs : List _). x ∷ zs) (take_within xs ys n (omega (arith, le)))

pub take_front : {A : Type 0} (xs : List A) (x : A) → take (length (xs ++ x ∷ []) - 1) (xs ++ x ∷ []) ≡ xs
take_front xs x =
    let n : length (xs ++ x ∷ []) - 1 ≡ length xs = (let a = length-append xs (x ∷ []) in omega (arith, a)) in
    ap (λ (k : ℕ). take k (xs ++ x ∷ [])) n ∙ take-append_seam xs (x ∷ [])

-- what is left from a place on begins with what stands there
pub front_is : {A : Type 0} (xs : List A) (i : ℕ) (x : A) → i < length xs → x ≡ get_or xs i x → drop i xs ≡ x ∷ drop (i + 1) xs
front_is xs i x lt is = drop_more xs i x lt ∙ ap (λ y. y ∷ drop (i + 1) xs) (sym is)

pub reverse_last : {A : Type 0} (items rest : List A) (x : A) → items ≡ rest ++ x ∷ [] → reverse items ≡ x ∷ reverse rest
reverse_last items rest x e = ap (λ (ys : List _). reverse ys) e ∙ reverse-append rest (x ∷ [])

pub nil_of : {A : Type 0} (xs : List A) → length xs ≡ 0 → xs ≡ []
nil_of [] e = refl
nil_of (x ∷ xs) e = absurd (omega (arith, e))

pub index_of : {A : Type 0} (xs : List A) (i : ℕ) (x d : A) → slice_get xs i ≡ Some x → slice_index_or xs i d ≡ x
index_of [] zero x d e = absurd (cc)
index_of [] (suc i) x d e = absurd (cc)
index_of (y ∷ xs) zero x d e = same_Some y x e
index_of (y ∷ xs) (suc i) x d e = index_of xs i x d e

pub index_there : {A : Type 0} (xs : List A) (i : ℕ) (d : A) → i < length xs → slice_get xs i ≡ Some (slice_index_or xs i d)
index_there [] i d lt = absurd (omega (arith, lt))
index_there (x ∷ xs) zero d lt = refl
index_there (x ∷ xs) (suc i) d lt = index_there xs i d (omega (arith, lt))
