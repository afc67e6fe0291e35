-- What holds of a value where there is one, carried through the parts of a reading and of a judgement.
use Rattle.std.proofs.Common.{◌≡◌, Bool, true, false, cond, Option, Some, None, Result, Ok, Err, List, [], ◌∷◌, map, refl, subst, option_map}
use Rattle.std.specs.Option.{option_and_then, option_map_or}
use Rattle.std.specs.List.{AllByRecursion}
use Rattle.vax_templates.specs.Standing.{◌>>=◌}
use Rattle.judging_laws.specs.Each.{Each, EachOk}

pub map_or_each : {A B : Type 0} (P : B → Type 0) (o : Option A) (f : A → Option B) (other : Option B) →
    ((x : A) → o ≡ Some x → Each P (f x)) → Each P other → Each P (option_map_or f o other)
map_or_each P None f other h k = k
map_or_each P (Some x) f other h k = h x refl

pub and_then_each : {A B : Type 0} (Q : A → Type 0) (P : B → Type 0) (o : Option A) (f : A → Option B) →
    ((x : A) → Q x → Each P (f x)) → Each Q o → Each P (option_and_then f o)
and_then_each Q P None f h k = tt
and_then_each Q P (Some x) f h k = h x k

pub map_each : {A B : Type 0} (P : B → Type 0) (o : Option A) (f : A → B) → Each (λ (x : A). P (f x)) o → Each P (option_map f o)
map_each P None f h = tt
map_each P (Some x) f h = h

pub always : {A : Type 0} {P : Type 0} (o : Option A) → P → Each (λ (x : A). P) o
always None p = tt
always (Some x) p = p

pub bind_each : {A B E : Type 0} (Q : A → Type 0) (P : B → Type 0) (r : Result A E) (f : A → Result B E) →
    ((x : A) → Q x → EachOk P (f x)) → EachOk Q r → EachOk P (r >>= f)
bind_each Q P (Ok x) f h k = h x k
bind_each Q P (Err e) f h k = tt

pub always_ok : {A E : Type 0} {P : Type 0} (r : Result A E) → P → EachOk (λ (x : A). P) r
always_ok (Ok x) p = p
always_ok (Err e) p = tt

-- what holds of the first part still holds behind the second
pub still_ok : {A B E : Type 0} (P : Type 0) (r : Result A E) (f : A → Result B E) → EachOk (λ (x : A). P) r → EachOk (λ (y : B). P) (r >>= f)
still_ok P (Ok x) f h = always_ok (f x) h
still_ok P (Err e) f h = tt

pub of_ok : {A E : Type 0} (P : A → Type 0) (r : Result A E) (x : A) → r ≡ Ok x → EachOk P r → P x
of_ok P r x e h = subst (EachOk P) e h

-- a test
pub if_each : {A : Type 0} (P : A → Type 0) (b : Bool) (x y : Option A) → (b ≡ true → Each P x) → (b ≡ false → Each P y) → Each P (cond b x y)
if_each P true x y h k = h refl
if_each P false x y h k = k refl

pub if_ok : {A E : Type 0} (P : A → Type 0) (b : Bool) (x y : Result A E) → (b ≡ true → EachOk P x) → (b ≡ false → EachOk P y) → EachOk P (cond b x y)
if_ok P true x y h k = h refl
if_ok P false x y h k = k refl

pub all_of_map : {A B : Type 0} (P : B → Type 0) (f : A → B) (xs : List A) → AllByRecursion (λ (x : A). P (f x)) xs → AllByRecursion P (map f xs)
all_of_map P f [] h = tt
all_of_map P f (x ∷ xs) h = (h.0, all_of_map P f xs h.1)
