-- The test of sameness tells it.
use Rattle.std.proofs.Common.{◌≡◌, ℕ, ◌==◌, ◌&&◌, Bool, true, List, [], ◌∷◌, sym, ap, ◌∙◌, refl, subst, arith}
use Rattle.std.specs.Prelude.{◌↔◌, IsTrue, IfOk, Result, Ok, Err}
use Rattle.std.proofs.lemmas.Bool.Decides.{nat_tests}
use Rattle.std.proofs.lemmas.Bool.{and_from, eqb-true}
use Rattle.gg_base.proofs.Facts.{first_true, second_true}
use Rattle.gg_base.specs.Sizes.{bytes_of}
use Rattle.gg_base.specs.declared.size.Size.{Size}
use Rattle.term_core.specs.Shape.{Shape}
use Rattle.term_core.specs.Order.{same_term}
use Rattle.sel_terms.specs.Effects.{ActShape, EffectShape, Value, Number, Address, PlaceHome, PlaceAt, StoreHome, StoreAt, Branch, Push, Call, Save, Return, Jump}
use Rattle.sel_terms.specs.Same.{same_size, same_act, same_terms, same_effect}
use Rattle.term_core.proofs.Ordered.{size_same}
use Rattle.term_core.proofs.Alike.{term_same, term_itself}

-- the parts of a conjunction

pub number_is : (n : ℕ) → (n == n) ≡ true
number_is n = grind (arith, nat_tests)

pub equal_sizes : (z y : Size) → same_size z y ≡ true → z ≡ y
equal_sizes z y e = size_same z y (eqb-true (bytes_of z) (bytes_of y) e)

act_same : (a b : ActShape) → same_act a b ≡ true → a ≡ b
act_same (Value s) (Value t) e = ap Value (term_same s t e)
act_same (Number s) (Number t) e = ap Number (term_same s t e)
act_same (Address s) (Address t) e = ap Address (term_same s t e)
act_same (PlaceHome z i) (PlaceHome y j) e =
    let h = equal_sizes z y (first_true (same_size z y) (i == j) e) in
    let k = eqb-true i j (second_true (same_size z y) (i == j) e) in
    cc
act_same (PlaceAt z s) (PlaceAt y t) e =
    let h = equal_sizes z y (first_true (same_size z y) (same_term s t) e) in
    let k = term_same s t (second_true (same_size z y) (same_term s t) e) in
    cc
act_same (StoreHome z i s) (StoreHome y j t) e =
    let p = first_true (same_size z y && (i == j)) (same_term s t) e in
    let h = equal_sizes z y (first_true (same_size z y) (i == j) p) in
    let k = eqb-true i j (second_true (same_size z y) (i == j) p) in
    let l = term_same s t (second_true (same_size z y && (i == j)) (same_term s t) e) in
    cc
act_same (StoreAt z a s) (StoreAt y b t) e =
    let p = first_true (same_size z y && same_term a b) (same_term s t) e in
    let h = equal_sizes z y (first_true (same_size z y) (same_term a b) p) in
    let k = term_same a b (second_true (same_size z y) (same_term a b) p) in
    let l = term_same s t (second_true (same_size z y && same_term a b) (same_term s t) e) in
    cc
act_same (Branch i a s) (Branch j b t) e =
    let p = first_true ((i == j) && same_term a b) (same_term s t) e in
    let h = eqb-true i j (first_true (i == j) (same_term a b) p) in
    let k = term_same a b (second_true (i == j) (same_term a b) p) in
    let l = term_same s t (second_true ((i == j) && same_term a b) (same_term s t) e) in
    cc
act_same (Push s) (Push t) e = ap Push (term_same s t e)
act_same Call Call e = refl
act_same (Save i) (Save j) e = ap Save (eqb-true i j e)
act_same (Return s) (Return t) e = ap Return (term_same s t e)
act_same Jump Jump e = refl
act_same a b e = absurd (cc)

size_is : (z : Size) → same_size z z ≡ true
size_is z = number_is (bytes_of z)

act_itself : (a : ActShape) → same_act a a ≡ true
act_itself (Value s) = term_itself s
act_itself (Number s) = term_itself s
act_itself (Address s) = term_itself s
act_itself (PlaceHome z i) = and_from _ _ (size_is z) (number_is i)
act_itself (PlaceAt z s) = and_from _ _ (size_is z) (term_itself s)
act_itself (StoreHome z i s) = and_from _ _ (and_from _ _ (size_is z) (number_is i)) (term_itself s)
act_itself (StoreAt z a s) = and_from _ _ (and_from _ _ (size_is z) (term_itself a)) (term_itself s)
act_itself (Branch i a s) = and_from _ _ (and_from _ _ (number_is i) (term_itself a)) (term_itself s)
act_itself (Push s) = term_itself s
act_itself Call = refl
act_itself (Save i) = number_is i
act_itself (Return s) = term_itself s
act_itself Jump = refl

terms_same : (ss ts : List Shape) → same_terms ss ts ≡ true → ss ≡ ts
terms_same [] [] e = refl
terms_same [] (t ∷ ts) e = absurd (cc)
terms_same (s ∷ ss) [] e = absurd (cc)
terms_same (s ∷ ss) (t ∷ ts) e =
    let h = term_same s t (first_true (same_term s t) (same_terms ss ts) e) in
    let k = terms_same ss ts (second_true (same_term s t) (same_terms ss ts) e) in
    cc

terms_itself : (ss : List Shape) → same_terms ss ss ≡ true
terms_itself [] = refl
terms_itself (s ∷ ss) = and_from _ _ (term_itself s) (terms_itself ss)

abbrev made_of : ActShape → List Shape → EffectShape
made_of a ds = record { act = a; divisors = ds }

made_same : (a b : ActShape) (ds es : List Shape) → a ≡ b → ds ≡ es → made_of a ds ≡ made_of b es
made_same a b ds es p q = ap (λ x. made_of x ds) p ∙ ap (made_of b) q

effect_same : (e f : EffectShape) → same_effect e f ≡ true → e ≡ f
effect_same e f h =
    made_same e.act f.act e.divisors f.divisors
    (act_same e.act f.act (first_true (same_act e.act f.act) (same_terms e.divisors f.divisors) h))
    (terms_same e.divisors f.divisors (second_true (same_act e.act f.act) (same_terms e.divisors f.divisors) h))

effect_itself : (e : EffectShape) → same_effect e e ≡ true
effect_itself e = and_from _ _ (act_itself e.act) (terms_itself e.divisors)

pub same_effect_tells : (e f : EffectShape) → IsTrue (same_effect e f) ↔ (e ≡ f)
same_effect_tells e f = (effect_same e f, λ h. subst (λ x. same_effect e x ≡ true) h (effect_itself e))

-- an answer that is a test tells what the test tells
pub answer_tells : {E : Type 0} (r : Result Bool E) (b : Bool) (P : Type 0) → IfOk r (λ x. x ≡ b) → IsTrue b ↔ P → IfOk r (λ x. IsTrue x ↔ P)
answer_tells (Ok x) b P e h = subst (λ (y : Bool). IsTrue y ↔ P) (sym e) h
answer_tells (Err f) b P e h = tt
