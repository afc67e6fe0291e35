-- What stands in a term that can be read can be read.
use Rattle.std.proofs.Common.{◌≡◌, ℕ, ◌||◌, Bool, true, false, List, [], ◌∷◌, refl, sym, subst}
use Rattle.std.specs.List.{AllByRecursion, list_any, list_all}
use Rattle.std.proofs.lemmas.Bool.{false≢true, and_parts}
use Rattle.term_core.specs.Shape.{Shape, Constant, Symbol, LastResult, Memory, Unary, Binary}
use Rattle.term_core.specs.Order.{same_term}
use Rattle.term_core.proofs.Alike.{term_same}
use Rattle.vax_target_spelling.specs.sel_terms.specs.Effects.{EffectShape, Value, StoreHome}
use Rattle.vax_target_spelling.specs.sel_target.specs.Values.{View, IsRead}
use Rattle.gg_base.specs.declared.size.Size.{Size}
use Rattle.gg_base.proofs.Facts.{either_is}
use Rattle.vax_target_spelling.specs.vax_templates.specs.Dropped.{contains, act_contains, effect_contains}

itself : (v : View) (part t : Shape) → same_term part t ≡ true → IsRead v t → IsRead v part
itself v part t e h = subst (IsRead v) (sym (term_same part t e)) h

pub part_is_read : (v : View) (part t : Shape) → contains part t ≡ true → IsRead v t → IsRead v part
part_is_read v part (Constant n) e h = itself v part (Constant n) e h
part_is_read v part (Symbol i) e h = itself v part (Symbol i) e h
part_is_read v part LastResult e h = itself v part LastResult e h
part_is_read v part (Memory z a) e h =
    either_is (same_term part (Memory z a)) (contains part a) e (λ s. itself v part (Memory z a) s h) (λ c. part_is_read v part a c h.0)
part_is_read v part (Unary op a) e h =
    either_is (same_term part (Unary op a)) (contains part a) e (λ s. itself v part (Unary op a) s h) (λ c. part_is_read v part a c h)
part_is_read v part (Binary op a b) e h =
    either_is (same_term part (Binary op a b)) (contains part a || contains part b) e (λ s. itself v part (Binary op a b) s h)
    (λ c. either_is (contains part a) (contains part b) c (λ x. part_is_read v part a x h.0) (λ x. part_is_read v part b x h.1))

-- an effect of one term that doesn't divide
all_read : (v : View) (e : EffectShape) (t : Shape) → ((part : Shape) → effect_contains e part ≡ true → contains part t ≡ true) → IsRead v t → (reads : List Shape) →
    list_all (effect_contains e) reads ≡ true → AllByRecursion (λ (r : Shape). IsRead v r) reads
all_read v e t only h [] all = tt
all_read v e t only h (r ∷ rs) all =
    let both = and_parts (effect_contains e r) (list_all (effect_contains e) rs) all in
    (part_is_read v r t (only r both.0) h, all_read v e t only h rs both.1)

or_false : (a : Bool) → (a || false) ≡ true → a ≡ true
or_false true e = refl
or_false false e = absurd (false≢true e)

pub stored_reads : (v : View) (e : EffectShape) (z : Size) (i : ℕ) (t : Shape) → e.act ≡ StoreHome z i t → e.divisors ≡ [] → IsRead v t → (reads : List Shape) →
    list_all (effect_contains e) reads ≡ true → AllByRecursion (λ (r : Shape). IsRead v r) reads
stored_reads v e z i t act none h reads all =
    all_read v e t (λ part c. or_false (contains part t) (subst (λ (ds : List Shape). (contains part t || list_any (contains part) ds) ≡ true) none
    (subst (λ a. (act_contains a part || list_any (contains part) e.divisors) ≡ true) act c))) h reads all

pub value_reads : (v : View) (e : EffectShape) (t : Shape) → e.act ≡ Value t → e.divisors ≡ [] → IsRead v t → (reads : List Shape) →
    list_all (effect_contains e) reads ≡ true → AllByRecursion (λ (r : Shape). IsRead v r) reads
value_reads v e t act none h reads all =
    all_read v e t (λ part c. or_false (contains part t) (subst (λ (ds : List Shape). (contains part t || list_any (contains part) ds) ≡ true) none
    (subst (λ a. (act_contains a part || list_any (contains part) e.divisors) ≡ true) act c))) h reads all
