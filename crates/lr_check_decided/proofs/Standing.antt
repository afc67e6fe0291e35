-- What it says of a settling that it is a class alone.
use Rattle.std.proofs.Common.{◌≡◌, ℕ, List, [], ◌∷◌, Bool, true, false, ◌&&◌, ◌==◌, length, ◌<◌, slice_get, Some, refl, sym, ap, ◌∙◌, subst, eqb-true, eq-eqb, true≢false, arith}
use Rattle.std.specs.Prelude.{slice_index_or}
use Rattle.std.specs.List.{AllWithin, HoldsAt}
use Rattle.std.proofs.lemmas.Option.{slice_get-get_or, slice_get_within, get_or_from_slice_get}
use Rattle.md_reader.specs.declared.types.Sym.{Sym}
use Rattle.md_reader.specs.declared.types.Sym.TheVariants as grammar_symbol
use Rattle.lr_check_found.specs.declared.settlings.Settling.{Settling}
use Rattle.lr_check_found.specs.Found.{FoundView, IsSettlingAt, Settles}
use Rattle.lr_check_decided.specs.Alone.{is_class, is_alone}
use Rattle.lr_check_decided.proofs.Settled.{list_at}

class_is : (s : List Sym) (c : ℕ) → true ≡ is_class s c → s ≡ grammar_symbol.Class c ∷ []
class_is (grammar_symbol.Class d ∷ []) c e = ap (λ k. grammar_symbol.Class k ∷ []) (eqb-true d c (sym e))
class_is _ c e = absurd (true≢false e)

first_of : (a b : Bool) → true ≡ (a && b) → a ≡ true
first_of true b e = refl
first_of false b e = absurd (true≢false e)

second_of : (a b : Bool) → true ≡ (a && b) → true ≡ b
second_of true b e = e
second_of false b e = absurd (true≢false e)

alone_settles : (f : FoundView) (n c i : ℕ) (e : Settling) → IsSettlingAt f i e → true ≡ is_alone f n c e →
    (h : Settles f n (grammar_symbol.Class c ∷ [])) × (h.number ≡ i)
alone_settles f n c i e at fits =
    let s = slice_index_or f.lists.all e.list [] in
    let place : e.place ≡ n = eqb-true e.place n (first_of (e.place == n) (is_class s c) fits) in
    let list : s ≡ grammar_symbol.Class c ∷ [] = class_is s c (second_of (e.place == n) (is_class s c) fits) in
    (record { number = i; entry = e; there = at; place = place; list = list_at f.lists.all e.list (grammar_symbol.Class c) [] list }, refl)

settles_alone : (f : FoundView) (n c : ℕ) (h : Settles f n (grammar_symbol.Class c ∷ [])) → true ≡ is_alone f n c h.entry
settles_alone f n c h =
    let list : slice_index_or f.lists.all h.entry.list [] ≡ grammar_symbol.Class c ∷ [] =
    get_or_from_slice_get f.lists.all h.entry.list (grammar_symbol.Class c ∷ []) [] h.list in
    sym (ap (λ (s : List Sym). (h.entry.place == n) && is_class s c) list ∙ (ap (λ b. b && (c == c)) (eq-eqb h.entry.place n h.place) ∙ eq-eqb c c refl))

-- what is found when the settlings are looked at one by one
module _ (f : FoundView) (n c : ℕ) (all : List Settling) (same : all ≡ f.settlings) (h : Settles f n (grammar_symbol.Class c ∷ [])) where
  pub found_at : (i : ℕ) → i < length all → HoldsAt (λ e. true ≡ is_alone f n c e) all i → (k : Settles f n (grammar_symbol.Class c ∷ [])) × (k.number ≡ i)
  found_at i lt holds =
      let e = slice_index_or all i h.entry in
      let at : IsSettlingAt f i e = subst (λ (l : List Settling). slice_get l i ≡ Some e) same (slice_get-get_or all i h.entry lt) in
      alone_settles f n c i e at (holds h.entry)

  pub found_somewhere : AllWithin (λ e. false ≡ is_alone f n c e) all 0 (length all) → ⊥
  found_somewhere none =
      let there = subst (λ (l : List Settling). slice_get l h.number ≡ Some h.entry) (sym same) h.there in
      let other = none h.number h.entry (omega arith) (slice_get_within all h.number h.entry there) in
      true≢false (settles_alone f n c h ∙ sym (other ∙ ap (is_alone f n c) (get_or_from_slice_get all h.number h.entry h.entry there)))
