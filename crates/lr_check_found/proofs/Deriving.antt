-- What follows from what has been found is in the sets.
use Rattle.std.proofs.Common.{◌≡◌, ℕ, List, [], ◌∷◌, ◌++◌, Option, Some, drop, length, slice_get, refl, sym, ap, ◌∙◌, subst}
use Rattle.std.proofs.lemmas.Option.{same_Some}
use Rattle.tree_core.specs.declared.token.Tok.{Tok}
use Rattle.tree_core.specs.declared.token.Tok.TheVariants as tok
use Rattle.tree_core.specs.declared.token.Sort.{Sort}
use Rattle.tree_core.specs.Grammar.{kids}
use Rattle.md_reader.specs.declared.types.Sym.{Sym}
use Rattle.md_reader.specs.declared.types.Sym.TheVariants as grammar_symbol
use Rattle.lr_check_sets.specs.Trees.{May, Begins}
use Rattle.lr_check_sets.specs.Automaton.{Automaton, Production, walk, size_of, reduced}
use Rattle.lr_check_sets.specs.Sums as sets
use Rattle.lr_check_sets.proofs.Walks.{walk-append}
use Rattle.lr_check_sets.proofs.Links.{drop_whole}
use Rattle.lr_check_found.specs.declared.places.Place.{Place}
use Rattle.lr_check_found.specs.declared.places.Origin.{Origin}
use Rattle.lr_check_found.specs.declared.settlings.How.{How}
use Rattle.lr_check_found.specs.declared.settlings.Settling.{Settling}
use Rattle.lr_check_found.specs.Found.{FoundView, IsPlaceAt, SumAt}
use Rattle.lr_check_found.specs.Items.{Fits, Begun, root, only, first, second, Made, leaf, one, two, made_by_reduction, IsBehind, behind_leaf, behind_one, behind_two, behind_reduced}
use Rattle.lr_check_found.specs.Sound.{IsSoundSettling, IsFound}

-- the same place, by its parts
at : (A : Automaton) (x : Place) (q : ℕ) (b : Tok) → x.state ≡ q → x.behind ≡ b → sets.Place A q x.token b → sets.Place A x.state x.token x.behind
at A x q b e f h = subst (λ n. sets.Place A n x.token x.behind) (sym e) (subst (sets.Place A q x.token) (sym f) h)

-- the state behind a token and a list
pub walk_from : (A : Automaton) (q p : ℕ) (X : Sym) (s : List Sym) → A.go q X ≡ Some p → walk A q (s ++ (X ∷ [])) ≡ walk A p s
walk_from A q p X s e = walk-append A q p s (X ∷ []) e

-- a sum that was found
pub record IsSum (A : Automaton) (y : Place) (s : List Sym) (p : ℕ) : Type 0 where
  pub is_sum : sets.Sum A y.state y.token y.behind s
  pub walks : walk A y.state s ≡ Some p

pub sum_of : (A : Automaton) (f : FoundView) (i : ℕ) (y : Place) (s : List Sym) (p : ℕ) → IsFound A f → SumAt f i y s p → IsSum A y s p
sum_of A f i y s p found h =
    let e : IsSoundSettling A f i h.entry = found.settlings i h.entry h.there in
    let place : e.place ≡ y = same_Some e.place y (sym e.there ∙ h.place) in
    let list : e.list ≡ s = same_Some e.list s (sym e.symbols ∙ h.list) in
    record {
      is_sum = subst (λ (z : Place). sets.Sum A z.state z.token z.behind s) place (subst (sets.Sum A e.place.state e.place.token e.place.behind) list (e.sum h.is_sum));
      walks = subst (λ (z : Place). walk A z.state s ≡ Some p) place (subst (λ (l : List Sym). walk A e.place.state l ≡ Some p) list (sym e.behind ∙ h.behind));
    }

-- places
only_place : (A : Automaton) (q p : ℕ) (k b n : Tok) (w : Sort) → sets.Place A q k b → A.go q (grammar_symbol.Tok k) ≡ Some p → kids k ≡ w ∷ [] → May n w → sets.Place A p n b
only_place A q p k b n w place go kid may =
    sets.at_kid (subst (λ l. sets.Partly A q k b (grammar_symbol.Tok k ∷ []) l n) kid (sets.opened place go (subst (λ l. Begins l b n) (sym kid) may))) go refl

first_place : (A : Automaton) (q p : ℕ) (k b n m : Tok) (w v : Sort) → sets.Place A q k b → A.go q (grammar_symbol.Tok k) ≡ Some p → kids k ≡ w ∷ v ∷ [] → May n w → May m v → sets.Place A p n m
first_place A q p k b n m w v place go kid may may' =
    sets.at_kid (subst (λ l. sets.Partly A q k b (grammar_symbol.Tok k ∷ []) l n) kid (sets.opened place go (subst (λ l. Begins l b n) (sym kid) may))) go may'

-- the first kid is in
first_in : (A : Automaton) (q p : ℕ) (k b n m : Tok) (w v : Sort) (s : List Sym) →
    sets.Place A q k b → A.go q (grammar_symbol.Tok k) ≡ Some p → kids k ≡ w ∷ v ∷ [] → May n w → May m v → sets.Sum A p n m s → sets.Partly A q k b (s ++ (grammar_symbol.Tok k ∷ [])) (v ∷ []) m
first_in A q p k b n m w v s place go kid may may' sum =
    sets.with_kid (subst (λ l. sets.Partly A q k b (grammar_symbol.Tok k ∷ []) l n) kid (sets.opened place go (subst (λ l. Begins l b n) (sym kid) may))) go may' sum

second_place : (A : Automaton) (q p j : ℕ) (k b n m : Tok) (w v : Sort) (s : List Sym) →
    sets.Place A q k b → A.go q (grammar_symbol.Tok k) ≡ Some p → kids k ≡ w ∷ v ∷ [] → May n w → May m v → sets.Sum A p n m s → walk A p s ≡ Some j → sets.Place A j m b
second_place A q p j k b n m w v s place go kid may may' sum ws =
    sets.at_kid (first_in A q p k b n m w v s place go kid may may' sum) (walk_from A q p (grammar_symbol.Tok k) s go ∙ ws) refl

pub place_of_begun : (A : Automaton) (f : FoundView) (x : Place) (o : Origin) → IsFound A f → Begun A f x o → sets.Place A x.state x.token x.behind
place_of_begun A f x _ found (root h) = at A x 0 tok.End h.state h.behind (sets.at_start h.may)
place_of_begun A f x _ found (only {i = i} {p = p} {y = y} {w = w} there h g) =
    at A x p y.behind g.state g.behind (only_place A y.state p y.token y.behind x.token w (found.places i y there).is_place h.go h.kid g.may)
place_of_begun A f x _ found (first {i = i} {p = p} {y = y} {w = w} {v = v} m there h g may) =
    at A x p m g.state g.behind (first_place A y.state p y.token y.behind x.token m w v (found.places i y there).is_place h.go h.kid g.may may)
place_of_begun A f x _ found (second {i = i} {n = n} {p = p} {j = j} {y = y} {z = z} {w = w} {v = v} {s = s} there h sum fit g) =
    let is : IsSum A z s j = sum_of A f n z s j found sum in
    at A x j y.behind g.state g.behind
    (second_place A y.state p j y.token y.behind z.token x.token w v s (found.places i y there).is_place h.go h.kid fit.may g.may
    (subst (λ q. sets.Sum A q z.token x.token s) fit.state (subst (λ b. sets.Sum A z.state z.token b s) fit.behind is.is_sum))
    (subst (λ q. walk A q s ≡ Some j) fit.state is.walks))

-- lists that settle
pub record IsSettled (A : Automaton) (x : Place) (s : List Sym) : Type 0 where
  pub settles : sets.Settling A x.state x.token x.behind s

leaf_settles : (A : Automaton) (q p : ℕ) (k b : Tok) → sets.Place A q k b → A.go q (grammar_symbol.Tok k) ≡ Some p → kids k ≡ [] → sets.Settling A q k b (grammar_symbol.Tok k ∷ [])
leaf_settles A q p k b place go kid = sets.whole (subst (λ l. sets.Partly A q k b (grammar_symbol.Tok k ∷ []) l b) kid (sets.opened place go (subst (λ l. Begins l b b) (sym kid) refl)))

one_settles : (A : Automaton) (q p : ℕ) (k b n : Tok) (w : Sort) (s : List Sym) →
    sets.Place A q k b → A.go q (grammar_symbol.Tok k) ≡ Some p → kids k ≡ w ∷ [] → May n w → sets.Sum A p n b s → sets.Settling A q k b (s ++ (grammar_symbol.Tok k ∷ []))
one_settles A q p k b n w s place go kid may sum =
    sets.whole (sets.with_kid (subst (λ l. sets.Partly A q k b (grammar_symbol.Tok k ∷ []) l n) kid (sets.opened place go (subst (λ l. Begins l b n) (sym kid) may))) go refl sum)

two_settles : (A : Automaton) (q p j : ℕ) (k b n m : Tok) (w v : Sort) (s u : List Sym) →
    sets.Place A q k b → A.go q (grammar_symbol.Tok k) ≡ Some p → kids k ≡ w ∷ v ∷ [] → May n w → May m v → sets.Sum A p n m s → walk A p s ≡ Some j → sets.Sum A j m b u →
    sets.Settling A q k b (u ++ (s ++ (grammar_symbol.Tok k ∷ [])))
two_settles A q p j k b n m w v s u place go kid may may' sum ws sum' =
    sets.whole (sets.with_kid (first_in A q p k b n m w v s place go kid may may' sum) (walk_from A q p (grammar_symbol.Tok k) s go ∙ ws) refl sum')

pub whole_left : (r : Production) (s : List Sym) → size_of r ≡ length s → reduced r s ≡ grammar_symbol.Class r.left ∷ []
whole_left r s e = ap (λ l. grammar_symbol.Class r.left ∷ l) (ap (λ n. drop n s) e ∙ drop_whole s)

-- a kid's sum, where it is wanted
kid_sum : (A : Automaton) (y : Place) (w : Sort) (p j : ℕ) (b : Tok) (s : List Sym) → IsSum A y s j → Fits y w p b → sets.Sum A p y.token b s
kid_sum A y w p j b s is g = subst (λ q. sets.Sum A q y.token b s) g.state (subst (λ c. sets.Sum A y.state y.token c s) g.behind is.is_sum)

kid_walks : (A : Automaton) (y : Place) (w : Sort) (p j : ℕ) (b : Tok) (s : List Sym) → IsSum A y s j → Fits y w p b → walk A p s ≡ Some j
kid_walks A y w p j b s is g = subst (λ q. walk A q s ≡ Some j) g.state is.walks

pub settled_of_made : (A : Automaton) (f : FoundView) (n : ℕ) (x : Place) (h : How) (s : List Sym) → IsFound A f → IsPlaceAt f n x → Made A f n x h s → IsSettled A x s
settled_of_made A f n x _ _ found there (leaf {p = p} go kid) = record { settles = leaf_settles A x.state p x.token x.behind (found.places n x there).is_place go kid }
settled_of_made A f n x _ _ found there (one {i = i} {p = p} {j = j} {y = y} {w = w} {s = s} h sum g) =
    let is : IsSum A y s j = sum_of A f i y s j found sum in
    record { settles = one_settles A x.state p x.token x.behind y.token w s (found.places n x there).is_place h.go h.kid g.may (kid_sum A y w p j x.behind s is g) }
settled_of_made A f n x _ _ found there (two {i = i} {k = k} {p = p} {j = j} {h = c} {y = y} {z = z} {w = w} {v = v} {s = s} {u = u} h sum g sum' g') =
    let is : IsSum A y s j = sum_of A f i y s j found sum in
    let is' : IsSum A z u c = sum_of A f k z u c found sum' in
    record {
      settles = two_settles A x.state p j x.token x.behind y.token z.token w v s u (found.places n x there).is_place h.go h.kid g.may g'.may
          (kid_sum A y w p j z.token s is g) (kid_walks A y w p j z.token s is g) (kid_sum A z v j c x.behind u is' g');
    }
settled_of_made A f n x _ _ found there (made_by_reduction {i = i} {p = p} {s = s} e r at same list behind free size) =
    let k : IsSoundSettling A f i e = found.settlings i e at in
    let place : k.place ≡ x = same_Some k.place x (sym k.there ∙ (ap (slice_get f.places) same ∙ there)) in
    let symbols : k.list ≡ s = same_Some k.list s (sym k.symbols ∙ list) in
    let old : sets.Settling A x.state x.token x.behind s = subst (λ (y : Place). sets.Settling A y.state y.token y.behind s) place
    (subst (sets.Settling A k.place.state k.place.token k.place.behind) symbols k.settles) in
    let walks : walk A x.state s ≡ Some p = subst (λ (y : Place). walk A y.state s ≡ Some p) place (subst (λ l. walk A k.place.state l ≡ Some p) symbols (sym k.behind ∙ behind)) in
    record { settles = subst (sets.Settling A x.state x.token x.behind) (whole_left r s size) (sets.settled r old walks free size) }

-- the state behind the list
pub walks_of_made : (A : Automaton) (f : FoundView) (n : ℕ) (x : Place) (h : How) (s : List Sym) (o : Option ℕ) → IsFound A f → IsPlaceAt f n x → Made A f n x h s → IsBehind A f x h o →
    o ≡ walk A x.state s
walks_of_made A f n x _ _ _ found there (leaf {p = p} go kid) behind_leaf = refl
walks_of_made A f n x _ _ _ found there (one {i = i} {p = p} {j = j} {y = y} {w = w} {s = s} h sum g) (behind_one {e = e} at') =
    let is : IsSum A y s j = sum_of A f i y s j found sum in
    let same : e ≡ sum.entry = same_Some e sum.entry (sym at' ∙ sum.there) in
    ap (λ (d : Settling). d.behind) same ∙ (sum.behind ∙ (sym (kid_walks A y w p j x.behind s is g) ∙ sym (walk_from A x.state p (grammar_symbol.Tok x.token) s h.go)))
walks_of_made A f n x _ _ _ found there (two {i = i} {k = k} {p = p} {j = j} {h = c} {y = y} {z = z} {w = w} {v = v} {s = s} {u = u} h sum g sum' g') (behind_two {e = e} at') =
    let is : IsSum A y s j = sum_of A f i y s j found sum in
    let is' : IsSum A z u c = sum_of A f k z u c found sum' in
    let same : e ≡ sum'.entry = same_Some e sum'.entry (sym at' ∙ sum'.there) in
    let lower : walk A x.state (s ++ (grammar_symbol.Tok x.token ∷ [])) ≡ Some j = walk_from A x.state p (grammar_symbol.Tok x.token) s h.go ∙ kid_walks A y w p j z.token s is g in
    ap (λ (d : Settling). d.behind) same ∙ (sum'.behind ∙ (sym (kid_walks A z v j c x.behind u is' g') ∙ sym (walk-append A x.state j u (s ++ (grammar_symbol.Tok x.token ∷ [])) lower)))
walks_of_made A f n x _ _ _ found there (made_by_reduction e r at' same list behind free size) behind_reduced = refl
