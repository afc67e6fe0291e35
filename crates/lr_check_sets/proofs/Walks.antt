-- How the state behind a stack depends on the state behind its lower part.
use Rattle.std.proofs.Common.{◌≡◌, ℕ, ◌≤◌, List, [], ◌∷◌, ◌++◌, Some, length, true, refl, ap, sym, ◌∙◌, inl, inr, ⊎_elim, subst, Bool, false, true≢false}
use Rattle.std.proofs.lemmas.Bool.{cases_lt}
use Rattle.std.proofs.lemmas.List.{drop-append-le}
use Rattle.md_reader.specs.declared.types.Sym.{Sym}
use Rattle.md_reader.specs.declared.types.Sym.TheVariants as grammar_symbol
use Rattle.lr_check_sets.specs.Automaton.{Automaton, Production, Candidate, shift, reduce, walk, go_from, size_of, Free, reduced, Inside, Outside}

pub walk-append : (A : Automaton) (q p : ℕ) (s a : List Sym) → walk A q a ≡ Some p → walk A q (s ++ a) ≡ walk A p s
walk-append A q p [] a h = h
walk-append A q p (X ∷ s) a h = ap (λ o. go_from A o X) (walk-append A q p s a h)

pub reduced-append : (r : Production) (s a : List Sym) → size_of r ≤ length s → reduced r (s ++ a) ≡ reduced r s ++ a
reduced-append r s a h = ap (λ x. grammar_symbol.Class r.left ∷ x) (drop-append-le (size_of r) s a h)

-- some free choice is outside the list, or each is inside
pub data Split (cs : List Candidate) (s : List Sym) : Type 0 where
  out : (c : Candidate) → Free cs c → Outside c s → Split cs s
  all_in : ((c : Candidate) → Free cs c → Inside c s) → Split cs s

split_reduce : (r : Production) (cs : List Candidate) (s : List Sym) (b : Bool) → r.asks ≡ b → size_of r ≤ length s → Split cs s → Split (reduce r ∷ cs) s
split_reduce r cs s true e le (out c f o) = out c (inr (e, f)) o
split_reduce r cs s false e le (out c f o) =
    all_in (λ d g. ⊎_elim (λ h. subst (λ x. Inside x s) (sym h) le) (λ h. absurd (true≢false (sym h.0 ∙ e))) g)
split_reduce r cs s b e le (all_in g) =
    all_in (λ d f. ⊎_elim (λ h. subst (λ x. Inside x s) (sym h) le) (λ h. g d h.1) f)

pub split : (cs : List Candidate) (s : List Sym) → Split cs s
split [] s = all_in (λ c f. absurd f)
split (shift ∷ cs) s = out shift refl tt
split (reduce r ∷ cs) s =
    ⊎_elim (λ lt. out (reduce r) (inl refl) lt) (λ le. split_reduce r cs s r.asks refl le (split cs s)) (cases_lt (length s) (size_of r))
