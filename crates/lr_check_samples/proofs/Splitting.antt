-- Which of a kid's questions its parent's root answers, and which go further down.
use Rattle.std.proofs.Common.{◌≡◌, ◌⊎◌, ℕ, suc, ◌+◌, ◌-◌, ◌≤◌, ◌<◌, List, [], ◌∷◌, ◌++◌, Some, Bool, false, length, take, drop, refl, ap, sym, ◌∙◌, subst, inl, inr, ⊎_elim, arith}
use Rattle.std.proofs.Common.{length-append, length-drop, length-take, take-append-drop}
use Rattle.std.specs.Prelude.{if◌then◌else◌}
use Rattle.std.proofs.lemmas.Bool.{cases_lt, cases_eq, eq-eqb, ne_eqb, lt-ltb, le-ltb}
use Rattle.std.proofs.lemmas.List.{take-append-le}
use Rattle.md_reader.specs.declared.types.Sym.{Sym}
use Rattle.lr_check.specs.Parse.{Part}
use Rattle.lr_check_sets.specs.Shapes.{wanted}
use Rattle.lr_check_sets.proofs.Reached.{hold}
use Rattle.lr_check_sets.proofs.Shapes.{PartShape}
use Rattle.lr_check_sets.proofs.Fixed.{push_at, pushes, push_at-root, push_at-below, DeepIn, one_still}
use Rattle.lr_check_sets.proofs.Fixed_sums.{take_past}
use Rattle.lr_check_samples.specs.Answering.{root_no, further}

-- one depth
root_here : (size d : ℕ) (ds : List ℕ) → size ≡ suc d → root_no size (d ∷ ds) ≡ false ∷ root_no size ds
root_here size d ds e = ap (λ (b : Bool). if b then false ∷ root_no size ds else root_no size ds) (eq-eqb (d + 1) size (omega (arith, e)))

root_past : (size d : ℕ) (ds : List ℕ) → (size ≡ suc d → ⊥) → root_no size (d ∷ ds) ≡ root_no size ds
root_past size d ds u = ap (λ (b : Bool). if b then false ∷ root_no size ds else root_no size ds) (ne_eqb (d + 1) size (λ e. u (omega (arith, e))))

further_here : (size d : ℕ) (ds : List ℕ) → d < size → further size (d ∷ ds) ≡ further size ds
further_here size d ds lt = ap (λ (b : Bool). if b then further size ds else (d - size) ∷ further size ds) (lt-ltb d size lt)

further_past : (size d : ℕ) (ds : List ℕ) → size ≤ d → further size (d ∷ ds) ≡ (d - size) ∷ further size ds
further_past size d ds le = ap (λ (b : Bool). if b then further size ds else (d - size) ∷ further size ds) (le-ltb d size le)

-- none is above the deepest of so many symbols
abbrev pub AreFar : ℕ → List ℕ → Type 0
AreFar size [] = Unit {0}
AreFar size (d ∷ ds) = (size ≤ d + 1) × AreFar size ds

-- no right side ends inside an unfinished list
pub are_far : (s a0 : List Sym) (l : ℕ) → PartShape s (suc l) → (ds : List ℕ) → DeepIn (s ++ a0) ds → AreFar (length s) ds
are_far s a0 l shape [] h = tt
are_far s a0 l shape (d ∷ ds) h = (⊎_elim (λ lt. absurd (inside lt)) (λ ge. ge) (cases_lt (d + 1) (length s)), are_far s a0 l shape ds h.1)
  where
    top : take (d + 1) s ++ drop (d + 1) s ≡ s
    top = take-append-drop (d + 1) s

    inside : (d + 1) < length s → ⊥
    inside lt =
        let g : wanted 1 (take (d + 1) s) ≡ Some 1 = ap (wanted 1) (sym (take-append-le (d + 1) s a0 (omega arith))) ∙ h.0.1 in
        shape.tops (take (d + 1) s) (drop (d + 1) s) 0 (sym top) (omega (arith, length-take (d + 1) s)) (omega (arith, length-drop (d + 1) s)) g

pub split_is : (s : List Sym) (ds : List ℕ) (b : List Bool) (z : List Part) → AreFar (length s) ds →
    pushes ds (hold s b ++ z) ≡ hold s (root_no (length s) ds ++ b) ++ pushes (further (length s) ds) z
split_is s [] b z far = refl
split_is s (d ∷ ds) b z far = ap (push_at d) (split_is s ds b z far.1) ∙ ⊎_elim here past (cases_eq (length s) (suc d))
  where
    both : {c c' : List Bool} {e e' : List ℕ} → c ≡ c' → e ≡ e' → hold s (c ++ b) ++ pushes e z ≡ hold s (c' ++ b) ++ pushes e' z
    both {c = c} {e' = e'} f g = ap (λ v. hold s (c ++ b) ++ pushes v z) g ∙ ap (λ u. hold s (u ++ b) ++ pushes e' z) f

    here : length s ≡ suc d →
        push_at d (hold s (root_no (length s) ds ++ b) ++ pushes (further (length s) ds) z) ≡ hold s (root_no (length s) (d ∷ ds) ++ b) ++ pushes (further (length s) (d ∷ ds)) z
    here e =
        push_at-root s d (root_no (length s) ds ++ b) (pushes (further (length s) ds) z) e
        ∙ both (sym (root_here (length s) d ds e)) (sym (further_here (length s) d ds (omega (arith, e))))

    past : (length s ≡ suc d → ⊥) →
        push_at d (hold s (root_no (length s) ds ++ b) ++ pushes (further (length s) ds) z) ≡ hold s (root_no (length s) (d ∷ ds) ++ b) ++ pushes (further (length s) (d ∷ ds)) z
    past u =
        let le : length s ≤ d = omega (arith, far.0, u) in
        push_at-below s d (d - length s) (root_no (length s) ds ++ b) (pushes (further (length s) ds) z) (omega (arith, le))
        ∙ both (sym (root_past (length s) d ds u)) (sym (further_past (length s) d ds le))

-- those that go further down reach a tree's beginning there
pub split_deep : (s a : List Sym) (l : ℕ) → PartShape s (suc l) → 0 < length s → (ds : List ℕ) → AreFar (length s) ds → DeepIn (s ++ a) ds → DeepIn a (further (length s) ds)
split_deep s a l shape some [] far h = tt
split_deep s a l shape some (d ∷ ds) far h = by (split_deep s a l shape some ds far.1 h.1) (cases_lt d (length s))
  where
    by : DeepIn a (further (length s) ds) → (d < length s) ⊎ (length s ≤ d) → DeepIn a (further (length s) (d ∷ ds))
    by rest (inl lt) = subst (DeepIn a) (sym (further_here (length s) d ds lt)) rest
    by rest (inr le) =
        let e : ℕ = d - length s in
        let same : d + 1 ≡ length s + (e + 1) = omega (arith, le) in
        let cut_there : take (d + 1) (s ++ a) ≡ s ++ take (e + 1) a = ap (λ n. take n (s ++ a)) same ∙ take_past s a (e + 1) in
        let first : (e < length a) × (wanted 1 (take (e + 1) a) ≡ Some 1) =
        (omega (arith, length-append s a, h.0.0, le), one_still s (take (e + 1) a) l shape.still some (ap (wanted 1) (sym cut_there) ∙ h.0.1)) in
        subst (DeepIn a) (sym (further_past (length s) d ds le)) (first, rest)
