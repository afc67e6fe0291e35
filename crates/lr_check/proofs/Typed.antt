-- Samples whose kids fit their tokens, node by node.
use Rattle.std.proofs.Common.{◌≡◌, ℕ, zero, suc, ◌<◌, List, [], ◌∷◌, Bool, Some, true, length, slice_get, subst, arith, refl, sym, ap, ap₂, ◌∙◌}
use Rattle.std.specs.List.{list_all, zip, AllWithin}
use Rattle.std.proofs.lemmas.Option.{get_or_from_slice_get, slice_get_within, same_Some, none-some}
use Rattle.std.proofs.lemmas.Bool.{and_parts}
use Rattle.tree_core.specs.declared.token.Sort.{Sort}
use Rattle.tree_core.specs.Grammar.{kids}
use Rattle.lr_check.specs.Tree.{Node}
use Rattle.lr_check.specs.Statement.{fits_at, KidsFit, AreTyped}

-- a kid and its sort
abbrev pub pair_fits : List Node → ℕ × Sort → Bool
pair_fits nodes p = fits_at (slice_get nodes p.0) p.1

pair_at : (nodes : List Node) (numbers : List ℕ) (sorts : List Sort) (i k : ℕ) (x : Sort) → list_all (pair_fits nodes) (zip numbers sorts) ≡ true →
    slice_get numbers i ≡ Some k → slice_get sorts i ≡ Some x → fits_at (slice_get nodes k) x ≡ true
pair_at nodes [] sorts i k x all tk tx = absurd (none-some k tk)
pair_at nodes (n ∷ numbers) [] i k x all tk tx = absurd (none-some x tx)
pair_at nodes (n ∷ numbers) (y ∷ sorts) zero k x all tk tx =
    subst (λ (z : ℕ). fits_at (slice_get nodes z) x ≡ true) (same_Some n k tk)
    (subst (λ (z : Sort). fits_at (slice_get nodes n) z ≡ true) (same_Some y x tx) (and_parts (pair_fits nodes (n, y)) (list_all (pair_fits nodes) (zip numbers sorts)) all).0)
pair_at nodes (n ∷ numbers) (y ∷ sorts) (suc i) k x all tk tx =
    pair_at nodes numbers sorts i k x (and_parts (pair_fits nodes (n, y)) (list_all (pair_fits nodes) (zip numbers sorts)) all).1 tk tx

pub pairs_fit : (nodes : List Node) (numbers : List ℕ) (sorts : List Sort) → length numbers ≡ length sorts → list_all (pair_fits nodes) (zip numbers sorts) ≡ true →
    KidsFit nodes numbers sorts
pairs_fit nodes numbers sorts many all = record { many = many; each = λ i k x tk tx. pair_at nodes numbers sorts i k x all tk tx }

abbrev pub IsTyped : List Node → Node → Type 0
IsTyped nodes v = KidsFit nodes v.kids (kids v.tok)

pub all_typed : (nodes : List Node) → AllWithin (IsTyped nodes) nodes 0 (length nodes) → AreTyped nodes
all_typed nodes all = record {
  each = λ n v there.
      let lt : n < length nodes = slice_get_within nodes n v there in
      subst (IsTyped nodes) (get_or_from_slice_get nodes n v v there) (all n v (omega arith) lt);
}

-- kids by their number

pub fit_more : (nodes : List Node) (k : ℕ) (ks : List ℕ) (x : Sort) (xs : List Sort) → fits_at (slice_get nodes k) x ≡ true → KidsFit nodes ks xs → KidsFit nodes (k ∷ ks) (x ∷ xs)
fit_more nodes k ks x xs fits h = record { many = ap suc h.many; each = by }
  where
    by : (i j : ℕ) (y : Sort) → slice_get (k ∷ ks) i ≡ Some j → slice_get (x ∷ xs) i ≡ Some y → fits_at (slice_get nodes j) y ≡ true
    by zero j y at is = ap₂ (λ (a : ℕ) (b : Sort). fits_at (slice_get nodes a) b) (sym (same_Some k j at)) (sym (same_Some x y is)) ∙ fits
    by (suc i) j y at is = h.each i j y at is

pub fit_none : (nodes : List Node) (xs : List Sort) → xs ≡ [] → KidsFit nodes [] xs
fit_none nodes xs e = record { many = ap length (sym e); each = λ i k x at is. absurd (none-some k at) }

pub fit_one : (nodes : List Node) (n : ℕ) (x : Sort) (xs : List Sort) → xs ≡ x ∷ [] → fits_at (slice_get nodes n) x ≡ true → KidsFit nodes (n ∷ []) xs
fit_one nodes n x xs e fits = subst (KidsFit nodes (n ∷ [])) (sym e) (fit_more nodes n [] x [] fits (fit_none nodes [] refl))

pub fit_two : (nodes : List Node) (n m : ℕ) (x v : Sort) (xs : List Sort) → xs ≡ x ∷ v ∷ [] → fits_at (slice_get nodes n) x ≡ true → fits_at (slice_get nodes m) v ≡ true →
    KidsFit nodes (n ∷ m ∷ []) xs
fit_two nodes n m x v xs e fits fits' = subst (KidsFit nodes (n ∷ m ∷ [])) (sym e) (fit_more nodes n (m ∷ []) x (v ∷ []) fits (fit_more nodes m [] v [] fits' (fit_none nodes [] refl)))
