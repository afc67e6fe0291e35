-- The tokens of a sample that is a well-typed statement are those of one.
use Rattle.std.proofs.Common.{◌≡◌, ℕ, suc, List, [], ◌∷◌, ◌++◌, Option, Some, true, length, slice_get, refl, subst, arith}
use Rattle.tree_core.specs.declared.token.Sort.{Sort}
use Rattle.tree_core.specs.declared.token.Sort.TheVariants as sort
use Rattle.tree_core.specs.Grammar.{kids}
use Rattle.lr_check.specs.Tree.{Node, Token, Unfolds, ends, goes_on, IsTree}
use Rattle.lr_check.specs.Statement.{fits_at, KidsFit, AreTyped, IsStatement}
use Rattle.lr_check_parse.specs.Typed.{AreTyped as AreTrees, begins}
use Rattle.lr_check_parse.specs.Typed as typed
use Rattle.lr_check_drawn.specs.lr_check_samples.specs.Stops.{tokens}

module _ (nodes : List Node) where
  -- each numbered node may stand where its sort is wanted
  abbrev Fit : List ℕ → List Sort → Type 0
  Fit [] [] = Unit {0}
  Fit [] (x ∷ xs) = ⊥
  Fit (n ∷ ns) [] = ⊥
  Fit (n ∷ ns) (x ∷ xs) = (fits_at (slice_get nodes n) x ≡ true) × Fit ns xs

  kids_fit : (ns : List ℕ) (xs : List Sort) → length ns ≡ length xs
      → ((i k : ℕ) (x : Sort) → slice_get ns i ≡ Some k → slice_get xs i ≡ Some x → fits_at (slice_get nodes k) x ≡ true) → Fit ns xs
  kids_fit [] [] many each = tt
  kids_fit [] (x ∷ xs) many each = absurd (omega (arith, many))
  kids_fit (n ∷ ns) [] many each = absurd (omega (arith, many))
  kids_fit (n ∷ ns) (x ∷ xs) many each =
      let rest : length ns ≡ length xs = omega (arith, many) in
      (each 0 n x refl refl, kids_fit ns xs rest (λ i k y p q. each (suc i) k y p q))

  appended : (ns ms : List ℕ) (xs ys : List Sort) → Fit ns xs → Fit ms ys → Fit (ns ++ ms) (xs ++ ys)
  appended [] ms [] ys f g = g
  appended [] ms (x ∷ xs) ys f g = absurd f
  appended (n ∷ ns) ms [] ys f g = absurd f
  appended (n ∷ ns) ms (x ∷ xs) ys f g = (f.0, appended ns ms xs ys f.1 g)

  -- the tokens of typed nodes' trees are typed trees
  unfolded : {ns : List ℕ} {w : List Token} → AreTyped nodes → Unfolds nodes ns w → (xs : List Sort) → Fit ns xs → AreTrees xs (tokens w)
  unfolded t ends [] f = typed.ends
  unfolded t ends (x ∷ xs) f = absurd f
  unfolded t (goes_on v at rest) [] f = absurd f
  unfolded t (goes_on {n = n} {rest = more} v at rest) (x ∷ xs) f =
      let k : KidsFit nodes v.kids (kids v.tok) = t.each n v at in
      begins v.tok (subst (λ (o : Option Node). fits_at o x ≡ true) at f.0)
      (unfolded t rest (kids v.tok ++ xs) (appended v.kids more (kids v.tok) xs (kids_fit v.kids (kids v.tok) k.many k.each) f.1))

pub typed_tokens : (nodes : List Node) (w : List Token) → IsStatement nodes → IsTree nodes w → typed.IsStatement (tokens w)
typed_tokens nodes w s tree = unfolded nodes s.typed tree (sort.Stmt ∷ []) (s.root, tt)
