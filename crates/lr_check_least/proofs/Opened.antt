-- What a token opens, by the sorts of its kids.
use Rattle.std.proofs.Common.{◌≡◌, ℕ, List, [], ◌∷◌, Some, refl, sym, subst}
use Rattle.tree_core.specs.declared.token.Tok.{Tok}
use Rattle.tree_core.specs.declared.token.Sort.{Sort}
use Rattle.tree_core.specs.Grammar.{kids}
use Rattle.md_reader.specs.declared.types.Sym.TheVariants as grammar_symbol
use Rattle.lr_check_sets.specs.Trees.{Begins}
use Rattle.lr_check_sets.specs.Automaton.{Automaton}
use Rattle.lr_check_sets.specs.Sums.{Place, Partly, Settling, Sum, at_start, at_kid, opened, with_kid, whole, settled, sum}
use Rattle.lr_check_sets.specs.Closed.{IsClosed}

module _ (A : Automaton) where
  -- the token is there, and kids of these sorts are to come
  begun : (q p : ℕ) (k b n : Tok) (xs : List Sort) → Place A q k b → kids k ≡ xs → A.go q (grammar_symbol.Tok k) ≡ Some p → Begins xs b n
      → Partly A q k b (grammar_symbol.Tok k ∷ []) xs n
  begun q p k b n xs place e go begins =
      subst (λ ys. Partly A q k b (grammar_symbol.Tok k ∷ []) ys n) e (opened place go (subst (λ ys. Begins ys b n) (sym e) begins))

  pub least_closed : IsClosed A (Place A) (Settling A) (Sum A)
  least_closed = record {
    starts = λ k m. at_start m;
    alone = λ q p k b place e go. whole (begun q p k b b [] place e go refl);
    only = λ q p k b n x place e go m. at_kid (begun q p k b n (x ∷ []) place e go m) go refl;
    only_in = λ q p k b n x s place e go m u. whole (with_kid (begun q p k b n (x ∷ []) place e go m) go refl u);
    first = λ q p k b n m x y place e go may may'. at_kid (begun q p k b n (x ∷ y ∷ []) place e go may) go may';
    second = λ q p j k b n m x y s place e go may may' u at. at_kid (with_kid (begun q p k b n (x ∷ y ∷ []) place e go may) go may' u) at refl;
    both_in = λ q p j k b n m x y s z place e go may may' u at v.
        whole (with_kid (with_kid (begun q p k b n (x ∷ y ∷ []) place e go may) go may' u) at refl v);
    settles = λ q p k b s r t at free size. settled r t at free size;
    sums = λ q p k b s c t at free out. sum c t at free out;
  }
