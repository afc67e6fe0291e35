-- Tokens none of which is the end.
use Rattle.std.proofs.Common.{◌≡◌, List, [], ◌∷◌, true, subst}
use Rattle.std.proofs.lemmas.Bool.{false≢true}
use Rattle.tree_core.specs.declared.token.Tok.{Tok}
use Rattle.tree_core.specs.declared.token.Tok.TheVariants as tok
use Rattle.tree_core.specs.declared.token.Sort.{Sort}
use Rattle.lr_check.specs.Tree.{Token}
use Rattle.lr_check_sets.specs.Trees.{may, May}

abbrev pub NoEnds : List Token → Type 0
NoEnds [] = Unit {0}
NoEnds (f ∷ w) = (f.tok ≡ tok.End → ⊥) × NoEnds w

-- a tree doesn't begin with the end
pub not_end : (k : Tok) (x : Sort) → May k x → k ≡ tok.End → ⊥
not_end k x m e = false≢true (subst (λ z. may z x ≡ true) e m)
