-- How many kids a token has.
use Rattle.std.proofs.Common.{◌≡◌, List, [], ◌∷◌, length, get_or, sym, ap, ◌∙◌, arith}
use Rattle.gg_base.proofs.Facts.{nil_of}
use Rattle.tree_core.specs.declared.token.Tok.{Tok}
use Rattle.tree_core.specs.declared.token.Sort.{Sort}
use Rattle.tree_core.specs.Grammar.{kids}

one_of : {X : Type 0} (xs : List X) (d : X) → length xs ≡ 1 → xs ≡ get_or xs 0 d ∷ []
one_of [] d e = absurd (omega (arith, e))
one_of (x ∷ xs) d e = ap (λ l. x ∷ l) (nil_of xs (omega (arith, e)))

two_of : {X : Type 0} (xs : List X) (c d : X) → length xs ≡ 2 → xs ≡ get_or xs 0 c ∷ get_or xs 1 d ∷ []
two_of [] c d e = absurd (omega (arith, e))
two_of (x ∷ xs) c d e = ap (λ l. x ∷ l) (one_of xs d (omega (arith, e)))

pub one_kids : (k : Tok) (xs : List Sort) (d : Sort) → xs ≡ kids k → length xs ≡ 1 → kids k ≡ get_or xs 0 d ∷ []
one_kids k xs d e many = sym e ∙ one_of xs d many

pub two_kids : (k : Tok) (xs : List Sort) (c d : Sort) → xs ≡ kids k → length xs ≡ 2 → kids k ≡ get_or xs 0 c ∷ get_or xs 1 d ∷ []
two_kids k xs c d e many = sym e ∙ two_of xs c d many
