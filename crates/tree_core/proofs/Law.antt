-- Leaves of typed trees give the trees back.
use Rattle.std.proofs.Common.{◌≡◌, List, [], ◌∷◌, length, refl, ap, ◌∙◌}
use Rattle.tree_core.specs.declared.token.Sort.{Sort}
use Rattle.tree_core.specs.Grammar.{kids}
use Rattle.tree_core.specs.Trees.{Forest, none, tree, leaves_onto, Typed, firsts, others, grown, before, GrowsBack}

firsts-before : (xs : List Sort) (f g : Forest) → Typed xs f → firsts (length xs) (before f g) ≡ f
firsts-before [] none g h = refl
firsts-before [] (tree l below behind) g h = absurd h
firsts-before (x ∷ xs) none g h = absurd h
firsts-before (x ∷ xs) (tree l below behind) g h = ap (tree l below) (firsts-before xs behind g h.2)

others-before : (xs : List Sort) (f g : Forest) → Typed xs f → others (length xs) (before f g) ≡ g
others-before [] none g h = refl
others-before [] (tree l below behind) g h = absurd h
others-before (x ∷ xs) none g h = absurd h
others-before (x ∷ xs) (tree l below behind) g h = others-before xs behind g h.2

pub grows_back : GrowsBack
grows_back [] none w h = refl
grows_back [] (tree l below behind) w h = absurd h
grows_back (x ∷ xs) none w h = absurd h
grows_back (x ∷ xs) (tree l below behind) w h =
    let low = grows_back (kids l.tok) below (leaves_onto behind w) h.1 in
    let high = grows_back xs behind w h.2 in
    let n = length (kids l.tok) in
    ap (λ (f : Forest). tree l (firsts n f) (others n f)) low
    ∙ ap (λ (f : Forest). tree l f (others n (before below (grown (leaves_onto behind w))))) (firsts-before (kids l.tok) below (grown (leaves_onto behind w)) h.1)
    ∙ ap (tree l below) (others-before (kids l.tok) below (grown (leaves_onto behind w)) h.1 ∙ high)
