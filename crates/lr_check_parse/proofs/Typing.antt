-- The tokens of a typed tree's leaves.
use Rattle.std.proofs.Common.{◌≡◌, List, [], ◌∷◌, ◌++◌, map, Bool, true, false, refl, sym, ap, ◌∙◌, subst}
use Rattle.std.specs.Prelude.{◌&&◌, IsTrue}
use Rattle.gg_base.proofs.Facts.{head_same, tail_same}
use Rattle.tree_core.specs.declared.token.Tok.{Tok}
use Rattle.tree_core.specs.declared.token.Sort.{Sort}
use Rattle.tree_core.specs.declared.token.Sort.TheVariants as sort
use Rattle.tree_core.specs.declared.tree.Leaf.{Leaf}
use Rattle.tree_core.specs.Grammar.{kids, sort_of}
use Rattle.tree_core.specs.Attributes.{leaf_fits, end_leaf}
use Rattle.tree_core.specs.Trees.{Forest, none, tree, leaves_onto, sort_fits, Typed}
use Rattle.lr_check_parse.specs.Typed.{AreTyped, ends, begins, IsStatement}
use Rattle.lr_check_parse.specs.Claims.{LeavesAreTokens}

abbrev tokens : List Leaf → List Tok
tokens w = map (λ (l : Leaf). l.tok) w

first_true : (a b : Bool) → IsTrue (a && b) → IsTrue a
first_true true b h = refl
first_true false b h = h

forest_typed : (xs : List Sort) (f : Forest) → Typed xs f → (ys : List Sort) (v : List Leaf) → AreTyped ys (tokens v) → AreTyped (xs ++ ys) (tokens (leaves_onto f v))
forest_typed [] none h ys v t = t
forest_typed [] (tree l below behind) h ys v t = absurd h
forest_typed (x ∷ xs) none h ys v t = absurd h
forest_typed (x ∷ xs) (tree l below behind) h ys v t =
    begins l.tok (first_true (sort_fits (sort_of l.tok) x) (leaf_fits l) h.0)
    (forest_typed (kids l.tok) below h.1 (xs ++ ys) (leaves_onto behind v) (forest_typed xs behind h.2 ys v t))

onto_append : (f : Forest) (u v : List Leaf) → leaves_onto f (u ++ v) ≡ leaves_onto f u ++ v
onto_append none u v = refl
onto_append (tree l below behind) u v =
    ap (λ (w : List Leaf). l ∷ w) (ap (leaves_onto below) (onto_append behind u v) ∙ onto_append below (leaves_onto behind u) v)

no_end : (w : List Leaf) (z : Leaf) → [] ≡ w ++ z ∷ [] → ⊥
no_end [] z e = cc
no_end (x ∷ w) z e = cc

pub snoc_same : (u w : List Leaf) (z : Leaf) → u ++ z ∷ [] ≡ w ++ z ∷ [] → u ≡ w
snoc_same [] [] z e = refl
snoc_same [] (x ∷ w) z e = absurd (no_end w z (tail_same z x [] (w ++ z ∷ []) e))
snoc_same (x ∷ u) [] z e = absurd (no_end u z (sym (tail_same x z (u ++ z ∷ []) [] e)))
snoc_same (x ∷ u) (y ∷ w) z e =
    ap (λ (l : Leaf). l ∷ u) (head_same x y (u ++ z ∷ []) (w ++ z ∷ []) e) ∙ ap (λ (v : List Leaf). y ∷ v) (snoc_same u w z (tail_same x y (u ++ z ∷ []) (w ++ z ∷ []) e))

pub leaves_are_tokens : LeavesAreTokens
leaves_are_tokens w h =
    let same : leaves_onto h.trees [] ≡ w = snoc_same (leaves_onto h.trees []) w end_leaf (sym (onto_append h.trees [] (end_leaf ∷ [])) ∙ h.spelled) in
    subst (λ (v : List Leaf). IsStatement (tokens v)) same (forest_typed (sort.Stmt ∷ []) h.trees h.typed [] [] ends)
