-- Pieces of leaves, each of which is one tree, and in which memory is read before each division.
use Rattle.std.proofs.Common.{◌≡◌, ℕ, suc, List, [], ◌∷◌, length, refl, ap, sym, ◌∙◌, subst}
use Rattle.std.specs.Prelude.{Bool, true, false, ◌||◌}
use Rattle.std.specs.List.{list_any}
use Rattle.tree_core.specs.declared.tree.Leaf.{Leaf}
use Rattle.tree_core.specs.Attributes.{end_leaf}
use Rattle.tree_core.specs.Grammar.{kids}
use Rattle.tree_core.specs.Trees.{Forest, none, tree, leaves_onto, firsts, others, grown}
use Rattle.tree_core.specs.Calm.{divides, reads_memory, ReadsNothing, CalmBefore, Calm}

-- Leaves in front of others that are one tree. It may divide, and read memory, where the two tell so.
pub record Piece (s : List Leaf → List Leaf) (d r : Bool) : Type 0 where
  pub forest : Forest → Forest
  pub grows : (w : List Leaf) → grown (s w) ≡ forest (grown w)
  pub first : (n : ℕ) (g : Forest) → firsts (suc n) (forest g) ≡ forest (firsts n g)
  pub other : (n : ℕ) (g : Forest) → others (suc n) (forest g) ≡ others n g
  pub leaves : (g : Forest) (w : List Leaf) → leaves_onto (forest g) w ≡ s (leaves_onto g w)
  pub quiet : r ≡ false → (w : List Leaf) → ReadsNothing w → ReadsNothing (s w)
  pub calm : (g : Forest) (w : List Leaf) → (d ≡ true → ReadsNothing (leaves_onto g w)) → CalmBefore g w → CalmBefore (forest g) w

never : {A : Type 0} {b : Bool} → b ≡ false → b ≡ true → A
never e h = absurd (cc)

quiet_behind : (l : Leaf) (w : List Leaf) → reads_memory l.tok ≡ false → ReadsNothing w → ReadsNothing (l ∷ w)
quiet_behind l w h e = ap (λ b. b || list_any (λ (x : Leaf). reads_memory x.tok) w) h ∙ e

-- a leaf without kids
pub leaf_piece : (l : Leaf) → kids l.tok ≡ [] → divides l.tok ≡ false → reads_memory l.tok ≡ false → Piece (λ w. l ∷ w) false false
leaf_piece l alone inert silent = record {
  forest = λ g. tree l none g;
  grows = λ w. ap (λ k. tree l (firsts (length k) (grown w)) (others (length k) (grown w))) alone;
  first = λ n g. refl;
  other = λ n g. refl;
  leaves = λ g w. refl;
  quiet = λ e w h. quiet_behind l w silent h;
  calm = λ g w h c. (λ e. never inert e, tt, c);
}

-- a token of one kid
pub one_piece : (l : Leaf) {s : List Leaf → List Leaf} {d r : Bool} (q : Bool) → length (kids l.tok) ≡ 1 → divides l.tok ≡ false
    → (q ≡ false → reads_memory l.tok ≡ false) → (q ≡ false → r ≡ false) → Piece s d r → Piece (λ w. l ∷ s w) d q
one_piece l {s = s} q one inert silent inner p = record {
  forest = λ g. tree l (p.forest none) g;
  grows = λ w.
      ap (λ k. tree l (firsts k (grown (s w))) (others k (grown (s w)))) one
      ∙ ap (λ f. tree l (firsts 1 f) (others 1 f)) (p.grows w)
      ∙ ap (λ f. tree l f (others 1 (p.forest (grown w)))) (p.first 0 (grown w))
      ∙ ap (λ f. tree l (p.forest none) f) (p.other 0 (grown w));
  first = λ n g. refl;
  other = λ n g. refl;
  leaves = λ g w. ap (λ v. l ∷ v) (p.leaves none (leaves_onto g w));
  quiet = λ e w h. quiet_behind l (s w) (silent e) (p.quiet (inner e) w h);
  calm = λ g w h c. (λ e. never inert e, p.calm none (leaves_onto g w) h tt, c);
}

-- a token of two kids, where no memory is read in the second if the first may divide
pub two_piece : (l : Leaf) {s t : List Leaf → List Leaf} {d e r q : Bool} (both reads : Bool) → length (kids l.tok) ≡ 2
    → reads_memory l.tok ≡ false → (divides l.tok ≡ true → both ≡ true) → (d ≡ true → both ≡ true) → (e ≡ true → both ≡ true)
    → (reads ≡ false → r ≡ false) → (reads ≡ false → q ≡ false) → (d ≡ true → q ≡ false)
    → Piece s d r → Piece t e q → Piece (λ w. l ∷ s (t w)) both reads
two_piece l {s = s} {t = t} both reads two silent own left right first second apart p q = record {
  forest = λ g. tree l (p.forest (q.forest none)) g;
  grows = λ w.
      ap (λ k. tree l (firsts k (grown (s (t w)))) (others k (grown (s (t w))))) two
      ∙ ap (λ f. tree l (firsts 2 f) (others 2 f)) (p.grows (t w) ∙ ap p.forest (q.grows w))
      ∙ ap (λ f. tree l f (others 2 (p.forest (q.forest (grown w))))) (p.first 1 (q.forest (grown w)) ∙ ap p.forest (q.first 0 (grown w)))
      ∙ ap (λ f. tree l (p.forest (q.forest none)) f) (p.other 1 (q.forest (grown w)) ∙ q.other 0 (grown w));
  first = λ n g. refl;
  other = λ n g. refl;
  leaves = λ g w. ap (λ v. l ∷ v) (p.leaves (q.forest none) (leaves_onto g w) ∙ ap s (q.leaves none (leaves_onto g w)));
  quiet = λ h w e. quiet_behind l (s (t w)) silent (p.quiet (first h) (t w) (q.quiet (second h) w e));
  calm = λ g w h c. (
    λ x. h (own x),
    p.calm (q.forest none) (leaves_onto g w)
        (λ x. subst ReadsNothing (sym (q.leaves none (leaves_onto g w))) (q.quiet (apart x) (leaves_onto g w) (h (left x))))
        (q.calm none (leaves_onto g w) (λ x. h (right x)) tt),
    c,
  );
}

-- a piece with End behind it
pub whole_piece : {s : List Leaf → List Leaf} {d r : Bool} → Piece s d r → Calm (s (end_leaf ∷ []))
whole_piece {s = s} p = subst (λ f. CalmBefore f []) (sym (p.grows (end_leaf ∷ []))) (p.calm (tree end_leaf none none) [] (λ e. refl) (λ e. absurd (cc), tt, tt))
