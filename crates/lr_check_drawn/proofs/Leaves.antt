-- Nodes that are whole have trees.
use Rattle.std.proofs.Common.{◌≡◌, ℕ, zero, suc, ◌<◌, List, [], ◌∷◌, ◌++◌, Some, true, length, slice_get, refl, sym, ap, ◌∙◌, subst, inl, inr, arith, append_assoc, append-nil}
use Rattle.gg_base.proofs.Facts.{slice_some}
use Rattle.tree_core.specs.declared.token.Tok.{Tok}
use Rattle.tree_core.specs.declared.token.Sort.{Sort}
use Rattle.tree_core.specs.Grammar.{kids}
use Rattle.lr_tables.proofs.Members.{In, In-Contains}
use Rattle.lr_check_found.specs.lr_check_sets.specs.Trees.{May}
use Rattle.lr_check.specs.Tree.{Node, Token}
use Rattle.lr_check.specs.Statement.{fits_at, KidsFit}
use Rattle.lr_check_samples.specs.lr_check_parse.specs.Typed as parse
use Rattle.lr_check_samples.specs.Fixed.{leaf}
use Rattle.lr_check_samples.specs.Nodes.{Stands}
use Rattle.lr_check_samples.specs.Stops.{tokens}
use Rattle.lr_check_samples.proofs.Drawing.{stands_both, stands_node}
use Rattle.lr_check_samples.proofs.Typing.{tokens-append}
use Rattle.lr_check_nodes.specs.Growing.{AreWhole}
use Rattle.lr_check_nodes.proofs.Wholes.{fits_within, kids_head, kids_tail, kids_within}

typed_append : {xs ys : List Sort} {u v : List Tok} → parse.AreTyped xs u → parse.AreTyped ys v → parse.AreTyped (xs ++ ys) (u ++ v)
typed_append parse.ends g = g
typed_append {ys = ys} {v = v} (parse.begins {xs = xs} {w = w} t fit h) g =
    parse.begins t fit (subst (λ l. parse.AreTyped l (w ++ v)) (append_assoc (kids t) xs ys) (typed_append h g))

-- a token and the trees of its kids
pub typed_node : (k : Tok) (x : Sort) (us : List Token) → May k x → parse.AreTyped (kids k) (tokens us) → parse.AreTyped (x ∷ []) (k ∷ tokens us)
typed_node k x us may h = parse.begins k may (subst (λ l. parse.AreTyped l (tokens us)) (sym (append-nil (kids k))) h)

-- the trees of nodes that fit
pub record HaveLeaves (nodes : List Node) (ks : List ℕ) (xs : List Sort) : Type 0 where
  pub leaves : List Token
  pub stands : Stands nodes ks leaves
  pub typed : parse.AreTyped xs (tokens leaves)

none_leaves : (nodes : List Node) → HaveLeaves nodes [] []
none_leaves nodes = record { leaves = []; stands = record { unfolds = λ rest u h. h }; typed = parse.ends }

-- a node with the trees of its kids
node_leaves : (nodes : List Node) (n : ℕ) (v : Node) (x : Sort) → slice_get nodes n ≡ Some v → fits_at (slice_get nodes n) x ≡ true → HaveLeaves nodes v.kids (kids v.tok) →
    HaveLeaves nodes (n ∷ []) (x ∷ [])
node_leaves nodes n v x there fits h = record {
  leaves = leaf v.tok v.answers ∷ h.leaves;
  stands = stands_node there h.stands;
  typed = typed_node v.tok x h.leaves (ap (λ o. fits_at o x) (sym there) ∙ fits) h.typed;
}

both_leaves : (nodes : List Node) (n : ℕ) (ks : List ℕ) (x : Sort) (xs : List Sort) → HaveLeaves nodes (n ∷ []) (x ∷ []) → HaveLeaves nodes ks xs → HaveLeaves nodes (n ∷ ks) (x ∷ xs)
both_leaves nodes n ks x xs a b = record {
  leaves = a.leaves ++ b.leaves;
  stands = stands_both a.stands b.stands;
  typed = subst (parse.AreTyped (x ∷ xs)) (sym (tokens-append a.leaves b.leaves)) (typed_append a.typed b.typed);
}

module _ (nodes : List Node) (w : AreWhole nodes) where
  -- where nodes below a number have trees, so have kids below it
  all_leaves : (m : ℕ) → ((n : ℕ) (x : Sort) → n < m → fits_at (slice_get nodes n) x ≡ true → HaveLeaves nodes (n ∷ []) (x ∷ [])) →
      (ks : List ℕ) (xs : List Sort) → ((k : ℕ) → In k ks → k < m) → KidsFit nodes ks xs → HaveLeaves nodes ks xs
  all_leaves m each [] [] low h = none_leaves nodes
  all_leaves m each [] (x ∷ xs) low h = absurd (let many = h.many in omega (arith, many))
  all_leaves m each (k ∷ ks) [] low h = absurd (let many = h.many in omega (arith, many))
  all_leaves m each (k ∷ ks) (x ∷ xs) low h = both_leaves nodes k ks x xs (each k x (low k (inl refl)) (kids_head nodes k ks x xs h))
      (all_leaves m each ks xs (λ j c. low j (inr c)) (kids_tail nodes k ks x xs h))

  below_leaves : (m n : ℕ) (x : Sort) → n < m → fits_at (slice_get nodes n) x ≡ true → HaveLeaves nodes (n ∷ []) (x ∷ [])
  below_leaves zero n x lt fits = absurd (omega (arith, lt))
  below_leaves (suc m) n x lt fits =
      let v = slice_some nodes n (fits_within nodes n x fits) in
      node_leaves nodes n v.0 x v.1 fits (all_leaves m (below_leaves m) v.0.kids (kids v.0.tok)
      (λ k c. let low = w.lower n k v.0 v.1 (In-Contains k v.0.kids c) in omega (arith, low, lt)) (w.typed.each n v.0 v.1))

  pub kids_leaves : (ks : List ℕ) (xs : List Sort) → KidsFit nodes ks xs → HaveLeaves nodes ks xs
  kids_leaves ks xs h = all_leaves (length nodes) (below_leaves (length nodes)) ks xs (kids_within nodes ks xs h) h
