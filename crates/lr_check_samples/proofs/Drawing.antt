-- Nodes that are drawn for what was found unfold to its trees.
use Rattle.std.proofs.Common.{◌≡◌, ℕ, List, [], ◌∷◌, ◌++◌, Bool, true, slice_get, refl, sym, ap, ◌∙◌, subst, append_assoc, append-nil}
use Rattle.tree_core.specs.declared.token.Tok.{Tok}
use Rattle.tree_core.specs.declared.token.Sort.{Sort}
use Rattle.tree_core.specs.Grammar.{kids}
use Rattle.lr_check_sets.specs.Automaton.{Automaton}
use Rattle.lr_check_sets.specs.Trees.{May}
use Rattle.lr_check.specs.Tree.{Node, Token, Unfolds, goes_on}
use Rattle.lr_check.specs.Statement.{fits_at}
use Rattle.lr_check.proofs.Typed.{fit_none, fit_one, fit_two}
use Rattle.lr_check_found.specs.declared.places.Place.{Place}
use Rattle.lr_check_found.specs.Found.{FoundView, SettlesAt}
use Rattle.lr_check_found.specs.Sound.{IsFound}
use Rattle.lr_check_samples.specs.Fixed.{leaf, fixed_leaf, fixed_one, fixed_two, fixed_reduced, at_root, at_only, at_first, at_second}
use Rattle.lr_check_samples.specs.Nodes.{Stands, IsNode, DrawnKids, kids_leaf, kids_one, kids_two, kids_reduced, DrawnRound, round_root, round_only, round_first, round_second}
use Rattle.lr_check_samples.specs.Claims.{IsDrawn, IsRound, DrawnTreesStand}
use Rattle.lr_check_samples.proofs.Making.{AreSame, same_settling, settles_of, settled_so, MadeLeaf, MadeOne, MadeTwo, MadeReduced, made_leaf, made_one, made_two, made_reduced}

unfolds_as : {nodes : List Node} {ks ks' : List ℕ} {u u' : List Token} → ks ≡ ks' → u ≡ u' → Unfolds nodes ks u → Unfolds nodes ks' u'
unfolds_as {nodes = nodes} {ks = ks} {u' = u'} e f h = subst (λ l. Unfolds nodes l u') e (subst (λ l. Unfolds nodes ks l) f h)

pub stands_as : {nodes : List Node} {ks : List ℕ} {u v : List Token} → u ≡ v → Stands nodes ks u → Stands nodes ks v
stands_as {nodes = nodes} {ks = ks} e h = subst (Stands nodes ks) e h

pub stands_both : {nodes : List Node} {ks ls : List ℕ} {u v : List Token} → Stands nodes ks u → Stands nodes ls v → Stands nodes (ks ++ ls) (u ++ v)
stands_both {ks = ks} {ls = ls} {u = u} {v = v} a b = record {
  unfolds = λ rest w h. unfolds_as (sym (append_assoc ks ls rest)) (sym (append_assoc u v w)) (a.unfolds (ls ++ rest) (v ++ w) (b.unfolds rest w h));
}

pub stands_node : {nodes : List Node} {n : ℕ} {k : Tok} {ks : List ℕ} {own : List Bool} {ws : List Token} → IsNode nodes n k ks own → Stands nodes ks ws → Stands nodes (n ∷ []) (leaf k own ∷ ws)
stands_node {k = k} {ks = ks} {own = own} there h = record { unfolds = λ rest u g. goes_on (record { tok = k; kids = ks; answers = own }) there (h.unfolds rest u g) }

stands_none : {nodes : List Node} → Stands nodes [] []
stands_none = record { unfolds = λ rest u h. h }

-- a node fits where its token may stand
pub node_fits : (nodes : List Node) (n : ℕ) {k : Tok} {ks : List ℕ} {own : List Bool} (x : Sort) → IsNode nodes n k ks own → May k x → fits_at (slice_get nodes n) x ≡ true
node_fits nodes n {k = k} x there may = ap (λ o. fits_at o x) there ∙ may

module _ (A : Automaton) (f : FoundView) (nodes : List Node) (found : IsFound A f) where
  pub drawn : {i : ℕ} {ks : List ℕ} {own : List Bool} {ds : List ℕ} → DrawnKids A f nodes i ks own ds → IsDrawn A f nodes i ks own ds
  drawn (kids_leaf by) = record {
    leaves = [];
    fixed = fixed_leaf by;
    stands = stands_none;
    fit = λ x s p at. let g : MadeLeaf A x s = made_leaf (settled_so A f found by at).made refl in fit_none nodes (kids x.token) g.none;
  }
  drawn (kids_one {j = j} {p = h} {n = n} {y = y} {s = v} {own = own} by kid_at there kid) =
      let k = drawn kid in
      record {
        leaves = leaf y.token own ∷ k.leaves;
        fixed = fixed_one by kid_at k.fixed;
        stands = stands_node there k.stands;
        fit = λ x s p at.
            let g : MadeOne A f j x s = made_one (settled_so A f found by at).made j refl in
            let same : AreSame y g.kid v g.kid_list h g.behind = same_settling kid_at (settles_of g.sum) in
            fit_one nodes n g.sort (kids x.token) g.has.kid (node_fits nodes n g.sort there (subst (λ (c : Place). May c.token g.sort) (sym same.places) g.fits.may));
      }
  drawn (kids_two {j = j} {k = l} {p = h} {h = o} {n = n} {m = m} {y = y} {z = z} {s = v} {u = u} {own = own} {own' = own'} by kid_at there kid second_at there' second) =
      let k = drawn kid in
      let k' = drawn second in
      record {
        leaves = leaf y.token own ∷ (k.leaves ++ (leaf z.token own' ∷ k'.leaves));
        fixed = fixed_two by kid_at k.fixed second_at k'.fixed;
        stands = stands_both (stands_node there k.stands) (stands_node there' k'.stands);
        fit = λ x s p at.
            let g : MadeTwo A f j l x s = made_two (settled_so A f found by at).made j l refl in
            let same : AreSame y g.kid v g.kid_list h g.behind = same_settling kid_at (settles_of g.sum) in
            let same' : AreSame z g.second u g.second_list o g.last = same_settling second_at (settles_of g.second_sum) in
            fit_two nodes n m g.sort g.second_sort (kids x.token) g.has.kid
            (node_fits nodes n g.sort there (subst (λ (c : Place). May c.token g.sort) (sym same.places) g.fits.may))
            (node_fits nodes m g.second_sort there' (subst (λ (c : Place). May c.token g.second_sort) (sym same'.places) g.second_fits.may));
      }
  drawn (kids_reduced {j = j} {c = c} {p = h} {x = y} {s = v} {ks = ks} by set_at set) =
      let k = drawn set in
      record {
        leaves = k.leaves;
        fixed = fixed_reduced by set_at k.fixed;
        stands = k.stands;
        fit = λ x s p at.
            let e = settled_so A f found by at in
            let g : MadeReduced A f e.place j c x s = made_reduced e.made j c refl in
            let whole_at : SettlesAt f j x g.whole g.state = record {
              entry = g.entry;
              there = g.there;
              place = ap (slice_get f.places) g.place ∙ e.there;
              list = g.symbols;
              behind = g.behind;
            } in
            k.fit x g.whole g.state whole_at;
      }

  pub round : {n top root : ℕ} → DrawnRound A f nodes n top root → (ws : List Token) → Stands nodes (top ∷ []) ws → IsRound A f nodes n root ws
  round (round_root is) ws h = record { before = []; behind = []; context = at_root is; stands = stands_as (sym (append-nil ws)) h }
  round (round_only {y = y} is there kid node c) ws h =
      let k = round c (leaf y.token [] ∷ ws) (stands_node node h) in
      record {
        before = k.before ++ leaf y.token [] ∷ [];
        behind = k.behind;
        context = at_only is there kid k.context;
        stands = stands_as (sym (append_assoc k.before (leaf y.token [] ∷ []) (ws ++ k.behind))) k.stands;
      }
  round (round_first {y = y} {us = us} is there kid there' begins second node c) ws h =
      let k = round c (leaf y.token [] ∷ (ws ++ us)) (stands_node node (stands_both h second)) in
      record {
        before = k.before ++ leaf y.token [] ∷ [];
        behind = us ++ k.behind;
        context = at_first is there kid there' begins k.context;
        stands = stands_as (ap (λ l. k.before ++ (leaf y.token [] ∷ l)) (append_assoc ws us k.behind)
            ∙ sym (append_assoc k.before (leaf y.token [] ∷ []) (ws ++ (us ++ k.behind)))) k.stands;
      }
  round (round_second {y = y} {z = z} {own = own} is there at first kid node c) ws h =
      let d = drawn kid in
      let u : List Token = leaf z.token own ∷ d.leaves in
      let k = round c (leaf y.token [] ∷ (u ++ ws)) (stands_node node (stands_both (stands_node first d.stands) h)) in
      record {
        before = k.before ++ leaf y.token [] ∷ u;
        behind = k.behind;
        context = at_second is there at d.fixed k.context;
        stands = stands_as (ap (λ l. k.before ++ (leaf y.token [] ∷ l)) (append_assoc u ws k.behind)
            ∙ sym (append_assoc k.before (leaf y.token [] ∷ u) (ws ++ k.behind))) k.stands;
      }

pub drawn_trees_stand : DrawnTreesStand
drawn_trees_stand A f nodes found = ((λ i ks own ds h. drawn A f nodes found h), (λ n top root ws h g. round A f nodes found h ws g))
