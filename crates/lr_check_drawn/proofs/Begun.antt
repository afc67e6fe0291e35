-- Where places stand, and what stands above their nodes.
use Rattle.std.proofs.Common.{ℕ, List, [], ◌∷◌, refl, sym, subst}
use Rattle.tree_core.specs.declared.token.Tok.{Tok}
use Rattle.tree_core.specs.declared.token.Sort.{Sort}
use Rattle.tree_core.specs.Grammar.{kids}
use Rattle.md_reader.specs.declared.types.Sym.{Sym}
use Rattle.lr_check_found.specs.lr_check_sets.specs.Automaton.{Automaton}
use Rattle.lr_check_found.specs.lr_check_sets.specs.Trees.{May}
use Rattle.lr_check.specs.Tree.{Node, Token}
use Rattle.lr_check.specs.Statement.{KidsFit}
use Rattle.lr_check_found.specs.declared.places.Place.{Place}
use Rattle.lr_check_found.specs.declared.places.Origin.{Origin}
use Rattle.lr_check_found.specs.Found.{FoundView, SettlesAt}
use Rattle.lr_check_found.specs.Items as items
use Rattle.lr_check_found.specs.Sound.{IsSoundPlace, IsFound}
use Rattle.lr_check_samples.specs.Fixed.{leaf, BeginsWith}
use Rattle.lr_check_samples.specs.Nodes.{Stands, IsNode, DrawnRound, round_only, round_first, round_second}
use Rattle.lr_check_samples.proofs.Drawing.{stands_node}
use Rattle.lr_check_samples.proofs.Making.{settles_of}
use Rattle.lr_check_nodes.specs.Growing.{AreWhole, Grows}
use Rattle.lr_check_nodes.proofs.Wholes.{node_grows}
use Rattle.lr_check_drawn.specs.Rising.{begun_only, begun_both, IsBegun, AreBegun, HasToken, HaveNodes, Over, over_only, over_first, over_second, Up, up_here, up_more}
use Rattle.lr_check_drawn.specs.Sampled.{Draws}
use Rattle.lr_check_drawn.proofs.Leaves.{kids_leaves, HaveLeaves, typed_node}

begun_of : {A : Automaton} {f : FoundView} {x : Place} {o : Origin} (n : ℕ) → items.Begun A f x o → items.IsEarlier n o → IsBegun f n x o
begun_of n (items.root fits) earlier = fits.may
begun_of n (items.only at has fits) earlier = begun_only earlier at has.kid fits.may
begun_of n (items.first {v = v} m at has fits may) earlier = begun_both earlier at has.kid fits.may (subst (λ (t : Tok). May t v) (sym fits.behind) may)
begun_of n (items.second {j = j} {y = y} {z = z} {w = w} {v = v} {s = s} at has sum fits fits') earlier = record {
  earlier = earlier;
  parent = y;
  at = at;
  first_sort = w;
  second_sort = v;
  two = has.kid;
  first = z;
  list = s;
  behind = j;
  settles = settles_of sum;
  first_may = fits.may;
  second_may = fits'.may;
}

pub are_begun : (A : Automaton) (f : FoundView) → IsFound A f → AreBegun f
are_begun A f found = record {
  each = λ n x at. let p : IsSoundPlace A f n x = found.places n x at in record { origin = p.origin; there = p.there; begun = begun_of n p.begun p.earlier };
}

pub has_token_grows : {a b : List Node} → Grows a b → (n : ℕ) (k : Tok) → HasToken a n k → HasToken b n k
has_token_grows g n k h = record { kids = h.kids; answers = h.answers; node = node_grows g n (record { tok = k; kids = h.kids; answers = h.answers }) h.node }

pub have_nodes_grow : {f : FoundView} {a b : List Node} → Grows a b → HaveNodes f a → HaveNodes f b
have_nodes_grow g h = record { each = λ i p x s at. has_token_grows g i x.token (h.each i p x s at) }

over_grows : {f : FoundView} {a b : List Node} {n node i m : ℕ} → Grows a b → Over f a n node i m → Over f b n node i m
over_grows {node = node} {m = m} g (over_only {y = y} is at one node_at) = over_only is at one (node_grows g m (record { tok = y.token; kids = node ∷ []; answers = [] }) node_at)
over_grows {node = node} {m = m} g (over_first {y = y} {z = z} {o = o} {ks = ks} is at two there may second node_at) =
    over_first is at two there may (node_grows g o (record { tok = z.behind; kids = ks; answers = [] }) second) (node_grows g m (record { tok = y.token; kids = node ∷ o ∷ []; answers = [] }) node_at)
over_grows {node = node} {m = m} g (over_second {k = k} {y = y} is at settles node_at) =
    over_second is at settles (node_grows g m (record { tok = y.token; kids = k ∷ node ∷ []; answers = [] }) node_at)

pub up_grows : {f : FoundView} {a b : List Node} {n top m node : ℕ} → Grows a b → Up f a n top m node → Up f b n top m node
up_grows g up_here = up_here
up_grows g (up_more u o) = up_more (up_grows g u) (over_grows g o)

module _ (A : Automaton) (f : FoundView) (nodes : List Node) (whole : AreWhole nodes)
    (draws : (i p : ℕ) (x : Place) (s : List Sym) → SettlesAt f i x s p → Draws A f nodes i x) where
  -- a tree that begins with the token
  pub begins_with : (o : ℕ) (k : Tok) (ks : List ℕ) (v : Sort) → IsNode nodes o k ks [] → May k v → (us : List Token) × (BeginsWith v k us × Stands nodes (o ∷ []) us)
  begins_with o k ks v there may =
      let fit : KidsFit nodes ks (kids k) = whole.typed.each o (record { tok = k; kids = ks; answers = [] }) there in
      let h : HaveLeaves nodes ks (kids k) = kids_leaves nodes whole ks (kids k) fit in (
        leaf k [] ∷ h.leaves,
        (record { answers = []; others = h.leaves; first = refl; typed = typed_node k v h.leaves may h.typed }, stands_node there h.stands),
      )

  round_over : {n node i m root : ℕ} → Over f nodes n node i m → DrawnRound A f nodes i m root → DrawnRound A f nodes n node root
  round_over (over_only is at one node_at) r = round_only is at one node_at r
  round_over (over_first {z = z} {v = v} {o = o} {ks = ks} is at two there may second node_at) r =
      let b = begins_with o z.behind ks v second may in
      round_first is at two there b.1.0 b.1.1 node_at r
  round_over (over_second {k = k} {p = p} {z = z} {s = s} is at settles node_at) r =
      let d : Draws A f nodes k z = draws k p z s settles in
      round_second is at settles d.node d.drawn node_at r

  pub round_up : {n top m node root : ℕ} → Up f nodes n top m node → DrawnRound A f nodes m node root → DrawnRound A f nodes n top root
  round_up up_here r = r
  round_up (up_more u o) r = round_up u (round_over o r)
