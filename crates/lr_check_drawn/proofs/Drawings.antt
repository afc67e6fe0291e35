-- The nodes of settlings fit, and stand for their trees.
use Rattle.std.proofs.Common.{◌≡◌, ℕ, ◌<◌, List, Some, Bool, Contains, length, slice_get, refl, sym, ap, ◌∙◌, subst, arith}
use Rattle.std.proofs.lemmas.Option.{slice_get_within, same_Some}
use Rattle.gg_base.proofs.Facts.{slice_some}
use Rattle.tree_core.specs.Grammar.{kids}
use Rattle.lr_check_found.specs.lr_check_sets.specs.Trees.{May}
use Rattle.md_reader.specs.declared.types.Sym.{Sym}
use Rattle.lr_check_found.specs.lr_check_sets.specs.Automaton.{Automaton}
use Rattle.lr_check.specs.Tree.{Node}
use Rattle.lr_check.specs.Statement.{KidsFit}
use Rattle.lr_check.proofs.Typed.{fit_none, fit_one, fit_two}
use Rattle.lr_check_found.specs.declared.places.Place.{Place}
use Rattle.lr_check_found.specs.declared.settlings.How.{How}
use Rattle.lr_check_found.specs.declared.settlings.Settling.{Settling}
use Rattle.lr_check_found.specs.Found.{FoundView, IsPlaceAt, IsSettlingAt, SettlesAt}
use Rattle.lr_check_found.specs.Items.{Made}
use Rattle.lr_check_found.specs.Sound.{IsSoundSettling, IsFound}
use Rattle.lr_check_samples.specs.Fixed.{IsMadeBy}
use Rattle.lr_check_samples.specs.Nodes.{IsNode, DrawnKids, kids_leaf, kids_one, kids_two, kids_reduced}
use Rattle.lr_check_samples.proofs.Making.{AreSame, same_settling, settles_of, MadeLeaf, MadeOne, MadeTwo, MadeReduced, made_leaf, made_one, made_two, made_reduced}
use Rattle.lr_check_samples.proofs.Drawing.{node_fits}
use Rattle.lr_check_drawn.specs.Drawing.{DrawingView, IsDrawnAt, AreDrawn}
use Rattle.lr_check_nodes.specs.Growing.{AreWhole}
use Rattle.lr_check_drawn.specs.Rising.{HaveNodes}
use Rattle.lr_check_drawn.specs.Sampled.{Draws, AreSettled}

-- how a settling at a place was made
record MadeSo (A : Automaton) (f : FoundView) (n : ℕ) (h : How) (x : Place) : Type 0 where
  list : List Sym
  made : Made A f n x h list

module _ (A : Automaton) (f : FoundView) (nodes : List Node) (found : IsFound A f) where
  made_so : {i : ℕ} {h : How} → IsMadeBy f i h → (e : Settling) → IsSettlingAt f i e → (x : Place) → IsPlaceAt f e.place x → MadeSo A f e.place h x
  made_so {i = i} {h = h} m e at x there =
      let k : IsSoundSettling A f i e = found.settlings i e at in
      let by : e.how ≡ h = ap (λ (d : Settling). d.how) (same_Some e m.entry (sym at ∙ m.there)) ∙ m.how in
      record {
        list = k.list;
        made = subst (λ (y : Place). Made A f e.place y h k.list) (same_Some k.place x (sym k.there ∙ there)) (subst (λ (g : How). Made A f e.place k.place g k.list) by k.made);
      }

  -- a settling's kids fit its place's token
  pub settled_fit : {i : ℕ} {ks : List ℕ} {own : List Bool} {ds : List ℕ} → DrawnKids A f nodes i ks own ds → (e : Settling) → IsSettlingAt f i e → (x : Place) → IsPlaceAt f e.place x →
      KidsFit nodes ks (kids x.token)
  settled_fit (kids_leaf by) e at x there =
      let m = made_so by e at x there in
      let g : MadeLeaf A x m.list = made_leaf m.made refl in
      fit_none nodes (kids x.token) g.none
  settled_fit (kids_one {j = j} {p = h} {n = n} {y = y} {s = v} {ks = ks} {own = own} by kid_at node kid) e at x there =
      let m = made_so by e at x there in
      let g : MadeOne A f j x m.list = made_one m.made j refl in
      let same : AreSame y g.kid v g.kid_list h g.behind = same_settling kid_at (settles_of g.sum) in
      fit_one nodes n g.sort (kids x.token) g.has.kid
      (node_fits nodes n g.sort node (subst (λ (c : Place). May c.token g.sort) (sym same.places) g.fits.may))
  settled_fit (kids_two {j = j} {k = l} {p = h} {h = o} {n = n} {m = q} {y = y} {z = z} {s = v} {u = u} {ks = ks} {ks' = ks'} {own = own} {own' = own'} by kid_at node kid second_at node' second)
      e at x there =
      let m = made_so by e at x there in
      let g : MadeTwo A f j l x m.list = made_two m.made j l refl in
      let same : AreSame y g.kid v g.kid_list h g.behind = same_settling kid_at (settles_of g.sum) in
      let same' : AreSame z g.second u g.second_list o g.last = same_settling second_at (settles_of g.second_sum) in
      fit_two nodes n q g.sort g.second_sort (kids x.token) g.has.kid
      (node_fits nodes n g.sort node (subst (λ (c : Place). May c.token g.sort) (sym same.places) g.fits.may))
      (node_fits nodes q g.second_sort node' (subst (λ (c : Place). May c.token g.second_sort) (sym same'.places) g.second_fits.may))
  settled_fit (kids_reduced {j = j} {c = c} by set_at set) e at x there =
      let m = made_so by e at x there in
      let g : MadeReduced A f e.place j c x m.list = made_reduced m.made j c refl in
      settled_fit set g.entry g.there x (ap (slice_get f.places) g.place ∙ there)

module _ (A : Automaton) (f : FoundView) (d : DrawingView) (found : IsFound A f) (drawn : AreDrawn A f d) where
  -- each node is that of a settling
  drawn_at : (n : ℕ) → n < length d.nodes → (ds : List ℕ) × IsDrawnAt A f d n ds
  drawn_at n lt = let ds = slice_some d.depths n (let many = drawn.many in omega (arith, many, lt)) in (ds.0, drawn.each n ds.0 ds.1)

  pub drawn_whole : AreWhole d.nodes
  drawn_whole = record { lower = lower; typed = record { each = typed } }
    where
      lower : (n k : ℕ) (v : Node) → slice_get d.nodes n ≡ Some v → Contains v.kids k → k < n
      lower n k v there c =
          let h = (drawn_at n (slice_get_within d.nodes n v there)).1 in
          let node : Node = record { tok = h.place.token; kids = h.numbers; answers = h.answers } in
          let same : v ≡ node = same_Some v node (sym there ∙ h.node) in
          h.lower.each k (subst (λ (z : Node). Contains z.kids k) same c)

      typed : (n : ℕ) (v : Node) → slice_get d.nodes n ≡ Some v → KidsFit d.nodes v.kids (kids v.tok)
      typed n v there =
          let h = (drawn_at n (slice_get_within d.nodes n v there)).1 in
          let node : Node = record { tok = h.place.token; kids = h.numbers; answers = h.answers } in
          let same : v ≡ node = same_Some v node (sym there ∙ h.node) in
          subst (λ (z : Node). KidsFit d.nodes z.kids (kids z.tok)) (sym same) (settled_fit A f d.nodes found h.drawn h.entry h.there h.place h.at)

  pub drawn_settled : length d.depths ≡ length f.settlings → AreSettled A f d.nodes
  drawn_settled all = record { whole = drawn_whole; draws = draws }
    where
      draws : (i p : ℕ) (x : Place) (s : List Sym) → SettlesAt f i x s p → Draws A f d.nodes i x
      draws i p x s at =
          let lt : i < length f.settlings = slice_get_within f.settlings i at.entry at.there in
          let g = drawn_at i (let many = drawn.many in omega (arith, lt, all, many)) in
          let h = g.1 in
          let entry : h.entry ≡ at.entry = same_Some h.entry at.entry (sym h.there ∙ at.there) in
          let place : h.place ≡ x = same_Some h.place x (sym h.at ∙ (ap (λ (e : Settling). slice_get f.places e.place) entry ∙ at.place)) in
          record {
            kids = h.numbers;
            own = h.answers;
            depths = g.0;
            node = subst (λ (y : Place). IsNode d.nodes i y.token h.numbers h.answers) place h.node;
            drawn = h.drawn;
          }

pub settled_nodes : {A : Automaton} {f : FoundView} {nodes : List Node} → AreSettled A f nodes → HaveNodes f nodes
settled_nodes s = record { each = λ i p x l at. let d = s.draws i p x l at in record { kids = d.kids; answers = d.own; node = d.node } }
