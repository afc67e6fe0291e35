-- Each settling has its tree, each place a tree round it, and each fault of what was found a sample.
use Rattle.std.proofs.Common.{◌≡◌, ℕ, zero, suc, ◌<◌, List, [], ◌∷◌, ◌++◌, Bool, length, drop, slice_get, refl, sym, ap, ◌∙◌, subst, arith, append-nil}
use Rattle.tree_core.specs.declared.token.Tok.{Tok}
use Rattle.tree_core.specs.declared.token.Sort.{Sort}
use Rattle.tree_core.specs.Grammar.{kids}
use Rattle.md_reader.specs.declared.types.Sym.{Sym}
use Rattle.md_reader.specs.declared.types.Sym.TheVariants as grammar_symbol
use Rattle.lr_check.specs.Tree.{Token}
use Rattle.lr_check_sets.specs.Automaton.{Automaton, Production, size_of, reduced}
use Rattle.lr_check_sets.proofs.Links.{drop_whole}
use Rattle.lr_check_sets.specs.Trees.{May, Tree, Trees, node, no_trees, more_trees}
use Rattle.lr_check_sets.specs.Answers.{leaves, leaves_all}
use Rattle.lr_check_sets.specs.Faults.{Circles, one, more}
use Rattle.lr_check_sets.proofs.Reached.{some_trees}
use Rattle.lr_check_parse.specs.Typed.{AreTyped, ends, begins}
use Rattle.lr_check_found.specs.declared.places.Place.{Place}
use Rattle.lr_check_found.specs.declared.places.Origin.{Origin}
use Rattle.lr_check_found.specs.declared.settlings.How.{How}
use Rattle.lr_check_found.specs.declared.settlings.Settling.{Settling}
use Rattle.lr_check_found.specs.Found.{FoundView, IsPlaceAt, IsSettlingAt, SettlesAt}
use Rattle.lr_check_found.specs.Items as items
use Rattle.lr_check_found.specs.Items.{Begun, Made, IsEarlier, IsLater}
use Rattle.lr_check_found.specs.Sound.{IsSoundPlace, IsSoundSettling, IsFound}
use Rattle.lr_check_samples.specs.Fixed.{fixed_leaf, fixed_one, fixed_two, fixed_reduced, IsOrigin, BeginsWith, at_root, at_only, at_first, at_second}
use Rattle.lr_check_samples.specs.Samples.{of_gap, of_dead, Turning, turn, turn_on, of_circle}
use Rattle.lr_check_samples.specs.Claims.{HasTree, HasContext, FaultsHaveSamples}
use Rattle.lr_check_samples.specs.Stops.{tokens}
use Rattle.lr_check_samples.proofs.Making.{settles_of}

-- trees are typed
mutual
  typed_tree : {x : Sort} {xs : List Sort} (v : Tree x) (w : List Token) → AreTyped xs (tokens w) → AreTyped (x ∷ xs) (tokens (leaves v w))
  typed_tree {x = x} (node k may answers vs) w h = begins k may (typed_trees vs w h)

  typed_trees : {ys xs : List Sort} (vs : Trees ys) (w : List Token) → AreTyped xs (tokens w) → AreTyped (ys ++ xs) (tokens (leaves_all vs w))
  typed_trees no_trees w h = h
  typed_trees (more_trees v vs) w h = typed_tree v (leaves_all vs w) (typed_trees vs w h)

begins_with : (v : Sort) (m : Tok) (may : May m v) → BeginsWith v m (leaves (node {x = v} m may [] (some_trees (kids m))) [])
begins_with v m may = record { answers = []; others = leaves_all (some_trees (kids m)) []; first = refl; typed = typed_tree (node m may [] (some_trees (kids m))) [] ends }

module _ (A : Automaton) (f : FoundView) (found : IsFound A f) where
  tree_by : (i : ℕ) (e : Settling) (n : ℕ) (x : Place) (h : How) (s : List Sym) → IsSettlingAt f i e → IsPlaceAt f n x → Made A f n x h s → e.how ≡ h → IsLater i h →
      ((j : ℕ) (d : Settling) → j < i → IsSettlingAt f j d → HasTree A f j) → HasTree A f i
  tree_by i e n x _ _ at there (items.leaf go none) is late ih =
      record { leaves = []; own = []; depths = []; fixed = fixed_leaf (record { entry = e; there = at; how = is }) }
  tree_by i e n x _ _ at there (items.one {i = j} h sum g) is late ih =
      let k : HasTree A f j = ih j sum.entry late sum.there in
      record { leaves = _; own = _; depths = _; fixed = fixed_one (record { entry = e; there = at; how = is }) (settles_of sum) k.fixed }
  tree_by i e n x _ _ at there (items.two {i = j} {k = l} h sum g sum' g') is late ih =
      let k : HasTree A f j = ih j sum.entry late.0 sum.there in
      let k' : HasTree A f l = ih l sum'.entry late.1 sum'.there in
      record { leaves = _; own = _; depths = _; fixed = fixed_two (record { entry = e; there = at; how = is }) (settles_of sum) k.fixed (settles_of sum') k'.fixed }
  tree_by i e n x _ _ at there (items.made_by_reduction {i = j} {p = p} {s = s} d r at' same list behind free size) is late ih =
      let k : HasTree A f j = ih j d late at' in
      let settles : SettlesAt f j x s p = record { entry = d; there = at'; place = ap (slice_get f.places) same ∙ there; list = list; behind = behind } in
      record { leaves = _; own = _; depths = _; fixed = fixed_reduced (record { entry = e; there = at; how = is }) settles k.fixed }

  tree_below : (b i : ℕ) (e : Settling) → i < b → IsSettlingAt f i e → HasTree A f i
  tree_below zero i e lt at = absurd (omega (arith, lt))
  tree_below (suc b) i e lt at =
      let k : IsSoundSettling A f i e = found.settlings i e at in
      tree_by i e e.place k.place e.how k.list at k.there k.made refl k.later (λ j d less there. tree_below b j d (omega (arith, less, lt)) there)

  pub has_tree : (i : ℕ) (e : Settling) → IsSettlingAt f i e → HasTree A f i
  has_tree i e at = tree_below (suc i) i e (omega arith) at

  context_by : (n : ℕ) (x : Place) (o : Origin) → IsPlaceAt f n x → IsOrigin f n o → Begun A f x o → IsEarlier n o →
      ((i : ℕ) (y : Place) → i < n → IsPlaceAt f i y → HasContext A f i) → HasContext A f n
  context_by n x _ at is (items.root h) early ih = record { before = []; behind = []; context = at_root is }
  context_by n x _ at is (items.only {i = i} {y = y} there h g) early ih =
      let k : HasContext A f i = ih i y early there in
      record { before = _; behind = _; context = at_only is there h.kid k.context }
  context_by n x _ at is (items.first {i = i} {y = y} {v = v} m there h g may) early ih =
      let k : HasContext A f i = ih i y early there in
      let may' : May x.behind v = subst (λ z. May z v) (sym g.behind) may in
      record { before = _; behind = _; context = at_first is there h.kid at (begins_with v x.behind may') k.context }
  context_by n x _ at is (items.second {i = i} {n = j} {y = y} there h sum fit g) early ih =
      let k : HasContext A f i = ih i y early there in
      let l : HasTree A f j = has_tree j sum.entry sum.there in
      record { before = _; behind = _; context = at_second is there (settles_of sum) l.fixed k.context }

  context_below : (b n : ℕ) (x : Place) → n < b → IsPlaceAt f n x → HasContext A f n
  context_below zero n x lt at = absurd (omega (arith, lt))
  context_below (suc b) n x lt at =
      let k : IsSoundPlace A f n x = found.places n x at in
      context_by n x k.origin at k.there k.begun k.earlier (λ i y less there. context_below b i y (omega (arith, less, lt)) there)

  pub has_context : (n : ℕ) (x : Place) → IsPlaceAt f n x → HasContext A f n
  has_context n x at = context_below (suc n) n x (omega arith) at

-- a circle, with the answers that turn it
record HasTurning (A : Automaton) (q : ℕ) (t : Tok) (s s' : List Sym) : Type 0 where
  own : List Bool
  depths : List ℕ
  turning : Turning A q t s s' own depths

whole_left : (r : Production) (s : List Sym) → size_of r ≡ length s → grammar_symbol.Class r.left ∷ [] ≡ reduced r s
whole_left r s e = ap (λ l. grammar_symbol.Class r.left ∷ l) (sym (ap (λ n. drop n s) e ∙ drop_whole s))

turning_as : {A : Automaton} {q : ℕ} {t : Tok} {s u v : List Sym} {own : List Bool} {ds : List ℕ} → u ≡ v → Turning A q t s u own ds → HasTurning A q t s v
turning_as {A = A} {q = q} {t = t} {s = s} {own = own} {ds = ds} e h = record { own = own; depths = ds; turning = subst (λ l. Turning A q t s l own ds) e h }

turning_of : {A : Automaton} {q : ℕ} {t : Tok} {s s' : List Sym} → Circles A q t s s' → HasTurning A q t s s'
turning_of {s = s} (one r ws f size) = turning_as (whole_left r s size) (turn r ws f size)
turning_of (more {s' = s'} r c ws f size) = turning_as (whole_left r s' size) (turn_on r (turning_of c).turning ws f size)

pub faults_have_samples : FaultsHaveSamples
faults_have_samples A f found = record {
  trees = has_tree A f found;
  contexts = has_context A f found;
  gap = λ n x at none.
      let k : HasContext A f n = has_context A f found n x at in
      let typed : AreTyped (kids x.token) (tokens (leaves_all (some_trees (kids x.token)) [])) =
      subst (λ l. AreTyped l (tokens (leaves_all (some_trees (kids x.token)) []))) (append-nil (kids x.token)) (typed_trees (some_trees (kids x.token)) [] ends) in
      (_, of_gap (leaves_all (some_trees (kids x.token)) []) at none k.context typed);
  dead = λ i p x s at can.
      let k : HasContext A f at.entry.place = has_context A f found at.entry.place x at.place in
      let l : HasTree A f i = has_tree A f found i at.entry at.there in
      (_, of_dead at can k.context l.fixed);
  circle = λ i p x s at c.
      let k : HasContext A f at.entry.place = has_context A f found at.entry.place x at.place in
      let l : HasTree A f i = has_tree A f found i at.entry at.there in
      (_, of_circle at k.context l.fixed (turning_of c).turning);
}
