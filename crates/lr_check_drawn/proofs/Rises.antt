-- Ancestors of a place's node, one by one.
use Rattle.std.proofs.Common.{◌≡◌, ℕ, ◌<◌, List, [], ◌∷◌, None, true, length, slice_get, refl, sym, ap, ◌∙◌, subst, arith}
use Rattle.std.specs.Prelude.{Result, Ok, Err, IfOk}
use Rattle.std.proofs.lemmas.Option.{same_Some}
use Rattle.tree_core.specs.declared.token.Tok.{Tok}
use Rattle.tree_core.specs.declared.token.Sort.TheVariants as sort
use Rattle.tree_core.specs.Grammar.{kids}
use Rattle.lr_check_found.specs.lr_check_sets.specs.Trees.{May}
use Rattle.lr_check.specs.Tree.{Node}
use Rattle.lr_check.specs.Statement.{fits_at, KidsFit}
use Rattle.lr_check.proofs.Typed.{fit_two}
use Rattle.lr_check_found.specs.declared.places.Place.{Place}
use Rattle.lr_check_found.specs.declared.places.Origin.{Origin}
use Rattle.lr_check_found.specs.declared.places.Origin.TheVariants as origin
use Rattle.lr_check_found.specs.Found.{FoundView, IsPlaceAt}
use Rattle.lr_check_samples.specs.Fixed.{IsOrigin}
use Rattle.lr_check_samples.specs.Nodes.{IsNode}
use Rattle.lr_check_samples.proofs.Drawing.{node_fits}
use Rattle.lr_check_nodes.specs.Growing.{AreWhole, HasLast, HasTreeFrom}
use Rattle.lr_check_nodes.proofs.Wholes.{grows_none, grows_both, node_grows, last_over}
use Rattle.lr_check_drawn.specs.Rising.{BegunFirst, begun_only, begun_both, BegunSecond, IsBegun, HasBegun, AreBegun, HasToken, HaveNodes, StandsAt, FitsFirst, fits_only}
use Rattle.lr_check_drawn.specs.Rising.{fits_first, HasFirst, has_only, has_first, over_only, over_first, over_second, up_here, up_more, HasParent, AfterParent, Rising}
use Rattle.lr_check_drawn.specs.Rising.{HasRisen}
use Rattle.lr_check_drawn.proofs.Begun.{have_nodes_grow, up_grows}

module _ {E : Type 0} where
  pub only_if : (r : Result ℕ E) (a b : List Node) (token behind : Tok) (kid : ℕ) → FitsFirst a token behind kid → (length (kids token) ≡ 2 → ⊥) →
      IfOk r (λ n. HasLast a b token (kid ∷ []) [] n) → IfOk r (λ n. HasFirst a b token behind kid n)
  only_if (Ok n) a b token behind kid (fits_only e fits) one h = has_only e h
  only_if (Ok n) a b token behind kid (fits_first e fits may) one h = absurd (one (ap length e))
  only_if (Err x) a b token behind kid f one h = tt

  pub both_if : (r : Result ℕ E) (a b c : List Node) (token behind : Tok) (kid second : ℕ) → FitsFirst a token behind kid → length (kids token) ≡ 2 → HasTreeFrom a b behind second →
      IfOk r (λ n. HasLast b c token (kid ∷ second ∷ []) [] n) → IfOk r (λ n. HasFirst a c token behind kid n)
  both_if (Ok n) a b c token behind kid second (fits_only e fits) two t h = absurd (let one : length (kids token) ≡ 1 = ap length e in omega (arith, one, two))
  both_if (Ok n) a b c token behind kid second (fits_first e fits may) two t h =
      has_first e may (node_grows h.grows second (record { tok = behind; kids = t.kids; answers = [] }) t.has.node) (last_over t.has.grows h)
  both_if (Err x) a b c token behind kid second f two t h = tt

-- what the code finds of a place's origin
module _ (f : FoundView) (n : ℕ) (o : Origin) (is : (q : Origin) → IsOrigin f n q → o ≡ q) (begun : AreBegun f) where
  begun_as : (x : Place) → IsPlaceAt f n x → (q : Origin) → o ≡ q → IsOrigin f n q × IsBegun f n x q
  begun_as x at q e =
      let h : HasBegun f n x = begun.each n x at in
      let same : h.origin ≡ q = sym (is h.origin h.there) ∙ e in
      (subst (IsOrigin f n) same h.there, subst (IsBegun f n x) same h.begun)

  pub root_after : (nodes : List Node) (node : ℕ) → StandsAt f nodes n node → o ≡ origin.Root → AfterParent f nodes nodes n node None
  root_after nodes node s e = ((begun_as s.place s.there origin.Root e).0, refl)

  pub first_fits : (nodes : List Node) (node i : ℕ) (token behind : Tok) → StandsAt f nodes n node → o ≡ origin.First i → ((y : Place) → IsPlaceAt f i y → token ≡ y.token) →
      ((z : Place) → IsPlaceAt f n z → behind ≡ z.behind) → FitsFirst nodes token behind node
  first_fits nodes node i token behind s e tok back = by (begun_as s.place s.there (origin.First i) e).1
    where
      by : BegunFirst f n s.place i → FitsFirst nodes token behind node
      by (begun_only {y = y} {w = w} lt at one may) = fits_only (ap kids (tok y at) ∙ one) (node_fits nodes node w s.token.node may)
      by (begun_both {y = y} {w = w} {v = v} lt at two may may') =
          fits_first (ap kids (tok y at) ∙ two) (node_fits nodes node w s.token.node may)
          (subst (λ (t : Tok). May t v) (sym (back s.place s.there)) may')

  -- the parent's place
  record ParentAt (i : ℕ) : Type 0 where
    parent : Place
    at : IsPlaceAt f i parent
    earlier : i < n

  first_parent : (x : Place) (i : ℕ) → BegunFirst f n x i → ParentAt i
  first_parent x i (begun_only {y = y} lt at one may) = record { parent = y; at = at; earlier = lt }
  first_parent x i (begun_both {y = y} lt at two may may') = record { parent = y; at = at; earlier = lt }

  pub first_after : (old new : List Node) (node i m : ℕ) (token behind : Tok) → StandsAt f old n node → o ≡ origin.First i → ((y : Place) → IsPlaceAt f i y → token ≡ y.token) →
      ((z : Place) → IsPlaceAt f n z → behind ≡ z.behind) → HasFirst old new token behind node m → HasParent f old new n node i m
  first_after old new node i m token behind s e tok back h = by h
    where
      there : IsOrigin f n (origin.First i)
      there = (begun_as s.place s.there (origin.First i) e).0

      above : ParentAt i
      above = first_parent s.place i (begun_as s.place s.there (origin.First i) e).1

      same : token ≡ above.parent.token
      same = tok above.parent above.at

      as_parent : {ks : List ℕ} → IsNode new m token ks [] → IsNode new m above.parent.token ks []
      as_parent {ks = ks} h = subst (λ (t : Tok). IsNode new m t ks []) same h

      stands : (ks : List ℕ) → HasLast old new token ks [] m → StandsAt f new i m
      stands ks l = record { place = above.parent; there = above.at; token = record { kids = ks; answers = []; node = as_parent l.node }; last = l.last }

      by : HasFirst old new token behind node m → HasParent f old new n node i m
      by (has_only one l) = record {
        grows = l.grows;
        whole = l.whole;
        over = over_only there above.at (ap kids (sym same) ∙ one) (as_parent l.node);
        stands = stands (node ∷ []) l;
        earlier = above.earlier;
      }
      by (has_first {v = v} {o = q} {ks = ks} two may second l) = record {
        grows = l.grows;
        whole = l.whole;
        over = over_first there above.at (ap kids (sym same) ∙ two) s.there (subst (λ (t : Tok). May t v) (back s.place s.there) may)
            (subst (λ (t : Tok). IsNode new q t ks []) (back s.place s.there) second) (as_parent l.node);
        stands = stands (node ∷ q ∷ []) l;
        earlier = above.earlier;
      }

  pub second_fits : (nodes : List Node) (node i k j : ℕ) (token : Tok) → HaveNodes f nodes → StandsAt f nodes n node → o ≡ origin.Second i k → ((y : Place) → IsPlaceAt f i y → token ≡ y.token) →
      j ≡ k → KidsFit nodes (j ∷ node ∷ []) (kids token)
  second_fits nodes node i k j token settled s e tok same =
      let b : BegunSecond f n s.place i k = (begun_as s.place s.there (origin.Second i k) e).1 in
      let t : HasToken nodes k b.first.token = settled.each k b.behind b.first b.list b.settles in
      fit_two nodes j node b.first_sort b.second_sort (kids token) (ap kids (tok b.parent b.at) ∙ b.two)
      (subst (λ m. fits_at (slice_get nodes m) b.first_sort ≡ true) (sym same) (node_fits nodes k b.first_sort t.node b.first_may))
      (node_fits nodes node b.second_sort s.token.node b.second_may)

  pub second_after : (old new : List Node) (node i k j m : ℕ) (token : Tok) → StandsAt f old n node → o ≡ origin.Second i k → ((y : Place) → IsPlaceAt f i y → token ≡ y.token) → j ≡ k →
      HasLast old new token (j ∷ node ∷ []) [] m → HasParent f old new n node i m
  second_after old new node i k j m token s e tok same l =
      let g = begun_as s.place s.there (origin.Second i k) e in
      let b : BegunSecond f n s.place i k = g.1 in
      let at : IsNode new m b.parent.token (j ∷ node ∷ []) [] = subst (λ (t : Tok). IsNode new m t (j ∷ node ∷ []) []) (tok b.parent b.at) l.node in
      record {
        grows = l.grows;
        whole = l.whole;
        over = over_second g.0 b.at b.settles (subst (λ z. IsNode new m b.parent.token (z ∷ node ∷ []) []) same at);
        stands = record { place = b.parent; there = b.at; token = record { kids = j ∷ node ∷ []; answers = []; node = at }; last = l.last };
        earlier = b.earlier;
      }

-- the loop
pub rising_none : (f : FoundView) (nodes : List Node) (n top : ℕ) → AreWhole nodes → StandsAt f nodes n top → Rising f nodes nodes n top n top
rising_none f nodes n top w s = record { grows = grows_none nodes; whole = w; stands = s; up = up_here }

pub rising_more : (f : FoundView) (old now new : List Node) (n top m node i o : ℕ) → Rising f old now n top m node → HasParent f now new m node i o → Rising f old new n top i o
rising_more f old now new n top m node i o r h = record {
  grows = grows_both r.grows h.grows;
  whole = h.whole;
  stands = h.stands;
  up = up_more (up_grows h.grows r.up) h.over;
}

pub risen : (f : FoundView) (old now new : List Node) (n top m node : ℕ) → AreBegun f → Rising f old now n top m node → AfterParent f now new m node None → HasRisen f old new n top
risen f old now new n top m node begun r h = subst (λ l. HasRisen f old l n top) (sym h.1) (record {
  grows = r.grows;
  whole = r.whole;
  place = m;
  root = node;
  up = r.up;
  is_root = h.0;
  last = r.stands.last;
  statement = node_fits now node sort.Stmt r.stands.token.node
      (root_may (begun.each m r.stands.place r.stands.there));
})
  where
    root_may : HasBegun f m r.stands.place → May r.stands.place.token sort.Stmt
    root_may b = subst (IsBegun f m r.stands.place) (same_Some b.origin origin.Root (sym b.there ∙ h.0)) b.begun

pub rising_settled : (f : FoundView) (old now : List Node) (n top m node : ℕ) → HaveNodes f old → Rising f old now n top m node → HaveNodes f now
rising_settled f old now n top m node s r = have_nodes_grow r.grows s
