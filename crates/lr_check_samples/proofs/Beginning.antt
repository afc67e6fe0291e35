-- How a place that was found begins, by its origin.
use Rattle.std.proofs.Common.{◌≡◌, ℕ, List, [], ◌∷◌, Some, slice_get, ap, sym, ◌∙◌, subst}
use Rattle.std.proofs.lemmas.Option.{same_Some}
use Rattle.gg_base.proofs.Facts.{cons_nil}
use Rattle.tree_core.specs.declared.token.Tok.TheVariants as tok
use Rattle.tree_core.specs.declared.token.Sort.{Sort}
use Rattle.tree_core.specs.declared.token.Sort.TheVariants as sort
use Rattle.tree_core.specs.Grammar.{kids}
use Rattle.md_reader.specs.declared.types.Sym.{Sym}
use Rattle.md_reader.specs.declared.types.Sym.TheVariants as grammar_symbol
use Rattle.lr_check_sets.specs.Automaton.{Automaton}
use Rattle.lr_check_sets.specs.Trees.{May}
use Rattle.lr_check_found.specs.declared.places.Place.{Place}
use Rattle.lr_check_found.specs.declared.places.Origin.{Origin}
use Rattle.lr_check_found.specs.declared.places.Origin.TheVariants as origin
use Rattle.lr_check_found.specs.Found.{FoundView, IsPlaceAt, SumAt}
use Rattle.lr_check_found.specs.Items.{HasTwo, Fits, Begun, root, only, first, second}
use Rattle.lr_check_found.specs.Sound.{IsSoundPlace, IsFound}
use Rattle.lr_check_samples.specs.Fixed.{IsOrigin}

-- a first kid
pub record BegunFirst (A : Automaton) (x y : Place) : Type 0 where
  pub sort : Sort
  pub others : List Sort
  pub state : ℕ
  pub go : A.go y.state (grammar_symbol.Tok y.token) ≡ Some state
  pub kid : kids y.token ≡ sort ∷ others
  pub at : x.state ≡ state
  pub may : May x.token sort
  pub behind : others ≡ [] → x.behind ≡ y.behind

-- a second kid
pub record BegunSecond (A : Automaton) (f : FoundView) (j : ℕ) (x y : Place) : Type 0 where
  pub sort : Sort
  pub second_sort : Sort
  pub state : ℕ
  pub last : ℕ
  pub kid : Place
  pub list : List Sym
  pub has : HasTwo A y sort second_sort state
  pub sum : SumAt f j kid list last
  pub fits : Fits kid sort state x.token
  pub second_fits : Fits x second_sort last y.behind

module _ {A : Automaton} {f : FoundView} {x : Place} where
  pub begun_root : {o : Origin} → Begun A f x o → o ≡ origin.Root → Fits x sort.Stmt 0 tok.End
  begun_root (root h) e = h
  begun_root _ e = absurd (cc)

  pub begun_first : {o : Origin} → Begun A f x o → (i : ℕ) (y : Place) → o ≡ origin.First i → IsPlaceAt f i y → BegunFirst A x y
  begun_first (root h) i y e at = absurd (cc)
  begun_first (only {i = j} {p = p} {y = z} {w = w} there h g) i y e at =
      let same : j ≡ i = cc in
      let place : z ≡ y = same_Some z y (sym there ∙ (ap (slice_get f.places) same ∙ at)) in
      subst (BegunFirst A x) place (record { sort = w; others = []; state = p; go = h.go; kid = h.kid; at = g.state; may = g.may; behind = λ n. g.behind })
  begun_first (first {i = j} {p = p} {y = z} {w = w} {v = v} m there h g may) i y e at =
      let same : j ≡ i = cc in
      let place : z ≡ y = same_Some z y (sym there ∙ (ap (slice_get f.places) same ∙ at)) in
      subst (BegunFirst A x) place (record { sort = w; others = v ∷ []; state = p; go = h.go; kid = h.kid; at = g.state; may = g.may; behind = λ n. absurd (cons_nil v [] n) })
  begun_first (second there h sum fit g) i y e at = absurd (cc)

  pub begun_second : {o : Origin} → Begun A f x o → (i n : ℕ) (y : Place) → o ≡ origin.Second i n → IsPlaceAt f i y → BegunSecond A f n x y
  begun_second (root h) i n y e at = absurd (cc)
  begun_second (only there h g) i n y e at = absurd (cc)
  begun_second (first m there h g may) i n y e at = absurd (cc)
  begun_second (second {i = j} {n = k} {p = p} {j = q} {y = y'} {z = z} {w = w} {v = v} {s = s} there h sum fit g) i n y e at =
      let same : j ≡ i = cc in
      let number : k ≡ n = cc in
      let place : y' ≡ y = same_Some y' y (sym there ∙ (ap (slice_get f.places) same ∙ at)) in
      subst (λ l. BegunSecond A f l x y) number
      (subst (BegunSecond A f k x) place
      (record { sort = w; second_sort = v; state = p; last = q; kid = z; list = s; has = h; sum = sum; fits = fit; second_fits = g }))

pub begun_so : (A : Automaton) (f : FoundView) → IsFound A f → (n : ℕ) (x : Place) (o : Origin) → IsPlaceAt f n x → IsOrigin f n o → Begun A f x o
begun_so A f found n x o at is =
    let k : IsSoundPlace A f n x = found.places n x at in
    subst (Begun A f x) (same_Some k.origin o (sym k.there ∙ is)) k.begun
