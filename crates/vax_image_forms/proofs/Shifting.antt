-- Places that are counted from a window's first piece tell the same ways.
use Rattle.std.proofs.Common.{◌≡◌, ℕ, zero, suc, ◌+◌, ◌-◌, ◌<◌, ◌≤◌, ◌^◌, Bool, true, false, ltb, leb, List, [], ◌∷◌, ◌++◌, length, Some, refl, sym, ap, subst, ◌∙◌, inl, inr, arith, length-append}
use Rattle.std.specs.Prelude.{slice_get, slice_index, slice_index_or}
use Rattle.std.proofs.lemmas.Bool.{ltb-true, lt-ltb, leb-true, le-leb, and_parts}
use Rattle.std.proofs.lemmas.Option.{same_Some, slice_get_within}
use Rattle.gg_base.specs.declared.size.Size.{Size}
use Rattle.gg_base.specs.declared.size.Size.TheVariants.{Byte, Word, Long}
use Rattle.gg_base.proofs.Facts.{slice_left, slice_seam, index_of, index_there}
use Rattle.vax_image_branches.specs.declared.piece.Branch.{Branch}
use Rattle.vax_image_branches.specs.declared.piece.Piece.{Piece}
use Rattle.vax_image_branches.specs.declared.piece.Piece.TheVariants as pieces
use Rattle.vax_image_branches.specs.Branches.{piece_length, place, within, spans, reaches}
use Rattle.vax_image_branches.specs.Least.{ArePieces}
use Rattle.vax_image_branches.specs.Rounds.{AreSmall}
use Rattle.vax_image_branches.proofs.Placing.{under_or_not, piece_small, place_small, place_next}
use Rattle.vax_image_forms.specs.Windows.{ArePlacesIn, reaches_in}

rises : (ps : List Piece) (fs : List Size) (i j : ℕ) → i ≤ j → place ps fs i ≤ place ps fs j
rises ps fs zero j le = omega arith
rises ps fs (suc i) zero le = absurd (omega (arith, le))
rises [] fs (suc i) (suc j) le = omega arith
rises (p ∷ ps) [] (suc i) (suc j) le = omega arith
rises (p ∷ ps) (f ∷ fs) (suc i) (suc j) le = omega (arith, rises ps fs i j (omega (arith, le)))

-- a way is the same wherever it begins

same_test : (a b : Bool) → (a ≡ true → b ≡ true) → (b ≡ true → a ≡ true) → a ≡ b
same_test true b f g = sym (f refl)
same_test false true f g = g refl
same_test false false f g = refl

within_moved : (half c x y : ℕ) → c ≤ x → c ≤ y → within half (x - c) (y - c) ≡ within half x y
within_moved half c x y lx ly = same_test (within half (x - c) (y - c)) (within half x y)
    (λ h.
    let p = and_parts (ltb (y - c) ((x - c) + half)) (leb (x - c) ((y - c) + half)) h in
    let a = ltb-true (y - c) ((x - c) + half) p.0 in
    let b = leb-true (x - c) ((y - c) + half) p.1 in
    rw (lt-ltb y (x + half) (omega (arith, a, lx, ly)), le-leb x (y + half) (omega (arith, b, lx, ly))) refl)
    (λ h.
    let p = and_parts (ltb y (x + half)) (leb x (y + half)) h in
    let a = ltb-true y (x + half) p.0 in
    let b = leb-true x (y + half) p.1 in
    rw (lt-ltb (y - c) ((x - c) + half) (omega (arith, a, lx, ly)), le-leb (x - c) ((y - c) + half) (omega (arith, b, lx, ly))) refl)

spans_moved : (form : Size) (c x y : ℕ) → c ≤ x → c ≤ y → spans form (x - c) (y - c) ≡ spans form x y
spans_moved Byte c x y lx ly = within_moved 128 c x y lx ly
spans_moved Word c x y lx ly = within_moved 32768 c x y lx ly
spans_moved Long c x y lx ly = refl

-- the test by places in the window is that of the definition
pub reaches_so : (ps : List Piece) (fs : List Size) (at : List ℕ) (first count j : ℕ) (b : Branch) (form : Size) → ArePlacesIn ps fs first count at → j < count
    → first ≤ b.target → b.target ≤ first + count → reaches_in at first j b form ≡ reaches ps fs (first + j) b form
reaches_so ps fs at first count j b form h lt from to =
    let base = place ps fs first in
    let next : first + (j + 1) ≡ suc (first + j) = omega arith in
    let target : first + (b.target - first) ≡ b.target = omega (arith, from) in
    let end = index_of at (j + 1) (place ps fs (first + (j + 1)) - base) 0 (h.each (j + 1) (omega (arith, lt))) ∙ ap (λ (n : ℕ). place ps fs n - base) next in
    let goal = index_of at (b.target - first) (place ps fs (first + (b.target - first)) - base) 0 (h.each (b.target - first) (omega (arith, from, to)))
    ∙ ap (λ (n : ℕ). place ps fs n - base) target in
    ap (λ (n : ℕ). spans form n (slice_index at (b.target - first))) end
    ∙ ap (λ (n : ℕ). spans form (place ps fs (suc (first + j)) - base) n) goal
    ∙ spans_moved form base (place ps fs (suc (first + j))) (place ps fs b.target) (rises ps fs first (suc (first + j)) (omega arith)) (rises ps fs first b.target from)

-- the places, one after the other

pub record PlacedIn (ps : List Piece) (fs : List Size) (first j : ℕ) (at : List ℕ) (sum : ℕ) : Type 0 where
  pub places : ArePlacesIn ps fs first j at
  pub end : sum ≡ place ps fs (first + j) - place ps fs first

pub placed_start : (ps : List Piece) (fs : List Size) (first : ℕ) → PlacedIn ps fs first 0 (0 ∷ []) 0
placed_start ps fs first = record { places = record { many = refl; each = by }; end = none 0 (omega arith) }
  where
    none : (j : ℕ) → j ≤ 0 → 0 ≡ place ps fs (first + j) - place ps fs first
    none j le =
        let same : first + j ≡ first = omega (arith, le) in
        omega (arith, ap (λ (n : ℕ). place ps fs n) same)

    by : (j : ℕ) → j ≤ 0 → slice_get (0 ∷ []) j ≡ Some (place ps fs (first + j) - place ps fs first)
    by zero le = ap Some (none zero le)
    by (suc j) le = absurd (omega (arith, le))

placed_fits : (ps : List Piece) (fs : List Size) (first j : ℕ) (p : Piece) (f : Size) (at : List ℕ) (end : ℕ) → ArePieces ps → slice_get ps (first + j) ≡ Some p
    → PlacedIn ps fs first j at end → end + piece_length f p < 2 ^ 62
placed_fits ps fs first j p f at end h e placed =
    omega (arith, h.few, slice_get_within ps (first + j) p e, placed.end, place_small ps fs (first + j) h.fixed, piece_small p f (λ n is. h.fixed (first + j) n (e ∙ ap Some is)))

placed_on : (ps : List Piece) (fs : List Size) (first j : ℕ) (p : Piece) (f : Size) (at : List ℕ) (end : ℕ) → slice_get ps (first + j) ≡ Some p
    → slice_get fs (first + j) ≡ Some f → PlacedIn ps fs first j at end
    → PlacedIn ps fs first (j + 1) (at ++ (end + piece_length f p) ∷ []) (end + piece_length f p)
placed_on ps fs first j p f at end e d h = record {
  places = record { many = omega (arith, length-append at ((end + piece_length f p) ∷ []), h.places.many); each = by };
  end = now;
}
  where
    now : end + piece_length f p ≡ place ps fs (first + (j + 1)) - place ps fs first
    now =
        let one : first + (j + 1) ≡ suc (first + j) = omega arith in
        omega (arith, h.end, place_next ps fs (first + j) p f e d, ap (λ (n : ℕ). place ps fs n) one, rises ps fs first (first + j) (omega arith))

    by : (i : ℕ) → i ≤ j + 1 → slice_get (at ++ (end + piece_length f p) ∷ []) i ≡ Some (place ps fs (first + i) - place ps fs first)
    by i le = elim (under_or_not i (j + 1)) [
      | inl lt ↦ slice_left at _ i (place ps fs (first + i) - place ps fs first) (h.places.each i (omega (arith, lt)))
      | inr ge ↦
          let is : i ≡ j + 1 = omega (arith, le, ge) in
          let last : i ≡ length at = is ∙ sym h.places.many in
          subst (λ (n : ℕ). slice_get (at ++ (end + piece_length f p) ∷ []) n ≡ Some (place ps fs (first + i) - place ps fs first)) (sym last)
          (slice_seam at (end + piece_length f p) [] ∙ ap Some (now ∙ ap (λ (n : ℕ). place ps fs (first + n) - place ps fs first) (sym is)))
    ]

pub are_small : (ps : List Piece) (fs : List Size) (first count : ℕ) (at : List ℕ) → ArePieces ps → first + count ≤ length ps → ArePlacesIn ps fs first count at → AreSmall at
are_small ps fs first count at h inside places = record { each = λ k n e. small k n e }
  where
    small : (k n : ℕ) → slice_get at k ≡ Some n → n < 2 ^ 62
    small k n e =
        let here : k ≤ count = omega (arith, slice_get_within at k n e, places.many) in
        let is : n ≡ place ps fs (first + k) - place ps fs first = same_Some n (place ps fs (first + k) - place ps fs first) (sym e ∙ places.each k here) in
        omega (arith, h.few, inside, here, is, place_small ps fs (first + k) h.fixed)

-- the piece and the form that code reads
pub read_fits : (ps : List Piece) (fs : List Size) (first j k : ℕ) (at : List ℕ) (end x : ℕ) → ArePieces ps → k ≡ first + j → k < length ps
    → x ≡ piece_length (slice_index_or fs k Byte) (slice_index_or ps k (pieces.Fixed 0)) → PlacedIn ps fs first j at end → end + x < 2 ^ 62
read_fits ps fs first j k at end x h here lt is placed =
    let there : slice_get ps (first + j) ≡ Some (slice_index_or ps k (pieces.Fixed 0)) = ap (λ (n : ℕ). slice_get ps n) (sym here) ∙ index_there ps k (pieces.Fixed 0) lt in
    omega (arith, is, placed_fits ps fs first j (slice_index_or ps k (pieces.Fixed 0)) (slice_index_or fs k Byte) at end h there placed)

pub read_on : (ps : List Piece) (fs : List Size) (first j k : ℕ) (at : List ℕ) (end x : ℕ) → length fs ≡ length ps → k ≡ first + j → k < length ps
    → x ≡ piece_length (slice_index_or fs k Byte) (slice_index_or ps k (pieces.Fixed 0)) → PlacedIn ps fs first j at end
    → PlacedIn ps fs first (j + 1) (at ++ (end + x) ∷ []) (end + x)
read_on ps fs first j k at end x l here lt is placed =
    subst (λ (n : ℕ). PlacedIn ps fs first (j + 1) (at ++ (end + n) ∷ []) (end + n)) (sym is)
    (placed_on ps fs first j (slice_index_or ps k (pieces.Fixed 0)) (slice_index_or fs k Byte) at end
    (ap (λ (n : ℕ). slice_get ps n) (sym here) ∙ index_there ps k (pieces.Fixed 0) lt)
    (ap (λ (n : ℕ). slice_get fs n) (sym here) ∙ index_there fs k Byte (omega (arith, l, lt))) placed)
