-- Rounds over a window, turn by turn, and windows one after the other.
use Rattle.std.proofs.Common.{◌≡◌, ◌⊎◌, ℕ, suc, ◌+◌, ◌-◌, ◌*◌, ◌<◌, ◌≤◌, Bool, true, false, cond, List, length, Some, inl, inr, refl, sym, ap, subst, ◌∙◌, arith}
use Rattle.std.specs.Prelude.{slice_get, slice_index}
use Rattle.std.proofs.lemmas.Option.{slice_get_within}
use Rattle.std.proofs.Math.Nat.{mul-le-mul_right, suc-mul}
use Rattle.gg_base.specs.Numbers.{truth}
use Rattle.gg_base.specs.declared.size.Size.{Size}
use Rattle.vax_image_branches.specs.declared.piece.Branch.{Branch}
use Rattle.vax_image_branches.specs.declared.piece.Piece.{Piece}
use Rattle.vax_image_branches.specs.declared.piece.Piece.TheVariants as pieces
use Rattle.vax_image_branches.specs.Branches.{reaches, longer_form}
use Rattle.vax_image_branches.specs.Least.{IsBelow, IsLeast, ArePieces}
use Rattle.vax_image_branches.specs.Rounds.{room}
use Rattle.vax_image_branches.proofs.Placing.{under_or_not}
use Rattle.vax_image_branches.proofs.Growth.{grown_below, room_falls}
use Rattle.vax_image_branches.proofs.Rounding.{length_set}
use Rattle.vax_image_forms.specs.Windows.{ArePlacesIn, StaysIn, GrowsIn, AllReachIn, RoundedIn, HasSettled}
use Rattle.vax_image_forms.proofs.Shifting.{reaches_so}

-- before the turn of a piece: nothing grew and all before it reach; or some grew
abbrev pub SoFarIn : List Piece → ℕ → ℕ → List Size → ℕ → Bool → List Size → Type 0
SoFarIn ps first count old j false fs = (fs ≡ old) × ((k : ℕ) (b : Branch) (form : Size) → first ≤ k → k < first + j → slice_get ps k ≡ Some (pieces.Branch b)
    → slice_get old k ≡ Some form → first ≤ b.target → b.target ≤ first + count → reaches ps old k b form ≡ true)
SoFarIn ps first count old j true fs = room fs < room old

pub record GoingIn (ps : List Piece) (first count : ℕ) (old : List Size) (j : ℕ) (grew : Bool) (fs : List Size) : Type 0 where
  pub below : IsBelow ps fs
  pub room : room fs ≤ room old
  pub far : SoFarIn ps first count old j grew fs

pub going_starts : (ps : List Piece) (first count : ℕ) (old : List Size) → IsBelow ps old → GoingIn ps first count old 0 false old
going_starts ps first count old h = record { below = h; room = omega arith; far = (refl, λ k b form le lt is was from to. absurd (omega (arith, le, lt))) }

-- a turn in which the piece stays
pub stayed : (ps : List Piece) (at : List ℕ) (old fs gs : List Size) (first count j : ℕ) (grew : Bool) → ArePlacesIn ps old first count at → j < count
    → GoingIn ps first count old j grew fs → StaysIn ps at fs first count j gs → GoingIn ps first count old (j + 1) grew gs
stayed ps at old fs gs first count j grew places lt h s = subst (GoingIn ps first count old (j + 1) grew) (sym s.same) (record {
  below = h.below;
  room = h.room;
  far = by grew h.far;
})
  where
    by : (grew : Bool) → SoFarIn ps first count old j grew fs → SoFarIn ps first count old (j + 1) grew fs
    by true far = far
    by false far = (far.0, λ k b form le less is was from to. earlier k b form le less is was from to)
      where
        earlier : (k : ℕ) (b : Branch) (form : Size) → first ≤ k → k < first + (j + 1) → slice_get ps k ≡ Some (pieces.Branch b) → slice_get old k ≡ Some form
            → first ≤ b.target → b.target ≤ first + count → reaches ps old k b form ≡ true
        earlier k b form le less is was from to = elim (under_or_not k (first + j)) [
          | inl under ↦ far.1 k b form le under is was from to
          | inr over ↦
              let same : k ≡ first + j = omega (arith, less, over) in
              let there : slice_get fs (first + j) ≡ Some form = ap (λ (xs : List Size). slice_get xs (first + j)) far.0 ∙ ap (λ (n : ℕ). slice_get old n) (sym same) ∙ was in
              let told = s.reached b form (ap (λ (n : ℕ). slice_get ps n) (sym same) ∙ is) there from to in
              subst (λ (n : ℕ). reaches ps old n b form ≡ true) (sym same) (sym (reaches_so ps old at first count j b form places lt from to) ∙ told)
        ]

-- a turn in which it grows
pub grew_on : (ps : List Piece) (at : List ℕ) (old fs gs : List Size) (first count j : ℕ) (grew : Bool) → IsBelow ps old → ArePlacesIn ps old first count at → j < count
    → GoingIn ps first count old j grew fs → GrowsIn ps at fs first count j gs → GoingIn ps first count old (j + 1) true gs
grew_on ps at old fs gs first count j grew before places lt h g =
    let short : reaches ps old (first + j) g.branch g.form ≡ false = sym (reaches_so ps old at first count j g.branch g.form places lt g.from g.to) ∙ g.short in
    let falls = room_falls fs (first + j) (slice_index at (j + 1)) (slice_index at (g.branch.target - first)) g.form g.was g.short in
    subst (GoingIn ps first count old (j + 1) true) (sym g.longer) (record {
      below = record {
        forms = length_set fs (first + j) (longer_form g.form) ∙ h.below.forms;
        below = grown_below ps old fs (first + j) g.branch g.form before h.below g.is g.was short;
      };
      room = omega (arith, falls, h.room);
      far = omega (arith, falls, h.room);
    })

pub rounded : (ps : List Piece) (old fs : List Size) (first count : ℕ) (grew : Bool) → GoingIn ps first count old count grew fs → RoundedIn ps old first count grew fs
rounded ps old fs first count true h = record { below = h.below; falls = h.far }
rounded ps old fs first count false h = record { same = h.far.0; reach = subst (λ (gs : List Size). AllReachIn ps gs first count) (sym h.far.0) h.far.1 }

-- between two rounds

abbrev pub ReachUnless : List Piece → ℕ → ℕ → Bool → List Size → Type 0
ReachUnless ps first count true fs = Unit {0}
ReachUnless ps first count false fs = AllReachIn ps fs first count

pub record SettlesIn (ps : List Piece) (first count : ℕ) (old : List Size) (grew grows : Bool) (fs : List Size) : Type 0 where
  pub below : IsBelow ps fs
  pub reach : ReachUnless ps first count grows fs
  pub falls : room fs + truth grew ≤ room old

pub settles_on : (ps : List Piece) (first count : ℕ) (old fs gs : List Size) (grew grows now : Bool) → SettlesIn ps first count old grew grows fs → RoundedIn ps fs first count now gs
    → SettlesIn ps first count old (cond grew true now) now gs
settles_on ps first count old fs gs grew grows true h r = record { below = r.below; reach = tt; falls = by grew h.falls }
  where
    by : (grew : Bool) → room fs + truth grew ≤ room old → room gs + truth (cond grew true true) ≤ room old
    by true le = omega (arith, le, r.falls)
    by false le = omega (arith, le, r.falls)
settles_on ps first count old fs gs grew grows false h r = record {
  below = subst (IsBelow ps) (sym r.same) h.below;
  reach = r.reach;
  falls = by grew h.falls;
}
  where
    by : (grew : Bool) → room fs + truth grew ≤ room old → room gs + truth (cond grew true false) ≤ room old
    by true le = omega (arith, le, ap room r.same)
    by false le = omega (arith, le, ap room r.same)

-- how far rounds can still go
pub round_falls : (ps : List Piece) (first count : ℕ) (fs gs : List Size) (now : Bool) → RoundedIn ps fs first count now gs → room gs + truth now < room fs + truth true
round_falls ps first count fs gs true r = omega (arith, r.falls)
round_falls ps first count fs gs false r = omega (arith, ap room r.same)

pub settled : (ps : List Piece) (first count : ℕ) (old fs : List Size) (grew : Bool) → SettlesIn ps first count old grew false fs → HasSettled ps old first count grew fs
settled ps first count old fs grew h = record { below = h.below; reach = h.reach; falls = h.falls }

-- what is left of a sweep: so often may a window still grow, and so many pieces stand behind where the next begins

times_more : (s r n : ℕ) → s + 1 ≤ r → s * (n + 1) + (n + 1) ≤ r * (n + 1)
times_more s r n le =
    let all : suc s * (n + 1) ≤ r * (n + 1) = mul-le-mul_right (n + 1) (omega (arith, le)) in
    omega (arith, all, suc-mul s (n + 1))

pub left_falls : (s r n i j half : ℕ) (grew : Bool) → s + truth grew ≤ r → i < n → 0 < half → j ≡ cond grew (i - half) (i + half)
    → s * (n + 1) + (n - j) < r * (n + 1) + (n - i)
left_falls s r n i j half true le lt pos is = omega (arith, times_more s r n le, lt)
left_falls s r n i j half false le lt pos is = by (under_or_not s r)
  where
    by : (s < r) ⊎ (r ≤ s) → s * (n + 1) + (n - j) < r * (n + 1) + (n - i)
    by (inl less) = omega (arith, times_more s r n (omega (arith, less)), lt)
    by (inr not) =
        let same : s ≡ r = omega (arith, le, not) in
        omega (arith, ap (λ (m : ℕ). m * (n + 1)) same, is, lt, pos)

-- the whole section is a window
pub whole_fits : (ps : List Piece) (old fs : List Size) (grew : Bool) → ArePieces ps → HasSettled ps old 0 (length ps) grew fs → IsLeast ps fs
whole_fits ps old fs grew pieces h = record {
  fits = record {
    forms = h.below.forms;
    each = λ k b form is was.
        let inside = slice_get_within ps k _ is in
        h.reach k b form (omega arith) (omega (arith, inside)) is was (omega arith) (omega (arith, pieces.branch k b is));
  };
  least = h.below;
}
