-- Frames of two codes: they differ in where their calls come back to and in the registers that they save.
use Rattle.std.proofs.Common.{◌≡◌, ℕ, zero, suc, Bool, ◌||◌, List, [], ◌∷◌, ◌++◌, length, take, Option, Some, None, refl, ap, ◌∙◌}
use Rattle.std.specs.Prelude.{slice_get}
use Rattle.vax_pairs.specs.vax_machine_live.specs.declared.frame.Frame.{Frame}
use Rattle.vax_pairs.specs.vax_machine_live.specs.Control.{overlaps, in_control}
use Rattle.vax_alike.proofs.Placing.{SameControl}
use Rattle.vax_pairs.specs.Standing.{Seen}
use Rattle.vax_pairs.specs.Standing.{IsFrameAlike as IsOneAlike, AreFramesAlike as AreAllAlike}

module _ (Rel : Type 0) (Holds : Rel → Seen → Seen → Type 0) (At : ℕ → ℕ → ℕ → Rel → Type 0) where
  abbrev pub IsFrameAlike : Frame → Frame → Type 0
  IsFrameAlike f g = IsOneAlike Rel Holds At f g

  abbrev pub AreFramesAlike : List Frame → List Frame → Type 0
  AreFramesAlike fs gs = AreAllAlike Rel Holds At fs gs

  -- the frame at a place, where there is one
  abbrev pub OneAlike : Option Frame → Option Frame → Type 0
  OneAlike None None = Unit {0}
  OneAlike None (Some g) = ⊥
  OneAlike (Some f) None = ⊥
  OneAlike (Some f) (Some g) = IsFrameAlike f g

  pub same_control : (fs gs : List Frame) → AreFramesAlike fs gs → SameControl fs gs
  same_control [] [] h a k = refl
  same_control [] (g ∷ gs) h a k = absurd h
  same_control (f ∷ fs) [] h a k = absurd h
  same_control (f ∷ fs) (g ∷ gs) h a k = ap (λ (x : Frame). overlaps x a k || in_control gs a k) h.0.same ∙ ap (λ (b : Bool). overlaps f a k || b) (same_control fs gs h.1 a k)

  pub same_length : (fs gs : List Frame) → AreFramesAlike fs gs → length gs ≡ length fs
  same_length [] [] h = refl
  same_length [] (g ∷ gs) h = absurd h
  same_length (f ∷ fs) [] h = absurd h
  same_length (f ∷ fs) (g ∷ gs) h = ap suc (same_length fs gs h.1)

  pub fronts_alike : (n : ℕ) (fs gs : List Frame) → AreFramesAlike fs gs → AreFramesAlike (take n fs) (take n gs)
  fronts_alike zero fs gs h = tt
  fronts_alike (suc n) [] [] h = tt
  fronts_alike (suc n) [] (g ∷ gs) h = absurd h
  fronts_alike (suc n) (f ∷ fs) [] h = absurd h
  fronts_alike (suc n) (f ∷ fs) (g ∷ gs) h = (h.0, fronts_alike n fs gs h.1)

  pub one_alike : (n : ℕ) (fs gs : List Frame) → AreFramesAlike fs gs → OneAlike (slice_get fs n) (slice_get gs n)
  one_alike zero [] [] h = tt
  one_alike (suc n) [] [] h = tt
  one_alike n [] (g ∷ gs) h = absurd h
  one_alike n (f ∷ fs) [] h = absurd h
  one_alike zero (f ∷ fs) (g ∷ gs) h = h.0
  one_alike (suc n) (f ∷ fs) (g ∷ gs) h = one_alike n fs gs h.1

  pub one_more : (fs gs : List Frame) (f g : Frame) → AreFramesAlike fs gs → IsFrameAlike f g → AreFramesAlike (fs ++ f ∷ []) (gs ++ g ∷ [])
  one_more [] [] f g h k = (k, tt)
  one_more [] (y ∷ gs) f g h k = absurd h
  one_more (x ∷ fs) [] f g h k = absurd h
  one_more (x ∷ fs) (y ∷ gs) f g h k = (h.0, one_more fs gs f g h.1 k)
