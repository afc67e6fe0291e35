-- The pieces of the stack that live calls hold, all of them and the innermost.
use Rattle.std.proofs.Common.{◌≡◌, ℕ, zero, suc, List, [], ◌∷◌, ◌++◌, take, Some, subst}
use Rattle.std.specs.Prelude.{slice_get}
use Rattle.std.proofs.lemmas.Option.{none-some}
use Rattle.gg_base.proofs.Facts.{nil_cons, head_same, tail_same}
use Rattle.tree_core.specs.declared.program.Object.{Object}
use Rattle.l32_states.specs.tree_meaning.specs.State.{State as Trees, Activation, Extent}
use Rattle.l32_machine.specs.declared.frame.Frame32.{Frame32}
use Rattle.l32_machine.specs.State.{State}
use Rattle.l32_states.specs.l32_target_meaning.specs.Stack.{Holds, Hold, nobody, caller}
use Rattle.l32_states.specs.l32_target_meaning.specs.Agreeing.{Agrees}

-- the pieces of all live calls
pub all_hold : (objects : List Object) (e : Extent) (es : List Extent) (t : Trees) (m : State) → Agrees objects e es t m
    → Hold m.stack m.fp m.frames (e ∷ es) (t.running ∷ t.callers) m.sp
all_hold objects e es t m h = caller m.fp h.outer m.frames h.innermost e es t.running t.callers m.sp h.high h.frames h.running h.callers

-- the innermost of several pieces
pub record Innermost (stack : List ℕ) (fp : ℕ) (frames : List Frame32) (own : Extent) (rest : List Extent) (c : Activation) (cs : List Activation) (low : ℕ) : Type 0 where
  pub outer : List Frame32
  pub f : Frame32
  pub high : ℕ
  pub frames_are : frames ≡ outer ++ f ∷ []
  pub here : Holds stack fp f own c low high
  pub others : Hold stack f.fp outer rest cs high

pub innermost_is : (stack : List ℕ) (fp : ℕ) (frames : List Frame32) (es : List Extent) (xs : List Activation) (low : ℕ) → Hold stack fp frames es xs low
    → (own : Extent) (rest : List Extent) (c : Activation) (cs : List Activation) → es ≡ own ∷ rest → xs ≡ c ∷ cs → Innermost stack fp frames own rest c cs low
innermost_is stack fp frames es xs low (nobody fp') own rest c cs p q = absurd (nil_cons own rest p)
innermost_is stack fp frames es xs low (caller fp' outer all f e rest_e a rest_a low' high eq here others) own rest c cs p q = record {
  outer = outer;
  f = f;
  high = high;
  frames_are = eq;
  here = subst (λ (x : Extent). Holds stack fp f x c low high) (head_same e own rest_e rest p) (subst (λ (x : Activation). Holds stack fp f e x low high) (head_same a c rest_a cs q) here);
  others =
      subst (λ (x : List Extent). Hold stack f.fp outer x cs high) (tail_same e own rest_e rest p)
      (subst (λ (x : List Activation). Hold stack f.fp outer rest_e x high) (tail_same a c rest_a cs q) others);
}

-- ---- lists

pub get_front : (xs : List ℕ) (n i v : ℕ) → slice_get (take n xs) i ≡ Some v → slice_get xs i ≡ Some v
get_front xs zero i v e = absurd (none-some v e)
get_front [] (suc n) i v e = absurd (none-some v e)
get_front (x ∷ xs) (suc n) zero v e = e
get_front (x ∷ xs) (suc n) (suc i) v e = get_front xs n i v e
