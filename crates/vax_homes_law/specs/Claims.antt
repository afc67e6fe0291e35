-- The law of this crate: instructions whose run is confined do with locals in registers what they do without.
use Rattle.std.specs.Prelude.{◌≡◌, ℕ, ◌+◌, ◌*◌, ◌≤◌, Bool, true, List, length, map}
use Rattle.gg_base.specs.declared.limits.TheConstants.{STACK_START}
use Rattle.vax_confined.specs.vax_core.specs.declared.register.Reg.TheVariants.{Ap, Fp, Sp}
use Rattle.vax_confined.specs.vax_core.specs.declared.code.Instr.{Instr}
use Rattle.vax_homes.specs.declared.choose.Home.{Home}
use Rattle.vax_homes.specs.Homing.{homed_instr}
use Rattle.vax_confined.specs.vax_machine.specs.declared.turn.Stop.TheVariants as stops
use Rattle.vax_confined.specs.vax_machine.specs.State.{State, reg}
use Rattle.vax_confined.specs.vax_machine_lists.specs.Instructions.{Course, Ending, Comes, Goes, Calls, Returns, Stops}
use Rattle.vax_confined.specs.vax_machine_lists.specs.Instructions as machine
use Rattle.vax_confined.specs.Confined as confined
use Rattle.vax_homes_law.specs.Alike.{IsPaired, beside, AreReady, AreLaid, Alike}

module _ (hs : List Home) (hidden : ℕ → Type 0) where
  -- The other machine comes to a state alike, in the same way, and fp and ap are as they were.
  pub record ComesAlike (m n : State) (written : List ℕ) (way : State → Ending) (other : Course) : Type 0 where
    pub rs : List ℕ
    pub st : List ℕ
    pub is : other ≡ record { written = written; ending = way (beside n rs st) }
    pub alike : Alike hs hidden n rs st
    pub fp : reg n Fp ≡ reg m Fp
    pub ap_same : reg n Ap ≡ reg m Ap
    -- sp is in the stack, and rose by a longword for each byte that was written, at most
    pub bottom : STACK_START ≤ reg n Sp
    pub sp : reg n Sp ≤ reg m Sp + 4 * length written

  -- What the other machine does where the first one does that; where the first breaks, nothing is said.
  abbrev pub Ends : State → List ℕ → Ending → Course → Type 0
  Ends m w (Comes n) other = ComesAlike m n w (λ (k : State). Comes k) other
  Ends m w (Goes label n) other = ComesAlike m n w (λ (k : State). Goes label k) other
  Ends m w (Calls name count n rest) other = ComesAlike m n w (λ (k : State). Calls name count k (map (homed_instr hs) rest)) other
  Ends m w (Returns n) other = ComesAlike m n w (λ (k : State). Returns k) other
  Ends m w (Stops stops.Trapped) other = other ≡ record { written = w; ending = Stops stops.Trapped }
  Ends m w (Stops e) other = Unit {0}

  abbrev pub Follows : State → Course → Course → Type 0
  Follows m c other = Ends m c.written c.ending other

-- Instructions that are ready for homes, run confined from a state, and the same with homes run from a state alike: where sp, with a
-- longword for each byte that is written, stays below the end of the frame's words, the second course follows the first.
abbrev pub HomedCodesFollow : Type 0
HomedCodesFollow =
    (hs : List Home) (hidden : ℕ → Bool) (args low : ℕ) (is : List Instr) (m : State) (rs st : List ℕ)
    → IsPaired hs → AreReady hs args is → Alike hs (λ i. hidden i ≡ true) m rs st
    → AreLaid hs (λ i. hidden i ≡ true) (reg m Fp) (reg m Ap) args low
    → STACK_START ≤ reg m Sp → reg m Sp + 4 * length (confined.exec is m).written ≤ low
    → Follows hs (λ i. hidden i ≡ true) m (confined.exec is m) (machine.exec (map (homed_instr hs) is) (beside m rs st))
