-- States with locals in registers, between the trees of a program.
use Rattle.std.specs.Prelude.{◌≡◌, ℕ, ◌+◌, ◌*◌, ◌<◌, ◌≤◌, ◌||◌, Bool, true, List, length, map}
use Rattle.gg_base.specs.declared.limits.TheConstants.{STACK_START}
use Rattle.vax_states.specs.tree_core.specs.declared.program.Object.{Object}
use Rattle.vax_states.specs.tree_meaning.specs.State.{Extent}
use Rattle.vax_states.specs.tree_meaning.specs.State.{State as Trees}
use Rattle.vax_states.specs.vax_machine_lists.specs.vax_core.specs.declared.register.Reg.TheVariants.{Ap, Fp}
use Rattle.vax_states.specs.vax_machine_lists.specs.vax_core.specs.declared.code.Instr.{Instr}
use Rattle.vax_states.specs.vax_machine.specs.State.{State, reg}
use Rattle.vax_states.specs.vax_machine_lists.specs.Instructions.{Ending, Comes, Goes, Calls, Returns}
use Rattle.vax_states.specs.vax_machine_lists.specs.Instructions as machine
use Rattle.vax_states.specs.Agreeing.{Agrees, HasRoom}
use Rattle.vax_homes_law.specs.vax_homes.specs.declared.choose.Home.{Home}
use Rattle.vax_homes_law.specs.vax_homes.specs.Homing.{homed_instr}
use Rattle.vax_homes_law.specs.vax_confined.specs.Confined as confined
use Rattle.vax_homes_law.specs.Alike.{Has, IsPaired, beside, AreReady, Alike}
use Rattle.vax_homes_law.specs.Laying.{is_home_byte}

-- A machine whose innermost call has homes stands for a tree state, where a state m with the same registers stands for it, in which the
-- homes' words hold what their registers hold. The machine itself is m with another stack: it differs in the bytes of homes alone, those
-- of the innermost call and `outer` ones, which lie above its arguments.
pub record AtHome (objects : List Object) (e : Extent) (es : List Extent) (hs : List Home) (outer : ℕ → Bool) (t : Trees) (m : State)
    (st : List ℕ) : Type 0 where
  pub agrees : Agrees objects e es t m
  pub paired : IsPaired hs
  pub fits : (h : Home) → Has hs h → h.local < e.locals
  pub alike : Alike hs (λ i. (is_home_byte hs (reg m Fp) i || outer i) ≡ true) m m.registers st
  pub above : (i : ℕ) → outer i ≡ true → reg m Ap + 4 * (length t.running.arguments + 1) ≤ STACK_START + i

-- a course comes to a state that stands for a tree state, with the homes where they were
pub record ComesHome (objects : List Object) (e : Extent) (es : List Extent) (hs : List Home) (outer : ℕ → Bool) (s : Trees) (n : State)
    (w : List ℕ) (way : State → Ending) (did : machine.Course) : Type 0 where
  pub rs : List ℕ
  pub st : List ℕ
  pub does : did ≡ record { written = w; ending = way (beside n rs st) }
  pub at_home : AtHome objects e es hs outer s (record n { registers = rs }) st

-- where the plain code ends in one way, the code with homes ends at home in the other
abbrev pub ReachesHome : List Object → Extent → List Extent → List Home → (ℕ → Bool) → Trees → State → State → List ℕ → List ℕ → List Instr
    → (State → Ending) → (State → Ending) → Type 0
ReachesHome objects e es hs outer s m n st w code way homeward =
    confined.exec code m ≡ record { written = w; ending = way n }
    → ComesHome objects e es hs outer s n w homeward (machine.exec (map (homed_instr hs) code) (beside m m.registers st))

-- Where a tree's code, run confined without homes, comes to a state that stands for a tree state, be it behind the code, at a label,
-- before a call or before a return, the code with homes comes to one that does so with homes, in the same way.
abbrev pub TreesStayHome : Type 0
TreesStayHome =
    (objects : List Object) (e : Extent) (es : List Extent) (hs : List Home) (outer : ℕ → Bool) (t s : Trees) (m n : State) (st w : List ℕ)
    (code : List Instr)
    → AtHome objects e es hs outer t m st → HasRoom m → AreReady hs (length t.running.arguments) code
    → length s.running.arguments ≡ length t.running.arguments → length w ≤ length t.running.pushed → Agrees objects e es s n
    → ReachesHome objects e es hs outer s m n st w code (λ (k : State). Comes k) (λ (k : State). Comes k)
    × ((label : List ℕ) → ReachesHome objects e es hs outer s m n st w code (λ (k : State). Goes label k) (λ (k : State). Goes label k))
    × ((name : List ℕ) (count : ℕ) (rest : List Instr)
    → ReachesHome objects e es hs outer s m n st w code (λ (k : State). Calls name count k rest)
    (λ (k : State). Calls name count k (map (homed_instr hs) rest)))
    × ReachesHome objects e es hs outer s m n st w code (λ (k : State). Returns k) (λ (k : State). Returns k)
