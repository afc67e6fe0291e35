-- What a tree's code does with all calls at home.
use Rattle.std.specs.Prelude.{◌≡◌, ℕ, ◌<◌, ◌≤◌, false, List, [], ◌∷◌, length, map, slice_index, option_to_list}
use Rattle.vax_states.specs.tree_core.specs.declared.program.Object.{Object}
use Rattle.vax_states.specs.tree_core.specs.declared.program.TreeProgram.{TreeProgram}
use Rattle.vax_states.specs.tree_core.specs.Trees.{Forest}
use Rattle.vax_states.specs.tree_core.specs.Names.{label_name, function_label}
use Rattle.gg_base.specs.declared.run.Finish.TheVariants as finish
use Rattle.vax_states.specs.tree_meaning.specs.State.{Extent}
use Rattle.vax_states.specs.tree_meaning.specs.State.{State as Trees}
use Rattle.vax_states.specs.tree_meaning.specs.Steps.{Step, Goes as GoesOn, Serves, GoesTo, Enters, GoesBack, Ends, tree_step}
use Rattle.vax_states.specs.vax_machine_lists.specs.vax_core.specs.declared.code.Instr.{Instr}
use Rattle.vax_states.specs.vax_machine_lists.specs.vax_core.specs.declared.register.Reg.TheVariants.{R0}
use Rattle.vax_states.specs.vax_machine_lists.specs.vax_core.specs.Registers.{operands_name}
use Rattle.vax_states.specs.vax_machine.specs.declared.turn.Stop.TheVariants as stops
use Rattle.vax_states.specs.vax_machine.specs.State.{State, reg}
use Rattle.vax_states.specs.vax_machine_lists.specs.Instructions.{Course, Ending, ends, Comes, Goes, Calls, Returns, Stops}
use Rattle.vax_states.specs.vax_machine_lists.specs.Instructions as machine
use Rattle.vax_states.specs.Agreeing.{Agrees, HasResult, HasRoom}
use Rattle.vax_frames_law.specs.Guarding.{has}
use Rattle.vax_frames_law.specs.vax_frames.specs.Frames.{end_code}
use Rattle.vax_homes_law.specs.vax_homes.specs.Homing.{homed_instr}
use Rattle.vax_homes_law.specs.vax_confined.specs.Confined as confined
use Rattle.vax_homes_law.specs.Alike.{beside, AreReady}
use Rattle.vax_homes_law.specs.Calling.{with_stack}
use Rattle.vax_homes_frames.specs.Live.{HomedCall, AllAtHome}

-- ---- one course

-- instructions name no registers of r2 to r11 but those of a mask
abbrev pub NamesOnly : ℕ → List Instr → Type 0
NamesOnly mask [] = Unit {0}
NamesOnly mask (i ∷ is) = ((r : ℕ) → 2 ≤ r → r < 12 → has mask r ≡ false → operands_name i.operands r ≡ false) × NamesOnly mask is

-- the same calls wait, and the innermost one has as many arguments
pub record IsSameCall (t s : Trees) : Type 0 where
  pub callers : s.callers ≡ t.callers
  pub arguments : length s.running.arguments ≡ length t.running.arguments

-- a course comes to a state that stands for a tree state, with all calls at home
pub record AllComeHome (objects : List Object) (e : Extent) (es : List Extent) (c : HomedCall) (cs : List HomedCall) (s : Trees)
    (m n : State) (w : List ℕ) (way : State → Ending) (did : Course) : Type 0 where
  pub rs : List ℕ
  pub st : List ℕ
  pub does : did ≡ record { written = w; ending = way (beside n rs st) }
  pub at_home : AllAtHome objects e es c cs s (record n { registers = rs }) st
  pub frames : n.frames ≡ m.frames
  -- r0 to r5, which are no homes, are as they are without homes
  pub low : (r : ℕ) → r < 6 → slice_index rs r ≡ slice_index n.registers r

module _ (objects : List Object) (e : Extent) (es : List Extent) (c : HomedCall) (cs : List HomedCall) (t s : Trees) (m n : State)
    (st w : List ℕ) (code : List Instr) where
  -- where the plain code ends in one way, the code with homes ends in the other
  abbrev pub AllReachHome : (State → Ending) → (State → Ending) → Type 0
  AllReachHome way homeward =
      confined.exec code m ≡ record { written = w; ending = way n }
      → AllComeHome objects e es c cs s m n w homeward (machine.exec (map (homed_instr c.homes) code) (with_stack m st))

  abbrev pub AllReach : Type 0
  AllReach =
      AllReachHome (λ (k : State). Comes k) (λ (k : State). Comes k)
      × ((label : List ℕ) → AllReachHome (λ (k : State). Goes label k) (λ (k : State). Goes label k))
      × ((name : List ℕ) (count : ℕ) (rest : List Instr)
      → AllReachHome (λ (k : State). Calls name count k rest) (λ (k : State). Calls name count k (map (homed_instr c.homes) rest)))
      × AllReachHome (λ (k : State). Returns k) (λ (k : State). Returns k)

-- Behind a tree's code, at its label, before its call or its return the machine is at home again: the code's run without homes, which is
-- confined, comes there, writes no more bytes than arguments are pushed, and the code with homes names registers of the frame's mask alone.
abbrev pub AllTreesStayHome : Type 0
AllTreesStayHome =
    (objects : List Object) (e : Extent) (es : List Extent) (c : HomedCall) (cs : List HomedCall) (t s : Trees) (m n : State)
    (st w : List ℕ) (code : List Instr)
    → AllAtHome objects e es c cs t m st → HasRoom m → AreReady c.homes (length t.running.arguments) code
    → NamesOnly c.frame.mask (map (homed_instr c.homes) code) → IsSameCall t s → length w ≤ length t.running.pushed
    → Agrees objects e es s n → AllReach objects e es c cs t s m n st w code

-- ---- a tree's effect

-- The same calls are live, and the state stands for the trees' state.
pub record Stays (objects : List Object) (e : Extent) (es : List Extent) (t : Trees) (old new : State) : Type 0 where
  pub frames : new.frames ≡ old.frames
  pub agrees : Agrees objects e es t new

-- the same with all calls at home: the machine is the new state with the stack st
pub record StaysAtHome (objects : List Object) (e : Extent) (es : List Extent) (c : HomedCall) (cs : List HomedCall) (t : Trees)
    (old new : State) (st : List ℕ) : Type 0 where
  pub frames : new.frames ≡ old.frames
  pub at_home : AllAtHome objects e es c cs t new st

module _ (objects : List Object) (e : Extent) (es : List Extent) (t : Trees) (m : State) where
  -- The instructions' course from the machine's state is what a tree does in the tree program's state for which it stands. A call and a
  -- return are left to be done: in the state before them the tree program's state is the same, but for the last call's result.
  abbrev pub Does : Step → Course → Type 0
  Does (GoesOn s) d = (n : State) × (d ≡ record { written = []; ending = Comes n }) × Stays objects e es s m n
  Does (Serves b s) d =
      (n : State) × (d ≡ record { written = option_to_list b; ending = Comes n }) × Stays objects e es s m n × HasResult s n
  Does (GoesTo label s) d = (n : State) × (d ≡ record { written = []; ending = Goes (label_name label) n }) × Stays objects e es s m n
  Does (Enters g args s) d =
      (n : State) × (d ≡ record { written = []; ending = Calls (function_label g.name) (length args) n [] }) × Stays objects e es t m n
  Does (GoesBack v s) d = (n : State) × (d ≡ record { written = []; ending = Returns n }) × Stays objects e es t m n × (reg n R0 ≡ v)
  Does (Ends (finish.Ended v)) d = Unit {0}
  Does (Ends finish.Trapped) d = d ≡ record { written = []; ending = Stops stops.Trapped }
  Does (Ends finish.Wild) d = Unit {0}
  Does (Ends finish.Deep) d = Unit {0}

module _ (objects : List Object) (e : Extent) (es : List Extent) (c : HomedCall) (cs : List HomedCall) (t : Trees) (m : State) where
  -- the same of a machine with all calls at home
  abbrev pub DoesAtHome : Step → Course → Type 0
  DoesAtHome (GoesOn s) d =
      (n : State) × (st : List ℕ) × (d ≡ ends (Comes (with_stack n st))) × StaysAtHome objects e es c cs s m n st
  DoesAtHome (Serves b s) d =
      (n : State) × (st : List ℕ) × (d ≡ record { written = option_to_list b; ending = Comes (with_stack n st) })
      × StaysAtHome objects e es c cs s m n st × HasResult s n
  DoesAtHome (GoesTo label s) d =
      (n : State) × (st : List ℕ) × (d ≡ ends (Goes (label_name label) (with_stack n st))) × StaysAtHome objects e es c cs s m n st
  DoesAtHome (Enters g args s) d =
      (n : State) × (st : List ℕ) × (d ≡ ends (Calls (function_label g.name) (length args) (with_stack n st) []))
      × StaysAtHome objects e es c cs t m n st
  DoesAtHome (GoesBack v s) d =
      (n : State) × (st : List ℕ) × (d ≡ ends (Returns (with_stack n st))) × StaysAtHome objects e es c cs t m n st × (reg n R0 ≡ v)
  DoesAtHome (Ends (finish.Ended v)) d = Unit {0}
  DoesAtHome (Ends finish.Trapped) d = d ≡ ends (Stops stops.Trapped)
  DoesAtHome (Ends finish.Wild) d = Unit {0}
  DoesAtHome (Ends finish.Deep) d = Unit {0}

-- What a tree's code, run confined, does without homes, the code with homes does at home.
abbrev pub EffectsStayHome : Type 0
EffectsStayHome =
    (program : TreeProgram) (objects : List Object) (e : Extent) (es : List Extent) (c : HomedCall) (cs : List HomedCall) (t : Trees)
    (m : State) (st : List ℕ) (f : Forest) (code : List Instr)
    → AllAtHome objects e es c cs t m st → HasRoom m → AreReady c.homes (length t.running.arguments) code
    → NamesOnly c.frame.mask (map (homed_instr c.homes) code)
    → Does objects e es t m (tree_step program t f) (confined.exec code m)
    → DoesAtHome objects e es c cs t m (tree_step program t f) (machine.exec (map (homed_instr c.homes) code) (with_stack m st))

-- `clrl r0` and `ret`, with which each function's code ends, return 0 from a machine at home
pub record EndsAtHome (objects : List Object) (e : Extent) (es : List Extent) (c : HomedCall) (cs : List HomedCall) (t : Trees) (m : State)
    (st : List ℕ) : Type 0 where
  pub state : State
  pub does : machine.exec end_code (with_stack m st) ≡ ends (Returns (with_stack state st))
  pub stays : StaysAtHome objects e es c cs t m state st
  pub result : reg state R0 ≡ 0

abbrev pub EndCodesStayHome : Type 0
EndCodesStayHome =
    (objects : List Object) (e : Extent) (es : List Extent) (c : HomedCall) (cs : List HomedCall) (t : Trees) (m : State) (st : List ℕ)
    → AllAtHome objects e es c cs t m st → EndsAtHome objects e es c cs t m st
