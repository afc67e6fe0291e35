-- What an instruction does by itself doesn't depend on where the machine stands, nor on the code.
use Rattle.std.proofs.Common.{◌≡◌, ℕ, ◌%◌, ◌^◌, ◌==◌, Bool, true, false, cond, List, [], ◌∷◌, Option, Some, None, Result, Ok, Err, refl, ap, ◌∙◌}
use Rattle.std.specs.Prelude.{nat_lt}
use Rattle.std.specs.Str.{bytes_eq}
use Rattle.gg_base.specs.declared.size.Size.{Size}
use Rattle.gg_base.specs.declared.size.Size.TheVariants.{Long}
use Rattle.gg_base.specs.Arithmetic.{add32, sub32, mul32}
use Rattle.gg_base.specs.Relations.{holds}
use Rattle.l32_core.specs.declared.operand.Base32.{Base32}
use Rattle.l32_core.specs.declared.operand.Base32.TheVariants as bases
use Rattle.l32_core.specs.declared.operand.Operand32.{Operand32}
use Rattle.l32_core.specs.declared.operand.Operand32.TheVariants as operands
use Rattle.l32_core.specs.declared.op.Role.{Role}
use Rattle.l32_core.specs.declared.op.Role.TheVariants as roles
use Rattle.l32_core.specs.declared.op.Part.{Part}
use Rattle.l32_core.specs.declared.op.Part.TheVariants as parts
use Rattle.l32_core.specs.declared.code.Instr32.{Instr32}
use Rattle.l32_core.specs.declared.code.Item32.{Item32}
use Rattle.l32_core.specs.Ops.{shape}
use Rattle.l32_machine.specs.declared.turn.Stop32.{Stop32}
use Rattle.l32_machine.specs.declared.turn.Stop32.TheVariants as stops
use Rattle.l32_machine.specs.declared.memory.Region.{Region}
use Rattle.l32_machine.specs.declared.memory.Region.TheVariants as regions
use Rattle.l32_machine.specs.declared.operands.Arguments.{Arguments}
use Rattle.l32_machine.specs.declared.operands.Evaluated.{Evaluated}
use Rattle.l32_machine.specs.declared.operands.Evaluated.TheVariants as evaluating
use Rattle.l32_machine.specs.declared.operands.Destination.{Destination}
use Rattle.l32_machine.specs.declared.operands.Destination.TheVariants as destinations
use Rattle.l32_machine.specs.declared.function.Action.{Action}
use Rattle.l32_machine.specs.declared.function.Action.TheVariants.{Compute, Branch, Jump, Push, Enter, Call, Return}
use Rattle.l32_machine.specs.State.{State, with_reg, base, bad_code, stack_full, ◌>>=◌}
use Rattle.l32_machine.specs.Memory.{touched, read, written, number_at, with_number_at, sp_set}
use Rattle.l32_machine.specs.Operands.{address_of, read_at, fetched, evaluated, as_number, in_front, all_evaluated, stored}
use Rattle.l32_machine.specs.Functions.{action_of, applied}
use Rattle.l32_machine.specs.Calls.{Acts, silent, pushed, putchar, getchar, got}
use Rattle.l32_machine.specs.Step.{finished}
use Rattle.vax_core.specs.First.{putchar_name}
use Rattle.l32_target_meaning.specs.vax_target_meaning.specs.vax_machine.specs.Labels.{getchar_name}
use Rattle.l32_target_meaning.specs.l32_templates.specs.vax_templates.specs.sel_target.specs.Courses.{Course, Ending, Comes, Goes, Calls, Returns, Traps, Breaks, ends, bytes_first, behind, followed}
use Rattle.l32_target_meaning.specs.Running.{stop_of, course_of, branching, calling, alone, evaluated_then, performed, run}

-- where a machine stands, in which code, and whether it is over
pub record Where : Type 0 where
  pub place : ℕ
  pub items : List Item32
  pub over : Option Stop32

abbrev pub there : State → Where → State
there m w = record m { place = w.place; items = w.items; over = w.over }

abbrev pub ending_there : Ending Instr32 State → Where → Ending Instr32 State
ending_there (Comes m) w = Comes (there m w)
ending_there (Goes label m) w = Goes label (there m w)
ending_there (Calls name count m rest) w = Calls name count (there m w) rest
ending_there (Returns m) w = Returns (there m w)
ending_there Traps w = Traps
ending_there Breaks w = Breaks

abbrev pub course_there : Course Instr32 State → Where → Course Instr32 State
course_there c w = record { written = c.written; ending = ending_there c.ending w }

module _ (w : Where) where
  state_there : Result State Stop32 → Result State Stop32
  state_there (Ok n) = Ok (there n w)
  state_there (Err e) = Err e

  acts_there : Acts → Acts
  acts_there (Ok x) = Ok (x.0, there x.1 w)
  acts_there (Err e) = Err e

  -- ---- memory

  read_by : (m : State) (s : Size) (t : Result Region Stop32) → (t >>= λ (r : Region). Ok (number_at (there m w) s r)) ≡ (t >>= λ (r : Region). Ok (number_at m s r))
  read_by m s (Ok (regions.Area at)) = refl
  read_by m s (Ok (regions.Stack at)) = refl
  read_by m s (Err e) = refl

  read_there : (m : State) (a : ℕ) (s : Size) → read (there m w) a s ≡ read m a s
  unfolding read touched
  read_there m a s = read_by m s (touched m a s)

  written_by : (m : State) (s : Size) (v : ℕ) (t : Result Region Stop32)
      → (t >>= λ (r : Region). Ok (with_number_at (there m w) s v r)) ≡ state_there (t >>= λ (r : Region). Ok (with_number_at m s v r))
  unfolding state_there
  written_by m s v (Ok (regions.Area at)) = refl
  written_by m s v (Ok (regions.Stack at)) = refl
  written_by m s v (Err e) = refl

  written_there : (m : State) (a : ℕ) (s : Size) (v : ℕ) → written (there m w) a s v ≡ state_there (written m a s v)
  unfolding written touched
  written_there m a s v = written_by m s v (touched m a s)

  set_by : (m : State) (b : Bool) (v : ℕ) → cond b (Err stack_full) (Ok (record (there m w) { sp = v })) ≡ state_there (cond b (Err stack_full) (Ok (record m { sp = v })))
  unfolding state_there
  set_by m true v = refl
  set_by m false v = refl

  set_there : (m : State) (v : ℕ) → sp_set (there m w) v ≡ state_there (sp_set m v)
  unfolding sp_set
  set_there m v = set_by m (nat_lt v 2139095040) v

  -- ---- operands

  base_there : (m : State) (b : Base32) → base (there m w) b ≡ base m b
  base_there m (bases.A r) = refl
  base_there m bases.Fp = refl
  base_there m bases.Sp = refl

  at_there : (m : State) (n : ℕ) (b : Base32) → add32 (base (there m w) b) n ≡ add32 (base m b) n
  at_there m n b = ap (λ (a : ℕ). add32 a n) (base_there m b)

  address_there : (m : State) (o : Operand32) → address_of (there m w) o ≡ address_of m o
  unfolding address_of
  address_there m (operands.Num n) = refl
  address_there m (operands.Reg n) = refl
  address_there m (operands.At n b) = ap (λ (a : ℕ). Ok a) (at_there m n b)
  address_there m (operands.Deferred n b) = ap (λ (a : ℕ). read (there m w) a Long) (at_there m n b) ∙ read_there m (add32 (base m b) n) Long
  address_there m (operands.Addr a) = refl

  read_at_by : (m : State) (s : Size) (t : Result ℕ Stop32) → read_at (there m w) s t ≡ read_at m s t
  read_at_by m s (Ok a) = read_there m a s
  read_at_by m s (Err e) = refl

  read_at_there : (m : State) (s : Size) (o : Operand32) → read_at (there m w) s (address_of (there m w) o) ≡ read_at m s (address_of m o)
  read_at_there m s o = ap (read_at (there m w) s) (address_there m o) ∙ read_at_by m s (address_of m o)

  fetched_there : (m : State) (s : Size) (o : Operand32) → fetched (there m w) s o ≡ fetched m s o
  unfolding fetched
  fetched_there m s (operands.Num n) = refl
  fetched_there m s (operands.Reg n) = refl
  fetched_there m s (operands.At n b) = read_at_there m s (operands.At n b)
  fetched_there m s (operands.Deferred n b) = read_at_there m s (operands.Deferred n b)
  fetched_there m s (operands.Addr a) = read_at_there m s (operands.Addr a)

  number_there : (m : State) (s : Size) (o : Operand32) → as_number (fetched (there m w) s o) ≡ as_number (fetched m s o)
  number_there m s o = ap as_number (fetched_there m s o)

  evaluated_there : (m : State) (r : Role) (o : Operand32) → evaluated (there m w) r o ≡ evaluated m r o
  unfolding evaluated
  evaluated_there m roles.Number o = number_there m Long o
  evaluated_there m roles.Words o = number_there m Long o
  evaluated_there m roles.Count o = number_there m Long o
  evaluated_there m roles.Destination o = refl
  evaluated_there m roles.Register o = number_there m Long o
  evaluated_there m (roles.Source size) o = number_there m size o
  evaluated_there m (roles.Store size) o = ap (λ (t : Result ℕ Stop32). t >>= λ (a : ℕ). Ok (evaluating.Goes (destinations.Memory a size))) (address_there m o)
  evaluated_there m roles.Address o = ap as_number (address_there m o)

  all_there : (m : State) (ps : List Part) (os : List Operand32) → all_evaluated (there m w) ps os ≡ all_evaluated m ps os
  all_there m [] os = refl
  all_there m (parts.Label ∷ ps) os = all_there m ps os
  all_there m (parts.Operand role ∷ ps) [] = refl
  all_there m (parts.Operand role ∷ ps) (o ∷ os) =
      ap (λ (t : Result Evaluated Stop32). t >>= λ (e : Evaluated). all_evaluated (there m w) ps os >>= λ (x : Arguments). Ok (in_front e x)) (evaluated_there m role o)
      ∙ ap (λ (t : Result Arguments Stop32). evaluated m role o >>= λ (e : Evaluated). t >>= λ (x : Arguments). Ok (in_front e x)) (all_there m ps os)

  -- ---- what is done with them

  course_by : (r : Acts) → course_of (acts_there r) ≡ course_there (course_of r) w
  unfolding acts_there
  course_by (Ok x) = refl
  course_by (Err (stops.Ended v)) = refl
  course_by (Err stops.Trapped) = refl
  course_by (Err (stops.Broken k)) = refl

  silent_by : (t : Result State Stop32) → silent (state_there t) ≡ acts_there (silent t)
  unfolding state_there acts_there
  silent_by (Ok n) = refl
  silent_by (Err e) = refl

  -- what leaves a state, as a course
  left_there : (t u : Result State Stop32) → t ≡ state_there u → course_of (silent t) ≡ course_there (course_of (silent u)) w
  left_there t u e = ap (λ (x : Result State Stop32). course_of (silent x)) e ∙ ap course_of (silent_by u) ∙ course_by (silent u)

  stored_there : (m : State) (d : Option Destination) (v : ℕ) → stored (there m w) d v ≡ state_there (stored m d v)
  unfolding stored state_there
  stored_there m None v = refl
  stored_there m (Some (destinations.Register n)) v = refl
  stored_there m (Some (destinations.Memory a size)) v = written_there m a size v

  finished_there : (m : State) (d : Option Destination) (o : Option ℕ) → course_of (finished (there m w) d o) ≡ course_there (course_of (finished m d o)) w
  finished_there m d None = refl
  finished_there m d (Some v) = left_there (stored (there m w) d v) (stored m d v) (stored_there m d v)

  pushed_by : (sp v : ℕ) (t : Result State Stop32) → (state_there t >>= λ (n : State). written n sp Long v) ≡ state_there (t >>= λ (n : State). written n sp Long v)
  unfolding state_there
  pushed_by sp v (Ok n) = written_there n sp Long v
  pushed_by sp v (Err e) = refl

  pushed_there : (m : State) (v : ℕ) → pushed (there m w) v ≡ state_there (pushed m v)
  unfolding pushed
  pushed_there m v =
      ap (λ (t : Result State Stop32). t >>= λ (n : State). written n (sub32 m.sp 4) Long v) (set_there m (sub32 m.sp 4)) ∙ pushed_by (sub32 m.sp 4) v (sp_set m (sub32 m.sp 4))

  put_service : ℕ → State → Acts
  put_service v n = Ok (Some (v % 2 ^ 8), with_reg n 0 (v % 2 ^ 8))

  put_service_by : (v : ℕ) (t : Result State Stop32) → (state_there t >>= put_service v) ≡ acts_there (t >>= put_service v)
  unfolding state_there acts_there put_service
  put_service_by v (Ok n) = refl
  put_service_by v (Err e) = refl

  putchar_by : (m : State) (t : Result ℕ Stop32)
      → (t >>= λ (v : ℕ). sp_set (there m w) (add32 m.sp 4) >>= put_service v) ≡ acts_there (t >>= λ (v : ℕ). sp_set m (add32 m.sp 4) >>= put_service v)
  unfolding acts_there
  putchar_by m (Ok v) = ap (λ (t : Result State Stop32). t >>= put_service v) (set_there m (add32 m.sp 4)) ∙ put_service_by v (sp_set m (add32 m.sp 4))
  putchar_by m (Err e) = refl

  service_by : (b : Bool) (x y : Acts) → x ≡ acts_there y → cond b x (Err bad_code) ≡ acts_there (cond b y (Err bad_code))
  unfolding acts_there
  service_by true x y h = h
  service_by false x y h = refl

  putchar_there : (m : State) (count : ℕ) → putchar (there m w) count ≡ acts_there (putchar m count)
  unfolding putchar put_service
  putchar_there m count =
      service_by (count == 1) _ _
      (ap (λ (t : Result ℕ Stop32). t >>= λ (v : ℕ). sp_set (there m w) (add32 m.sp 4) >>= put_service v) (read_there m m.sp Long) ∙ putchar_by m (read m m.sp Long))

  got_there : (m : State) (input : List ℕ) → got (there m w) input ≡ there (got m input) w
  got_there m [] = refl
  got_there m (b ∷ rest) = refl

  getchar_there : (m : State) (count : ℕ) → getchar (there m w) count ≡ acts_there (getchar m count)
  unfolding getchar acts_there
  getchar_there m count = service_by (count == 0) _ _ (ap (λ (n : State). Ok (None, n)) (got_there m m.input))

  branching_there : (taken : Bool) (target : Option (List ℕ)) (m : State) → branching taken target (there m w) ≡ course_there (branching taken target m) w
  branching_there true None m = refl
  branching_there false None m = refl
  branching_there true (Some label) m = refl
  branching_there false (Some label) m = refl

  calling_by : (b c : Bool) (x y x' y' z : Course Instr32 State) → x ≡ course_there x' w → y ≡ course_there y' w
      → cond b x (cond c y (course_there z w)) ≡ course_there (cond b x' (cond c y' z)) w
  calling_by true c x y x' y' z h g = h
  calling_by false true x y x' y' z h g = g
  calling_by false false x y x' y' z h g = refl

  calling_there : (count : ℕ) (target : Option (List ℕ)) (m : State) → calling count target (there m w) ≡ course_there (calling count target m) w
  calling_there count None m = refl
  calling_there count (Some name) m =
      calling_by (bytes_eq name putchar_name) (bytes_eq name getchar_name) _ _ _ _ (ends (Calls name count m []))
      (ap course_of (putchar_there m count) ∙ course_by (putchar m count))
      (ap course_of (getchar_there m count) ∙ course_by (getchar m count))

  alone_there : (a : Action) (x : Arguments) (target : Option (List ℕ)) (m : State) → alone a x target (there m w) ≡ course_there (alone a x target m) w
  alone_there (Compute f) x target m = finished_there m x.destination (applied f x.first x.second)
  alone_there (Branch relation) x target m = branching_there (holds relation x.first x.second) target m
  alone_there Jump x target m = branching_there true target m
  alone_there Push x target m = left_there (pushed (there m w) x.first) (pushed m x.first) (pushed_there m x.first)
  alone_there Enter x target m =
      left_there (sp_set (there m w) (sub32 m.sp (mul32 4 x.first))) (sp_set m (sub32 m.sp (mul32 4 x.first))) (set_there m (sub32 m.sp (mul32 4 x.first)))
  alone_there Call x target m = calling_there x.first target m
  alone_there Return x target m = refl

  then_by : (i : Instr32) (m : State) (t : Result Arguments Stop32) → evaluated_then i (there m w) t ≡ course_there (evaluated_then i m t) w
  then_by i m (Ok x) = alone_there (action_of i.op) x i.target m
  then_by i m (Err (stops.Ended v)) = refl
  then_by i m (Err stops.Trapped) = refl
  then_by i m (Err (stops.Broken k)) = refl

  pub performed_there : (i : Instr32) (m : State) → performed i (there m w) ≡ course_there (performed i m) w
  unfolding performed
  performed_there i m = ap (evaluated_then i (there m w)) (all_there m (shape i.op).parts i.operands) ∙ then_by i m (all_evaluated m (shape i.op).parts i.operands)

  followed_there : (c : Course Instr32 State) (is : List Instr32) (go : State → Course Instr32 State) → ((n : State) → go (there n w) ≡ course_there (go n) w)
      → followed (course_there c w) is go ≡ course_there (followed c is go) w
  followed_there c is go h = ap (bytes_first c.written) (by c.ending)
    where
      by : (e : Ending Instr32 State) → behind (ending_there e w) is go ≡ course_there (behind e is go) w
      by (Comes n) = h n
      by (Goes label n) = refl
      by (Calls name count n rest) = refl
      by (Returns n) = refl
      by Traps = refl
      by Breaks = refl

  pub run_there : (is : List Instr32) (m : State) → run is (there m w) ≡ course_there (run is m) w
  run_there [] m = refl
  run_there (i ∷ is) m = ap (λ (c : Course Instr32 State). followed c is (run is)) (performed_there i m) ∙ followed_there (performed i m) is (run is) (λ n. run_there is n)
