-- What an instruction does by itself doesn't depend on where the machine stands, nor on the code.
use Rattle.std.proofs.Common.{◌≡◌, ℕ, Bool, true, false, cond, List, [], ◌∷◌, Option, Some, None, Result, Ok, Err, refl, ap, ◌∙◌}
use Rattle.std.specs.Prelude.{nat_lt, ◌==◌, ◌&&◌, ◌%◌, ◌^◌}
use Rattle.std.specs.Str.{bytes_eq}
use Rattle.gg_base.specs.declared.size.Size.{Size}
use Rattle.gg_base.specs.declared.size.Size.TheVariants.{Long}
use Rattle.gg_base.specs.Arithmetic.{add32, sub32}
use Rattle.gg_base.specs.Sizes.{bytes_of}
use Rattle.vax_core.specs.declared.register.Reg.{Reg}
use Rattle.vax_core.specs.declared.register.Reg.TheVariants.{R0, Sp}
use Rattle.vax_core.specs.declared.operand.Base.{Base}
use Rattle.vax_core.specs.declared.operand.Base.TheVariants as bases
use Rattle.vax_core.specs.declared.operand.Operand.{Operand}
use Rattle.vax_core.specs.declared.op.Access.{Access}
use Rattle.vax_core.specs.declared.op.Access.TheVariants as accesses
use Rattle.vax_core.specs.declared.op.OperandKind.{OperandKind}
use Rattle.vax_core.specs.declared.code.Instr.{Instr}
use Rattle.vax_core.specs.declared.code.CodeItem.{CodeItem}
use Rattle.vax_core.specs.Ops.{shape}
use Rattle.vax_core.specs.Registers.{reg_number}
use Rattle.vax_core.specs.First.{putchar_name}
use Rattle.vax_machine.specs.declared.turn.Stop.{Stop}
use Rattle.vax_machine.specs.declared.memory.Region.{Region}
use Rattle.vax_machine.specs.declared.memory.Region.TheVariants as regions
use Rattle.vax_machine.specs.declared.operands.Location.{Location}
use Rattle.vax_machine.specs.declared.operands.Location.TheVariants as locations
use Rattle.vax_machine.specs.declared.operands.Destination.{Destination}
use Rattle.vax_machine.specs.declared.operands.Evaluated.{Evaluated}
use Rattle.vax_machine.specs.declared.operands.Arguments.{Arguments}
use Rattle.vax_machine.specs.declared.function.Action.{Action}
use Rattle.vax_machine.specs.declared.function.Computed.{Computed}
use Rattle.vax_machine.specs.declared.function.Conditions.{Conditions}
use Rattle.vax_machine.specs.declared.function.Action.TheVariants.{Compute, Push, Branch, Call, Return}
use Rattle.vax_machine.specs.State.{State, reg, with_reg, with_conditions, cleared, stack_full, bad_code, ◌>>=◌}
use Rattle.vax_machine.specs.Area.{resolved}
use Rattle.vax_machine.specs.Memory.{touched, read, written, register_set, number_at, with_number_at, merged}
use Rattle.vax_machine.specs.Operands.{deferred, located, indexed, fetched, taken, evaluated, all_evaluated, in_front, only_number, with_destination, put, stored}
use Rattle.vax_machine.specs.Functions.{action_of, applied, passes, valued}
use Rattle.vax_machine.specs.Labels.{getchar_name}
use Rattle.vax_machine.specs.Calls.{Acts, pushed, putchar, getchar, got}
use Rattle.vax_machine.specs.Step.{finished, pushing}
use Rattle.vax_machine_lists.specs.Instructions.{Ending, Comes, Goes, Calls, Returns, Stops, Course, ends, bytes_first, behind, followed, course_of, branching, calling, alone}
use Rattle.vax_machine_lists.specs.Instructions.{evaluated_then, performed, exec}

-- where a machine stands, in which code, and whether it is over
pub record Where : Type 0 where
  pub place : ℕ
  pub items : List CodeItem
  pub over : Option Stop

abbrev pub there : State → Where → State
there m w = record m { place = w.place; items = w.items; over = w.over }

abbrev pub where_of : State → Where
where_of m = record { place = m.place; items = m.items; over = m.over }

abbrev pub ending_there : Ending → Where → Ending
ending_there (Comes m) w = Comes (there m w)
ending_there (Goes label m) w = Goes label (there m w)
ending_there (Calls name count m rest) w = Calls name count (there m w) rest
ending_there (Returns m) w = Returns (there m w)
ending_there (Stops e) w = Stops e

abbrev pub course_there : Course → Where → Course
course_there c w = record { written = c.written; ending = ending_there c.ending w }

module _ (w : Where) where
  state_there : Result State Stop → Result State Stop
  state_there (Ok n) = Ok (there n w)
  state_there (Err e) = Err e

  pair_there : {X : Type 0} → Result (X × State) Stop → Result (X × State) Stop
  pair_there (Ok x) = Ok (x.0, there x.1 w)
  pair_there (Err e) = Err e

  set_by : (m : State) (b : Bool) (r : Reg) (v : ℕ) → cond b (Err stack_full) (Ok (with_reg (there m w) r v)) ≡ state_there (cond b (Err stack_full) (Ok (with_reg m r v)))
  unfolding state_there
  set_by m true r v = refl
  set_by m false r v = refl

  set_there : (m : State) (r : Reg) (v : ℕ) → register_set (there m w) r v ≡ state_there (register_set m r v)
  unfolding register_set
  set_there m r v = set_by m (reg_number r == 14 && nat_lt v 2139095040) r v

  touch_there : (m : State) (a : ℕ) (s : Size) → touched (there m w) a s ≡ touched m a s
  unfolding touched
  touch_there m a s = refl

  read_by : (m : State) (s : Size) (t : Result Region Stop) → (t >>= λ (r : Region). Ok (number_at (there m w) s r)) ≡ (t >>= λ (r : Region). Ok (number_at m s r))
  read_by m s (Ok (regions.Area at)) = refl
  read_by m s (Ok (regions.Stack at)) = refl
  read_by m s (Err e) = refl

  read_there : (m : State) (a : ℕ) (s : Size) → read (there m w) a s ≡ read m a s
  unfolding read
  read_there m a s = ap (λ (t : Result Region Stop). t >>= λ (r : Region). Ok (number_at (there m w) s r)) (touch_there m a s) ∙ read_by m s (touched m a s)

  written_by : (m : State) (s : Size) (v : ℕ) (t : Result Region Stop) → (t >>= λ (r : Region). Ok (with_number_at (there m w) s v r)) ≡ state_there (t >>= λ (r : Region). Ok (with_number_at m s v r))
  unfolding state_there
  written_by m s v (Ok (regions.Area at)) = refl
  written_by m s v (Ok (regions.Stack at)) = refl
  written_by m s v (Err e) = refl

  written_there : (m : State) (a : ℕ) (s : Size) (v : ℕ) → written (there m w) a s v ≡ state_there (written m a s v)
  unfolding written
  written_there m a s v = ap (λ (t : Result Region Stop). t >>= λ (r : Region). Ok (with_number_at (there m w) s v r)) (touch_there m a s) ∙ written_by m s v (touched m a s)

  -- ---- operands

  located_set : (l : Location) (t : Result State Stop) → (state_there t >>= λ (n : State). Ok (l, n)) ≡ pair_there (t >>= λ (n : State). Ok (l, n))
  unfolding state_there pair_there
  located_set l (Ok n) = refl
  located_set l (Err e) = refl

  deferred_by : (m : State) (t : Result ℕ Stop) → (t >>= λ (a : ℕ). Ok (locations.Memory a, there m w)) ≡ pair_there (t >>= λ (a : ℕ). Ok (locations.Memory a, m))
  unfolding pair_there
  deferred_by m (Ok a) = refl
  deferred_by m (Err e) = refl

  deferred_there : (m : State) (a : ℕ) → deferred (there m w) a ≡ pair_there (deferred m a)
  deferred_there m a = ap (λ (t : Result ℕ Stop). t >>= λ (a : ℕ). Ok (locations.Memory a, there m w)) (read_there m a Long) ∙ deferred_by m (read m a Long)

  deferred_set : (a : ℕ) (t : Result State Stop) → (state_there t >>= λ (n : State). deferred n a) ≡ pair_there (t >>= λ (n : State). deferred n a)
  unfolding state_there pair_there
  deferred_set a (Ok n) = deferred_there n a
  deferred_set a (Err e) = refl

  located_there : (m : State) (b : Base) (s : Size) → located (there m w) b s ≡ pair_there (located m b s)
  unfolding located pair_there
  located_there m (bases.Imm a) s = refl
  located_there m (bases.Reg r) s = refl
  located_there m (bases.Def r) s = refl
  located_there m (bases.Inc r) s =
      ap (λ (t : Result State Stop). t >>= λ (n : State). Ok (locations.Memory (reg m r), n)) (set_there m r (add32 (reg m r) (bytes_of s)))
      ∙ located_set (locations.Memory (reg m r)) (register_set m r (add32 (reg m r) (bytes_of s)))
  located_there m (bases.IncDef r) s =
      ap (λ (t : Result State Stop). t >>= λ (n : State). deferred n (reg m r)) (set_there m r (add32 (reg m r) 4))
      ∙ deferred_set (reg m r) (register_set m r (add32 (reg m r) 4))
  located_there m (bases.Dec r) s =
      ap (λ (t : Result State Stop). t >>= λ (n : State). Ok (locations.Memory (sub32 (reg m r) (bytes_of s)), n)) (set_there m r (sub32 (reg m r) (bytes_of s)))
      ∙ located_set (locations.Memory (sub32 (reg m r) (bytes_of s))) (register_set m r (sub32 (reg m r) (bytes_of s)))
  located_there m (bases.Disp d r) s = refl
  located_there m (bases.DispDef d r) s = deferred_there m (add32 (resolved m.layout d) (reg m r))
  located_there m (bases.Abs n) s = refl
  located_there m (bases.Rel a) s = refl
  located_there m (bases.RelDef a) s = deferred_there m (resolved m.layout a)

  indexed_there : (m : State) (l : Location) (x : Option Reg) (s : Size) → indexed (there m w) l x s ≡ indexed m l x s
  indexed_there m l None s = refl
  indexed_there m l (Some x) s = refl

  fetched_there : (m : State) (l : Location) (s : Size) → fetched (there m w) l s ≡ fetched m l s
  fetched_there m (locations.Number n) s = refl
  fetched_there m (locations.Register r) s = refl
  fetched_there m (locations.Memory a) s = read_there m a s

  taken_there : (m : State) (a : Access) (l : Location) (s : Size) → taken (there m w) a l s ≡ taken m a l s
  unfolding taken
  taken_there m accesses.Read l s = ap (λ (t : Result ℕ Stop). t >>= λ (v : ℕ). Ok (only_number v)) (fetched_there m l s)
  taken_there m accesses.Modify l s = ap (λ (t : Result ℕ Stop). t >>= λ (v : ℕ). Ok (with_destination v l s)) (fetched_there m l s)
  taken_there m accesses.Write l s = refl
  taken_there m accesses.Address l s = refl
  taken_there m accesses.Count l s = ap (λ (t : Result ℕ Stop). t >>= λ (v : ℕ). Ok (only_number v)) (fetched_there m l s)

  taken_by : (m : State) (t : Result Evaluated Stop) → (t >>= λ (e : Evaluated). Ok (e, there m w)) ≡ pair_there (t >>= λ (e : Evaluated). Ok (e, m))
  unfolding pair_there
  taken_by m (Ok e) = refl
  taken_by m (Err e) = refl

  module _ (k : OperandKind) (o : Operand) where
    took : Location × State → Result (Evaluated × State) Stop
    took x = taken x.1 k.access (indexed x.1 x.0 o.index k.size) k.size >>= λ (e : Evaluated). Ok (e, x.1)

    took_there : (l : Location) (m : State) → took (l, there m w) ≡ pair_there (took (l, m))
    unfolding took
    took_there l m =
        ap (λ (j : Location). taken (there m w) k.access j k.size >>= λ (e : Evaluated). Ok (e, there m w)) (indexed_there m l o.index k.size)
        ∙ ap (λ (t : Result Evaluated Stop). t >>= λ (e : Evaluated). Ok (e, there m w)) (taken_there m k.access (indexed m l o.index k.size) k.size)
        ∙ taken_by m (taken m k.access (indexed m l o.index k.size) k.size)

    took_by : (t : Result (Location × State) Stop) → (pair_there t >>= took) ≡ pair_there (t >>= took)
    unfolding pair_there
    took_by (Ok x) = took_there x.0 x.1
    took_by (Err e) = refl

    evaluated_there : (m : State) → evaluated (there m w) k o ≡ pair_there (evaluated m k o)
    unfolding evaluated took
    evaluated_there m = ap (λ (t : Result (Location × State) Stop). t >>= took) (located_there m o.base k.size) ∙ took_by (located m o.base k.size)

  front_by : (e : Evaluated) (t : Result (Arguments × State) Stop)
      → (pair_there t >>= λ (y : Arguments × State). Ok (in_front e y.0, y.1)) ≡ pair_there (t >>= λ (y : Arguments × State). Ok (in_front e y.0, y.1))
  unfolding pair_there
  front_by e (Ok y) = refl
  front_by e (Err x) = refl

  others : (State → Result (Arguments × State) Stop) → Evaluated × State → Result (Arguments × State) Stop
  others f x = f x.1 >>= λ (y : Arguments × State). Ok (in_front x.0 y.0, y.1)

  others_by : (f : State → Result (Arguments × State) Stop) → ((n : State) → f (there n w) ≡ pair_there (f n)) → (t : Result (Evaluated × State) Stop)
      → (pair_there t >>= others f) ≡ pair_there (t >>= others f)
  unfolding pair_there others
  others_by f h (Ok x) = ap (λ (t : Result (Arguments × State) Stop). t >>= λ (y : Arguments × State). Ok (in_front x.0 y.0, y.1)) (h x.1) ∙ front_by x.0 (f x.1)
  others_by f h (Err e) = refl

  all_there : (ks : List OperandKind) (os : List Operand) (m : State) → all_evaluated ks os (there m w) ≡ pair_there (all_evaluated ks os m)
  unfolding others pair_there
  all_there [] os m = refl
  all_there (k ∷ ks) [] m = refl
  all_there (k ∷ ks) (o ∷ os) m =
      ap (λ (t : Result (Evaluated × State) Stop). t >>= others (all_evaluated ks os)) (evaluated_there k o m)
      ∙ others_by (all_evaluated ks os) (λ n. all_there ks os n) (evaluated m k o)

  -- ---- what is done with them

  course_by : (r : Acts) → course_of (pair_there r) ≡ course_there (course_of r) w
  unfolding pair_there
  course_by (Ok x) = refl
  course_by (Err e) = refl

  with_codes : (c : Conditions) (t : Result State Stop)
      → (state_there t >>= λ (n : State). Ok (None, with_conditions n c)) ≡ pair_there {X = Option ℕ} (t >>= λ (n : State). Ok (None, with_conditions n c))
  unfolding state_there pair_there
  with_codes c (Ok n) = refl
  with_codes c (Err e) = refl

  put_there : (m : State) (l : Location) (s : Size) (v : ℕ) → put (there m w) l s v ≡ state_there (put m l s v)
  unfolding state_there
  put_there m (locations.Number n) s v = refl
  put_there m (locations.Register r) s v = set_there m r (merged s (reg m r) v)
  put_there m (locations.Memory a) s v = written_there m a s v

  stored_there : (m : State) (d : Option Destination) (v : ℕ) → stored (there m w) d v ≡ state_there (stored m d v)
  unfolding stored state_there
  stored_there m None v = refl
  stored_there m (Some d) v = put_there m d.location d.size v

  finished_there : (m : State) (d : Option Destination) (c : Option Computed) → finished (there m w) d c ≡ pair_there (finished m d c)
  unfolding pair_there
  finished_there m d None = refl
  finished_there m d (Some c) = ap (λ (t : Result State Stop). t >>= λ (n : State). Ok (None, with_conditions n c.conditions)) (stored_there m d c.value) ∙ with_codes c.conditions (stored m d c.value)

  pushed_by : (sp v : ℕ) (t : Result State Stop) → (state_there t >>= λ (n : State). written n sp Long v) ≡ state_there (t >>= λ (n : State). written n sp Long v)
  unfolding state_there
  pushed_by sp v (Ok n) = written_there n sp Long v
  pushed_by sp v (Err e) = refl

  pushed_there : (m : State) (v : ℕ) → pushed (there m w) v ≡ state_there (pushed m v)
  unfolding pushed
  pushed_there m v =
      ap (λ (t : Result State Stop). t >>= λ (n : State). written n (sub32 (reg m Sp) 4) Long v) (set_there m Sp (sub32 (reg m Sp) 4))
      ∙ pushed_by (sub32 (reg m Sp) 4) v (register_set m Sp (sub32 (reg m Sp) 4))

  pushing_there : (m : State) (v : ℕ) → pushing (there m w) v ≡ pair_there (pushing m v)
  pushing_there m v =
      let c = (valued Long v m.conditions.carry).conditions in
      ap (λ (t : Result State Stop). t >>= λ (n : State). Ok (None, with_conditions n c)) (pushed_there m v) ∙ with_codes c (pushed m v)

  put_service : ℕ → State → Acts
  put_service v n = Ok (Some (v % 2 ^ 8), with_conditions (with_reg n R0 (v % 2 ^ 8)) cleared)

  put_service_by : (v : ℕ) (t : Result State Stop) → (state_there t >>= put_service v) ≡ pair_there (t >>= put_service v)
  unfolding state_there pair_there put_service
  put_service_by v (Ok n) = refl
  put_service_by v (Err e) = refl

  putchar_by : (m : State) (t : Result ℕ Stop)
      → (t >>= λ (v : ℕ). register_set (there m w) Sp (add32 (reg m Sp) 4) >>= put_service v) ≡ pair_there (t >>= λ (v : ℕ). register_set m Sp (add32 (reg m Sp) 4) >>= put_service v)
  unfolding pair_there
  putchar_by m (Ok v) = ap (λ (t : Result State Stop). t >>= put_service v) (set_there m Sp (add32 (reg m Sp) 4)) ∙ put_service_by v (register_set m Sp (add32 (reg m Sp) 4))
  putchar_by m (Err e) = refl

  service_by : (b : Bool) (x y : Acts) → x ≡ pair_there y → cond b x (Err bad_code) ≡ pair_there (cond b y (Err bad_code))
  unfolding pair_there
  service_by true x y h = h
  service_by false x y h = refl

  putchar_there : (m : State) (count : ℕ) → putchar (there m w) count ≡ pair_there (putchar m count)
  unfolding putchar put_service
  putchar_there m count =
      service_by (count == 1) _ _
      (ap (λ (t : Result ℕ Stop). t >>= λ (v : ℕ). register_set (there m w) Sp (add32 (reg m Sp) 4) >>= put_service v) (read_there m (reg m Sp) Long)
      ∙ putchar_by m (read m (reg m Sp) Long))

  got_there : (m : State) (input : List ℕ) → got (there m w) input ≡ there (got m input) w
  got_there m [] = refl
  got_there m (b ∷ rest) = refl

  getchar_there : (m : State) (count : ℕ) → getchar (there m w) count ≡ pair_there (getchar m count)
  unfolding getchar pair_there
  getchar_there m count = service_by (count == 0) _ _ (ap (λ (n : State). Ok (None, n)) (got_there m m.input))

  branching_there : (taken : Bool) (target : Option (List ℕ)) (m : State) → branching taken target (there m w) ≡ course_there (branching taken target m) w
  branching_there true None m = refl
  branching_there false None m = refl
  branching_there true (Some label) m = refl
  branching_there false (Some label) m = refl

  calling_by : (b c : Bool) (x y x' y' z : Course) → x ≡ course_there x' w → y ≡ course_there y' w → cond b x (cond c y (course_there z w)) ≡ course_there (cond b x' (cond c y' z)) w
  calling_by true c x y x' y' z h g = h
  calling_by false true x y x' y' z h g = g
  calling_by false false x y x' y' z h g = refl

  calling_there : (count : ℕ) (target : Option (List ℕ)) (m : State) → calling count target (there m w) ≡ course_there (calling count target m) w
  calling_there count None m = refl
  calling_there count (Some name) m =
      calling_by (bytes_eq name putchar_name) (bytes_eq name getchar_name) _ _ _ _ (ends (Calls name count m []))
      (ap course_of (putchar_there m count) ∙ course_by (putchar m count))
      (ap course_of (getchar_there m count) ∙ course_by (getchar m count))

  alone_there : (a : Action) (x : Arguments) (target : Option (List ℕ)) (m : State) → alone a x target (there m w) ≡ course_there (alone a x target m) w
  alone_there (Compute f) x target m =
      ap course_of (finished_there m x.destination (applied f x.first x.second m.conditions.carry)) ∙ course_by (finished m x.destination (applied f x.first x.second m.conditions.carry))
  alone_there Push x target m = ap course_of (pushing_there m x.first) ∙ course_by (pushing m x.first)
  alone_there (Branch t) x target m = branching_there (passes t m.conditions) target m
  alone_there Call x target m = calling_there x.first target m
  alone_there Return x target m = refl

  then_by : (i : Instr) (t : Result (Arguments × State) Stop) → evaluated_then i (pair_there t) ≡ course_there (evaluated_then i t) w
  unfolding pair_there
  then_by i (Ok x) = alone_there (action_of i.op) x.0 i.target x.1
  then_by i (Err e) = refl

  pub performed_there : (i : Instr) (m : State) → performed i (there m w) ≡ course_there (performed i m) w
  unfolding performed
  performed_there i m = ap (evaluated_then i) (all_there (shape i.op).operands i.operands m) ∙ then_by i (all_evaluated (shape i.op).operands i.operands m)

  followed_there : (c : Course) (is : List Instr) (go : State → Course) → ((n : State) → go (there n w) ≡ course_there (go n) w) → followed (course_there c w) is go ≡ course_there (followed c is go) w
  followed_there c is go h = ap (bytes_first c.written) (by c.ending)
    where
      by : (e : Ending) → behind (ending_there e w) is go ≡ course_there (behind e is go) w
      by (Comes n) = h n
      by (Goes label n) = refl
      by (Calls name count n rest) = refl
      by (Returns n) = refl
      by (Stops e) = refl

  pub exec_there : (is : List Instr) (m : State) → exec is (there m w) ≡ course_there (exec is m) w
  exec_there [] m = refl
  exec_there (i ∷ is) m = ap (λ (c : Course). followed c is (exec is)) (performed_there i m) ∙ followed_there (performed i m) is (exec is) (λ n. exec_there is n)
