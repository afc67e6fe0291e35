-- Whatever instructions do, the stack holds bytes.
use Rattle.std.proofs.Common.{ℕ, ◌^◌, Bool, true, false, cond, List, [], ◌∷◌, Option, Some, None, Result, Ok, Err}
use Rattle.std.specs.Prelude.{nat_lt, ◌==◌, ◌&&◌, ◌%◌}
use Rattle.std.specs.Str.{bytes_eq}
use Rattle.gg_base.specs.declared.size.Size.{Size}
use Rattle.gg_base.specs.declared.size.Size.TheVariants.{Long}
use Rattle.gg_base.specs.Arithmetic.{add32, sub32}
use Rattle.gg_base.specs.Sizes.{bytes_of}
use Rattle.vax_states.specs.vax_machine_lists.specs.vax_core.specs.declared.register.Reg.{Reg}
use Rattle.vax_states.specs.vax_machine_lists.specs.vax_core.specs.declared.register.Reg.TheVariants.{R0, Sp}
use Rattle.vax_states.specs.vax_machine_lists.specs.vax_core.specs.declared.operand.Base.{Base}
use Rattle.vax_states.specs.vax_machine_lists.specs.vax_core.specs.declared.operand.Base.TheVariants as bases
use Rattle.vax_states.specs.vax_machine_lists.specs.vax_core.specs.declared.operand.Operand.{Operand}
use Rattle.vax_states.specs.vax_machine_lists.specs.vax_core.specs.declared.op.OperandKind.{OperandKind}
use Rattle.vax_states.specs.vax_machine_lists.specs.vax_core.specs.declared.code.Instr.{Instr}
use Rattle.vax_states.specs.vax_machine_lists.specs.vax_core.specs.Ops.{shape}
use Rattle.vax_states.specs.vax_machine_lists.specs.vax_core.specs.Registers.{reg_number}
use Rattle.vax_states.specs.vax_machine_lists.specs.vax_core.specs.First.{putchar_name}
use Rattle.vax_states.specs.vax_machine.specs.declared.turn.Stop.{Stop}
use Rattle.vax_states.specs.vax_machine.specs.declared.memory.Region.{Region}
use Rattle.vax_states.specs.vax_machine.specs.declared.memory.Region.TheVariants as regions
use Rattle.vax_states.specs.vax_machine.specs.declared.operands.Location.{Location}
use Rattle.vax_states.specs.vax_machine.specs.declared.operands.Location.TheVariants as locations
use Rattle.vax_states.specs.vax_machine.specs.declared.operands.Destination.{Destination}
use Rattle.vax_states.specs.vax_machine.specs.declared.operands.Evaluated.{Evaluated}
use Rattle.vax_states.specs.vax_machine.specs.declared.operands.Arguments.{Arguments}
use Rattle.vax_states.specs.vax_machine.specs.declared.function.Action.{Action}
use Rattle.vax_states.specs.vax_machine.specs.declared.function.Action.TheVariants.{Compute, Push, Branch, Call, Return}
use Rattle.vax_states.specs.vax_machine.specs.declared.function.Computed.{Computed}
use Rattle.vax_states.specs.vax_machine.specs.declared.function.Conditions.{Conditions}
use Rattle.vax_states.specs.vax_machine.specs.State.{State, reg, with_reg, with_conditions, cleared, stack_full, bad_code, ◌>>=◌}
use Rattle.vax_states.specs.vax_machine.specs.Area.{resolved}
use Rattle.vax_states.specs.vax_machine.specs.Memory.{touched, read, written, register_set, with_number_at, merged}
use Rattle.vax_states.specs.vax_machine.specs.Operands.{deferred, located, indexed, taken, evaluated, all_evaluated, in_front, put, stored}
use Rattle.vax_states.specs.vax_machine.specs.Functions.{action_of, applied, passes}
use Rattle.vax_states.specs.vax_machine.specs.Labels.{getchar_name}
use Rattle.vax_states.specs.vax_machine.specs.Calls.{Acts, pushed, putchar, getchar, got}
use Rattle.vax_states.specs.vax_machine.specs.Step.{finished, pushing}
use Rattle.vax_states.specs.vax_machine_lists.specs.Sound.{AllBelow}
use Rattle.vax_states.specs.vax_machine_lists.specs.Instructions.{Ending, Comes, Goes, Calls, Returns, Stops, Course, ends, course_of, behind, branching, calling, alone}
use Rattle.vax_states.specs.vax_machine_lists.specs.Instructions.{evaluated_then, performed, exec}
use Rattle.vax_states.specs.vax_machine_lists.proofs.Longwords.{with_below}

abbrev pub Holds : State → Type 0
Holds m = AllBelow 256 m.stack

abbrev After : Result State Stop → Type 0
After (Ok n) = Holds n
After (Err e) = Unit {0}

abbrev Behind : {X : Type 0} → Result (X × State) Stop → Type 0
Behind (Ok x) = Holds x.1
Behind (Err e) = Unit {0}

-- ---- one part

set_by : (m : State) (b : Bool) (q : Reg) (v : ℕ) → Holds m → After (cond b (Err stack_full) (Ok (with_reg m q v)))
set_by m true q v h = tt
set_by m false q v h = h

set_holds : (m : State) (q : Reg) (v : ℕ) → Holds m → After (register_set m q v)
unfolding register_set
set_holds m q v h = set_by m (reg_number q == 14 && nat_lt v 2139095040) q v h

written_by : (m : State) (s : Size) (v : ℕ) (t : Result Region Stop) → Holds m → After (t >>= λ (x : Region). Ok (with_number_at m s v x))
written_by m s v (Ok (regions.Area at)) h = h
written_by m s v (Ok (regions.Stack at)) h = with_below s m.stack at v h
written_by m s v (Err e) h = tt

written_holds : (m : State) (a : ℕ) (s : Size) (v : ℕ) → Holds m → After (written m a s v)
unfolding written
written_holds m a s v h = written_by m s v (touched m a s) h

then_written : (t : Result State Stop) (a v : ℕ) → After t → After (t >>= λ (n : State). written n a Long v)
then_written (Ok n) a v h = written_holds n a Long v h
then_written (Err e) a v h = tt

behind_set : (s : Result State Stop) (l : Location) → After s → Behind (s >>= λ (n : State). Ok (l, n))
behind_set (Ok n) l h = h
behind_set (Err e) l h = tt

deferred_by : (n : State) (t : Result ℕ Stop) → Holds n → Behind (t >>= λ (a : ℕ). Ok (locations.Memory a, n))
deferred_by n (Ok a) h = h
deferred_by n (Err e) h = tt

deferred_set : (s : Result State Stop) (a : ℕ) → After s → Behind (s >>= λ (n : State). deferred n a)
deferred_set (Ok n) a h = deferred_by n (read n a Long) h
deferred_set (Err e) a h = tt

located_holds : (m : State) (b : Base) (size : Size) → Holds m → Behind (located m b size)
unfolding located
located_holds m (bases.Imm a) size h = h
located_holds m (bases.Reg q) size h = h
located_holds m (bases.Def q) size h = h
located_holds m (bases.Inc q) size h = behind_set (register_set m q (add32 (reg m q) (bytes_of size))) (locations.Memory (reg m q)) (set_holds m q (add32 (reg m q) (bytes_of size)) h)
located_holds m (bases.IncDef q) size h = deferred_set (register_set m q (add32 (reg m q) 4)) (reg m q) (set_holds m q (add32 (reg m q) 4) h)
located_holds m (bases.Dec q) size h =
    behind_set (register_set m q (sub32 (reg m q) (bytes_of size))) (locations.Memory (sub32 (reg m q) (bytes_of size))) (set_holds m q (sub32 (reg m q) (bytes_of size)) h)
located_holds m (bases.Disp d q) size h = h
located_holds m (bases.DispDef d q) size h = deferred_by m (read m (add32 (resolved m.layout d) (reg m q)) Long) h
located_holds m (bases.Abs n) size h = h
located_holds m (bases.Rel a) size h = h
located_holds m (bases.RelDef a) size h = deferred_by m (read m (resolved m.layout a) Long) h

-- ---- operands

taken_by : (n : State) (t : Result Evaluated Stop) → Holds n → Behind (t >>= λ (e : Evaluated). Ok (e, n))
taken_by n (Ok e) h = h
taken_by n (Err x) h = tt

evaluated_by : (k : OperandKind) (o : Operand) (t : Result (Location × State) Stop) → Behind t
    → Behind (t >>= λ (x : Location × State). taken x.1 k.access (indexed x.1 x.0 o.index k.size) k.size >>= λ (e : Evaluated). Ok (e, x.1))
evaluated_by k o (Ok x) h = taken_by x.1 (taken x.1 k.access (indexed x.1 x.0 o.index k.size) k.size) h
evaluated_by k o (Err e) h = tt

evaluated_holds : (m : State) (k : OperandKind) (o : Operand) → Holds m → Behind (evaluated m k o)
unfolding evaluated
evaluated_holds m k o h = evaluated_by k o (located m o.base k.size) (located_holds m o.base k.size h)

front_by : (e : Evaluated) (t : Result (Arguments × State) Stop) → Behind t → Behind (t >>= λ (y : Arguments × State). Ok (in_front e y.0, y.1))
front_by e (Ok y) h = h
front_by e (Err x) h = tt

all_by : (f : State → Result (Arguments × State) Stop) → ((n : State) → Holds n → Behind (f n)) → (t : Result (Evaluated × State) Stop) → Behind t
    → Behind (t >>= λ (x : Evaluated × State). f x.1 >>= λ (y : Arguments × State). Ok (in_front x.0 y.0, y.1))
all_by f rest (Ok x) h = front_by x.0 (f x.1) (rest x.1 h)
all_by f rest (Err e) h = tt

all_hold : (ks : List OperandKind) (os : List Operand) (m : State) → Holds m → Behind (all_evaluated ks os m)
all_hold [] os m h = h
all_hold (k ∷ ks) [] m h = tt
all_hold (k ∷ ks) (o ∷ os) m h = all_by (all_evaluated ks os) (λ n g. all_hold ks os n g) (evaluated m k o) (evaluated_holds m k o h)

-- ---- what is done with them

abbrev pub HoldsAt : Ending → Type 0
HoldsAt (Comes n) = Holds n
HoldsAt (Goes label n) = Holds n
HoldsAt (Calls name count n rest) = Holds n
HoldsAt (Returns n) = Holds n
HoldsAt (Stops e) = Unit {0}

course_holds : (a : Acts) → Behind a → HoldsAt (course_of a).ending
course_holds (Ok x) h = h
course_holds (Err e) h = tt

with_codes : (c : Conditions) (t : Result State Stop) → After t → Behind {X = Option ℕ} (t >>= λ (n : State). Ok (None, with_conditions n c))
with_codes c (Ok n) h = h
with_codes c (Err e) h = tt

put_holds : (m : State) (l : Location) (s : Size) (v : ℕ) → Holds m → After (put m l s v)
put_holds m (locations.Number n) s v h = tt
put_holds m (locations.Register q) s v h = set_holds m q (merged s (reg m q) v) h
put_holds m (locations.Memory a) s v h = written_holds m a s v h

stored_holds : (m : State) (d : Option Destination) (v : ℕ) → Holds m → After (stored m d v)
unfolding stored
stored_holds m None v h = h
stored_holds m (Some d) v h = put_holds m d.location d.size v h

finished_holds : (m : State) (d : Option Destination) (c : Option Computed) → Holds m → Behind (finished m d c)
finished_holds m d None h = tt
finished_holds m d (Some c) h = with_codes c.conditions (stored m d c.value) (stored_holds m d c.value h)

pushing_holds : (m : State) (v : ℕ) → Holds m → Behind (pushing m v)
unfolding pushed
pushing_holds m v h = with_codes _ (pushed m v) (then_written (register_set m Sp (sub32 (reg m Sp) 4)) (sub32 (reg m Sp) 4) v (set_holds m Sp (sub32 (reg m Sp) 4) h))

wrote_by : (v : ℕ) (t : Result State Stop) → After t → Behind (t >>= λ (n : State). Ok (Some (v % 2 ^ 8), with_conditions (with_reg n R0 (v % 2 ^ 8)) cleared))
wrote_by v (Ok n) h = h
wrote_by v (Err e) h = tt

read_then : (m : State) (t : Result ℕ Stop) → Holds m
    → Behind (t >>= λ (v : ℕ). register_set m Sp (add32 (reg m Sp) 4) >>= λ (n : State). Ok (Some (v % 2 ^ 8), with_conditions (with_reg n R0 (v % 2 ^ 8)) cleared))
read_then m (Ok v) h = wrote_by v (register_set m Sp (add32 (reg m Sp) 4)) (set_holds m Sp (add32 (reg m Sp) 4) h)
read_then m (Err e) h = tt

service_by : (b : Bool) (a : Acts) → Behind a → Behind (cond b a (Err bad_code))
service_by true a h = h
service_by false a h = tt

putchar_holds : (m : State) (count : ℕ) → Holds m → Behind (putchar m count)
unfolding putchar
putchar_holds m count h = service_by (count == 1) _ (read_then m (read m (reg m Sp) Long) h)

got_holds : (m : State) (input : List ℕ) → Holds m → Holds (got m input)
got_holds m [] h = h
got_holds m (b ∷ rest) h = h

getchar_holds : (m : State) (count : ℕ) → Holds m → Behind (getchar m count)
unfolding getchar
getchar_holds m count h = service_by (count == 0) _ (got_holds m m.input h)

branching_holds : (b : Bool) (target : Option (List ℕ)) (m : State) → Holds m → HoldsAt (branching b target m).ending
branching_holds true None m h = tt
branching_holds false None m h = tt
branching_holds true (Some label) m h = h
branching_holds false (Some label) m h = h

calling_by : (b c : Bool) (m : State) (x y : Course) (name : List ℕ) (count : ℕ) → Holds m → HoldsAt x.ending → HoldsAt y.ending
    → HoldsAt (cond b x (cond c y (ends (Calls name count m [])))).ending
calling_by true c m x y name count h f g = f
calling_by false true m x y name count h f g = g
calling_by false false m x y name count h f g = h

calling_holds : (count : ℕ) (target : Option (List ℕ)) (m : State) → Holds m → HoldsAt (calling count target m).ending
calling_holds count None m h = tt
calling_holds count (Some name) m h =
    calling_by (bytes_eq name putchar_name) (bytes_eq name getchar_name) m (course_of (putchar m count)) (course_of (getchar m count)) name count h
    (course_holds (putchar m count) (putchar_holds m count h)) (course_holds (getchar m count) (getchar_holds m count h))

alone_holds : (a : Action) (x : Arguments) (target : Option (List ℕ)) (m : State) → Holds m → HoldsAt (alone a x target m).ending
alone_holds (Compute f) x target m h =
    course_holds (finished m x.destination (applied f x.first x.second m.conditions.carry)) (finished_holds m x.destination (applied f x.first x.second m.conditions.carry) h)
alone_holds Push x target m h = course_holds (pushing m x.first) (pushing_holds m x.first h)
alone_holds (Branch t) x target m h = branching_holds (passes t m.conditions) target m h
alone_holds Call x target m h = calling_holds x.first target m h
alone_holds Return x target m h = h

then_holds : (i : Instr) (t : Result (Arguments × State) Stop) → Behind t → HoldsAt (evaluated_then i t).ending
then_holds i (Ok x) h = alone_holds (action_of i.op) x.0 i.target x.1 h
then_holds i (Err e) h = tt

performed_holds : (i : Instr) (m : State) → Holds m → HoldsAt (performed i m).ending
unfolding performed
performed_holds i m h = then_holds i (all_evaluated (shape i.op).operands i.operands m) (all_hold (shape i.op).operands i.operands m h)

-- ---- instructions, one after another

behind_holds : (e : Ending) (is : List Instr) → HoldsAt e → ((n : State) → Holds n → HoldsAt (exec is n).ending) → HoldsAt (behind e is (exec is)).ending
behind_holds (Comes n) is h rest = rest n h
behind_holds (Goes label n) is h rest = h
behind_holds (Calls name count n more) is h rest = h
behind_holds (Returns n) is h rest = h
behind_holds (Stops e) is h rest = tt

pub exec_holds : (is : List Instr) (m : State) → Holds m → HoldsAt (exec is m).ending
exec_holds [] m h = h
exec_holds (i ∷ is) m h = behind_holds (performed i m).ending is (performed_holds i m h) (λ n g. exec_holds is n g)
