-- An instruction that is no call and no return changes no register but those that its operands name, r0 and sp.
use Rattle.std.proofs.Common.{◌≡◌, ℕ, ◌^◌, ◌<◌, ◌≤◌, Bool, true, false, cond, List, [], ◌∷◌, Option, Some, None, Result, Ok, Err, refl, sym, ap, ◌∙◌, arith, get_or-set_other}
use Rattle.std.specs.Prelude.{◌-◌, nat_lt, ◌==◌, ◌&&◌, ◌%◌}
use Rattle.std.specs.Str.{bytes_eq}
use Rattle.std.proofs.lemmas.Bool.{or_parts, or_from, and_right, eq-eqb, lt-ltb, true≢false}
use Rattle.gg_base.specs.declared.size.Size.{Size}
use Rattle.gg_base.specs.declared.size.Size.TheVariants.{Long}
use Rattle.gg_base.specs.Arithmetic.{add32, sub32}
use Rattle.gg_base.specs.Sizes.{bytes_of}
use Rattle.vax_core.specs.declared.register.Reg.{Reg}
use Rattle.vax_core.specs.declared.register.Reg.TheVariants.{R0, Sp}
use Rattle.vax_core.specs.declared.operand.Base.{Base}
use Rattle.vax_core.specs.declared.operand.Base.TheVariants as bases
use Rattle.vax_core.specs.declared.operand.Operand.{Operand}
use Rattle.vax_core.specs.declared.op.Access.{Access}
use Rattle.vax_core.specs.declared.op.Access.TheVariants as accesses
use Rattle.vax_core.specs.declared.op.OperandKind.{OperandKind}
use Rattle.vax_core.specs.declared.code.Instr.{Instr}
use Rattle.vax_core.specs.Ops.{shape}
use Rattle.vax_core.specs.Registers.{reg_number, base_register, is_named, operand_names, operands_name}
use Rattle.vax_core.specs.First.{putchar_name}
use Rattle.vax_machine.specs.declared.turn.Stop.{Stop}
use Rattle.vax_machine.specs.declared.memory.Region.{Region}
use Rattle.vax_machine.specs.declared.memory.Region.TheVariants as regions
use Rattle.vax_machine.specs.declared.operands.Location.{Location}
use Rattle.vax_machine.specs.declared.operands.Location.TheVariants as locations
use Rattle.vax_machine.specs.declared.operands.Destination.{Destination}
use Rattle.vax_machine.specs.declared.operands.Evaluated.{Evaluated}
use Rattle.vax_machine.specs.declared.operands.Arguments.{Arguments}
use Rattle.vax_machine.specs.declared.function.Action.{Action}
use Rattle.vax_machine.specs.declared.function.Computed.{Computed}
use Rattle.vax_machine.specs.declared.function.Conditions.{Conditions}
use Rattle.vax_machine.specs.declared.function.Action.TheVariants.{Compute, Push, Branch, Call, Return}
use Rattle.vax_machine.proofs.Registers.{reg_below}
use Rattle.vax_machine.specs.State.{State, reg, with_reg, with_conditions, cleared, stack_full, bad_code, ◌>>=◌}
use Rattle.vax_machine.specs.Area.{resolved}
use Rattle.vax_machine.specs.Memory.{touched, read, written, register_set, with_number_at, merged}
use Rattle.vax_machine.specs.Operands.{deferred, located, indexed, fetched, taken, address_of, evaluated, all_evaluated, last_of, in_front, only_number, with_destination, put, stored}
use Rattle.vax_machine.specs.Functions.{action_of, applied, passes}
use Rattle.vax_machine.specs.Labels.{getchar_name}
use Rattle.vax_machine.specs.Calls.{Acts, pushed, putchar, getchar, got}
use Rattle.vax_machine.specs.Step.{finished, pushing}
use Rattle.vax_machine_lists.specs.Kept.{Same, KeptAt}
use Rattle.vax_machine_lists.specs.Instructions.{Ending, Comes, Goes, Calls, Returns, Stops, Course, ends, course_of, branching, calling, alone, evaluated_then, performed}

pub same : (r : ℕ) (m : State) → Same r m m
same r m = record { register = refl; frames = refl; items = refl }

pub trans : (r : ℕ) (m n k : State) → Same r m n → Same r n k → Same r m k
trans r m n k h g = record { register = g.register ∙ h.register; frames = g.frames ∙ h.frames; items = g.items ∙ h.items }

abbrev SameAfter : ℕ → State → Result State Stop → Type 0
SameAfter r m (Ok n) = Same r m n
SameAfter r m (Err e) = Unit {0}

-- a number of a register, or of none, that is neither r0's nor sp's; a register that isn't named is another one
module _ (r : ℕ) (low : 1 ≤ r) (is_not_sp : reg_number Sp ≡ r → ⊥) (other : (q : Reg) → is_named (Some q) r ≡ false → reg_number q ≡ r → ⊥) where
  SameBehind : {X : Type 0} → State → Result (X × State) Stop → Type 0
  SameBehind m (Ok x) = Same r m x.1
  SameBehind m (Err e) = Unit {0}

  set_by : (m : State) (b : Bool) (q : Reg) (v : ℕ) → (reg_number q ≡ r → ⊥) → SameAfter r m (cond b (Err stack_full) (Ok (with_reg m q v)))
  set_by m true q v ne = tt
  set_by m false q v ne = record { register = get_or-set_other m.registers (reg_number q) r v 0 (λ e. ne (sym e)); frames = refl; items = refl }

  pub set_same : (m : State) (q : Reg) (v : ℕ) → (reg_number q ≡ r → ⊥) → SameAfter r m (register_set m q v)
  unfolding register_set
  set_same m q v ne = set_by m (reg_number q == 14 && nat_lt v 2139095040) q v ne

  written_by : (m : State) (s : Size) (v : ℕ) (t : Result Region Stop) → SameAfter r m (t >>= λ (x : Region). Ok (with_number_at m s v x))
  written_by m s v (Ok (regions.Area at)) = record { register = refl; frames = refl; items = refl }
  written_by m s v (Ok (regions.Stack at)) = record { register = refl; frames = refl; items = refl }
  written_by m s v (Err e) = tt

  pub written_same : (m : State) (a : ℕ) (s : Size) (v : ℕ) → SameAfter r m (written m a s v)
  unfolding written
  written_same m a s v = written_by m s v (touched m a s)

  behind_set : (m : State) (s : Result State Stop) (l : Location) → SameAfter r m s → SameBehind m (s >>= λ (n : State). Ok (l, n))
  unfolding SameBehind
  behind_set m (Ok n) l h = h
  behind_set m (Err e) l h = tt

  deferred_by : (m n : State) (t : Result ℕ Stop) → Same r m n → SameBehind m (t >>= λ (a : ℕ). Ok (locations.Memory a, n))
  unfolding SameBehind
  deferred_by m n (Ok a) h = h
  deferred_by m n (Err e) h = tt

  deferred_set : (m : State) (s : Result State Stop) (a : ℕ) → SameAfter r m s → SameBehind m (s >>= λ (n : State). deferred n a)
  unfolding SameBehind
  deferred_set m (Ok n) a h = deferred_by m n (read n a Long) h
  deferred_set m (Err e) a h = tt

  located_same : (m : State) (b : Base) (size : Size) → is_named (base_register b) r ≡ false → SameBehind m (located m b size)
  unfolding located SameBehind
  located_same m (bases.Imm a) size e = same r m
  located_same m (bases.Reg q) size e = same r m
  located_same m (bases.Def q) size e = same r m
  located_same m (bases.Inc q) size e = behind_set m (register_set m q (add32 (reg m q) (bytes_of size))) (locations.Memory (reg m q)) (set_same m q (add32 (reg m q) (bytes_of size)) (other q e))
  located_same m (bases.IncDef q) size e = deferred_set m (register_set m q (add32 (reg m q) 4)) (reg m q) (set_same m q (add32 (reg m q) 4) (other q e))
  located_same m (bases.Dec q) size e =
      behind_set m (register_set m q (sub32 (reg m q) (bytes_of size))) (locations.Memory (sub32 (reg m q) (bytes_of size))) (set_same m q (sub32 (reg m q) (bytes_of size)) (other q e))
  located_same m (bases.Disp d q) size e = same r m
  located_same m (bases.DispDef d q) size e = deferred_by m m (read m (add32 (resolved m.layout d) (reg m q)) Long) (same r m)
  located_same m (bases.Abs n) size e = same r m
  located_same m (bases.Rel a) size e = same r m
  located_same m (bases.RelDef a) size e = deferred_by m m (read m (resolved m.layout a) Long) (same r m)

  -- a place that isn't the register
  abbrev Spares : Location → Type 0
  Spares (locations.Number n) = Unit {0}
  Spares (locations.Register q) = reg_number q ≡ r → ⊥
  Spares (locations.Memory a) = Unit {0}

  SparesAt : Result (Location × State) Stop → Type 0
  SparesAt (Ok x) = Spares x.0
  SparesAt (Err e) = Unit {0}

  memory_spared : (s : Result State Stop) (a : ℕ) → SparesAt (s >>= λ (n : State). Ok (locations.Memory a, n))
  unfolding SparesAt
  memory_spared (Ok n) a = tt
  memory_spared (Err e) a = tt

  read_spared : (n : State) (t : Result ℕ Stop) → SparesAt (t >>= λ (a : ℕ). Ok (locations.Memory a, n))
  unfolding SparesAt
  read_spared n (Ok a) = tt
  read_spared n (Err e) = tt

  deferred_spared : (s : Result State Stop) (a : ℕ) → SparesAt (s >>= λ (n : State). deferred n a)
  unfolding SparesAt
  deferred_spared (Ok n) a = read_spared n (read n a Long)
  deferred_spared (Err e) a = tt

  located_spared : (m : State) (b : Base) (size : Size) → is_named (base_register b) r ≡ false → SparesAt (located m b size)
  unfolding located SparesAt
  located_spared m (bases.Imm a) size e = tt
  located_spared m (bases.Reg q) size e = other q e
  located_spared m (bases.Def q) size e = tt
  located_spared m (bases.Inc q) size e = memory_spared (register_set m q (add32 (reg m q) (bytes_of size))) (reg m q)
  located_spared m (bases.IncDef q) size e = deferred_spared (register_set m q (add32 (reg m q) 4)) (reg m q)
  located_spared m (bases.Dec q) size e = memory_spared (register_set m q (sub32 (reg m q) (bytes_of size))) (sub32 (reg m q) (bytes_of size))
  located_spared m (bases.Disp d q) size e = tt
  located_spared m (bases.DispDef d q) size e = read_spared m (read m (add32 (resolved m.layout d) (reg m q)) Long)
  located_spared m (bases.Abs n) size e = tt
  located_spared m (bases.Rel a) size e = tt
  located_spared m (bases.RelDef a) size e = read_spared m (read m (resolved m.layout a) Long)

  indexed_spared : (m : State) (l : Location) (x : Option Reg) (size : Size) → Spares l → Spares (indexed m l x size)
  indexed_spared m l None size h = h
  indexed_spared m (locations.Number n) (Some x) size h = h
  indexed_spared m (locations.Register q) (Some x) size h = h
  indexed_spared m (locations.Memory a) (Some x) size h = tt

  SparesIn : Option Destination → Type 0
  SparesIn None = Unit {0}
  SparesIn (Some d) = Spares d.location

  -- what an operand's evaluation leaves
  Evaluates : State → Result (Evaluated × State) Stop → Type 0
  Evaluates m (Ok x) = Same r m x.1 × SparesIn x.0.destination
  Evaluates m (Err e) = Unit {0}

  number_taken : (m n : State) (t : Result ℕ Stop) → Same r m n → Evaluates m ((t >>= λ (v : ℕ). Ok (only_number v)) >>= λ (e : Evaluated). Ok (e, n))
  unfolding Evaluates SparesIn
  number_taken m n (Ok v) h = (h, tt)
  number_taken m n (Err e) h = tt

  place_taken : (m n : State) (l : Location) (size : Size) (t : Result ℕ Stop) → Same r m n → Spares l
      → Evaluates m ((t >>= λ (v : ℕ). Ok (with_destination v l size)) >>= λ (e : Evaluated). Ok (e, n))
  unfolding Evaluates SparesIn
  place_taken m n l size (Ok v) h g = (h, g)
  place_taken m n l size (Err e) h g = tt

  taken_same : (m n : State) (a : Access) (l : Location) (size : Size) → Same r m n → Spares l → Evaluates m (taken n a l size >>= λ (e : Evaluated). Ok (e, n))
  unfolding taken Evaluates SparesIn
  taken_same m n accesses.Read l size h g = number_taken m n (fetched n l size) h
  taken_same m n accesses.Modify l size h g = place_taken m n l size (fetched n l size) h g
  taken_same m n accesses.Write l size h g = (h, g)
  taken_same m n accesses.Address l size h g = number_taken m n (address_of l) h
  taken_same m n accesses.Count l size h g = number_taken m n (fetched n l size) h

  evaluated_by : (m : State) (k : OperandKind) (o : Operand) (t : Result (Location × State) Stop) → SameBehind m t → SparesAt t
      → Evaluates m (t >>= λ (x : Location × State). taken x.1 k.access (indexed x.1 x.0 o.index k.size) k.size >>= λ (e : Evaluated). Ok (e, x.1))
  unfolding SameBehind SparesAt Evaluates
  evaluated_by m k o (Ok x) h g = taken_same m x.1 k.access (indexed x.1 x.0 o.index k.size) k.size h (indexed_spared x.1 x.0 o.index k.size g)
  evaluated_by m k o (Err e) h g = tt

  evaluated_same : (m : State) (k : OperandKind) (o : Operand) → operand_names o r ≡ false → Evaluates m (evaluated m k o)
  unfolding evaluated
  evaluated_same m k o e =
      let base = (or_parts (is_named (base_register o.base) r) (is_named o.index r) e).0 in
      evaluated_by m k o (located m o.base k.size) (located_same m o.base k.size base) (located_spared m o.base k.size base)

  EvaluatesAll : State → Result (Arguments × State) Stop → Type 0
  EvaluatesAll m (Ok x) = Same r m x.1 × SparesIn x.0.destination
  EvaluatesAll m (Err e) = Unit {0}

  last_spared : (a b : Option Destination) → SparesIn a → SparesIn b → SparesIn (last_of a b)
  last_spared a (Some d) h g = g
  last_spared a None h g = h

  front_by : (m n : State) (e : Evaluated) (t : Result (Arguments × State) Stop) → Same r m n → SparesIn e.destination → EvaluatesAll n t
      → EvaluatesAll m (t >>= λ (y : Arguments × State). Ok (in_front e y.0, y.1))
  unfolding EvaluatesAll
  front_by m n e (Ok y) h g i = (trans r m n y.1 h i.0, last_spared e.destination y.0.destination g i.1)
  front_by m n e (Err x) h g i = tt

  all_by : (m : State) (f : State → Result (Arguments × State) Stop) → ((n : State) → EvaluatesAll n (f n)) → (t : Result (Evaluated × State) Stop) → Evaluates m t
      → EvaluatesAll m (t >>= λ (x : Evaluated × State). f x.1 >>= λ (y : Arguments × State). Ok (in_front x.0 y.0, y.1))
  unfolding Evaluates EvaluatesAll
  all_by m f rest (Ok x) h = front_by m x.1 x.0 (f x.1) h.0 h.1 (rest x.1)
  all_by m f rest (Err e) h = tt

  all_same : (ks : List OperandKind) (os : List Operand) (m : State) → operands_name os r ≡ false → EvaluatesAll m (all_evaluated ks os m)
  unfolding EvaluatesAll SparesIn
  all_same [] os m e = (same r m, tt)
  all_same (k ∷ ks) [] m e = tt
  all_same (k ∷ ks) (o ∷ os) m e =
      let p = or_parts (operand_names o r) (operands_name os r) e in
      all_by m (all_evaluated ks os) (λ n. all_same ks os n p.1) (evaluated m k o) (evaluated_same m k o p.0)

  -- ---- what is done with them

  ActsKeep : State → Acts → Type 0
  ActsKeep m (Ok x) = Same r m x.1
  ActsKeep m (Err e) = Unit {0}

  course_kept : (m : State) (a : Acts) → ActsKeep m a → KeptAt r m (course_of a).ending
  unfolding ActsKeep
  course_kept m (Ok x) h = h
  course_kept m (Err e) h = tt

  with_codes : (m : State) (c : Conditions) (t : Result State Stop) → SameAfter r m t → ActsKeep m (t >>= λ (n : State). Ok (None, with_conditions n c))
  unfolding ActsKeep
  with_codes m c (Ok n) h = record { register = h.register; frames = h.frames; items = h.items }
  with_codes m c (Err e) h = tt

  put_same : (m : State) (l : Location) (s : Size) (v : ℕ) → Spares l → SameAfter r m (put m l s v)
  put_same m (locations.Number n) s v h = tt
  put_same m (locations.Register q) s v h = set_same m q (merged s (reg m q) v) h
  put_same m (locations.Memory a) s v h = written_same m a s v

  stored_same : (m : State) (d : Option Destination) (v : ℕ) → SparesIn d → SameAfter r m (stored m d v)
  unfolding stored SparesIn
  stored_same m None v h = same r m
  stored_same m (Some d) v h = put_same m d.location d.size v h

  finished_same : (m : State) (d : Option Destination) (c : Option Computed) → SparesIn d → ActsKeep m (finished m d c)
  unfolding ActsKeep
  finished_same m d None h = tt
  finished_same m d (Some c) h = with_codes m c.conditions (stored m d c.value) (stored_same m d c.value h)

  join : (m n : State) (t : Result State Stop) → Same r m n → SameAfter r n t → SameAfter r m t
  join m n (Ok k) h g = trans r m n k h g
  join m n (Err e) h g = tt

  pub then_written : (m : State) (t : Result State Stop) (a v : ℕ) → SameAfter r m t → SameAfter r m (t >>= λ (n : State). written n a Long v)
  then_written m (Ok n) a v h = join m n (written n a Long v) h (written_same n a Long v)
  then_written m (Err e) a v h = tt

  pushing_same : (m : State) (v : ℕ) → ActsKeep m (pushing m v)
  unfolding pushed
  pushing_same m v = with_codes m _ (pushed m v) (then_written m (register_set m Sp (sub32 (reg m Sp) 4)) (sub32 (reg m Sp) 4) v (set_same m Sp (sub32 (reg m Sp) 4) is_not_sp))

  put_by : (m : State) (v : ℕ) (t : Result State Stop) → SameAfter r m t → ActsKeep m (t >>= λ (n : State). Ok (Some (v % 2 ^ 8), with_conditions (with_reg n R0 (v % 2 ^ 8)) cleared))
  unfolding ActsKeep
  put_by m v (Ok n) h = record { register = get_or-set_other n.registers 0 r (v % 2 ^ 8) 0 (λ e. omega (arith, e, low)) ∙ h.register; frames = h.frames; items = h.items }
  put_by m v (Err e) h = tt

  read_then : (m : State) (t : Result ℕ Stop)
      → ActsKeep m (t >>= λ (v : ℕ). register_set m Sp (add32 (reg m Sp) 4) >>= λ (n : State). Ok (Some (v % 2 ^ 8), with_conditions (with_reg n R0 (v % 2 ^ 8)) cleared))
  unfolding ActsKeep
  read_then m (Ok v) = put_by m v (register_set m Sp (add32 (reg m Sp) 4)) (set_same m Sp (add32 (reg m Sp) 4) is_not_sp)
  read_then m (Err e) = tt

  service_by : (m : State) (b : Bool) (a : Acts) → ActsKeep m a → ActsKeep m (cond b a (Err bad_code))
  unfolding ActsKeep
  service_by m true a h = h
  service_by m false a h = tt

  putchar_same : (m : State) (count : ℕ) → ActsKeep m (putchar m count)
  unfolding putchar
  putchar_same m count = service_by m (count == 1) _ (read_then m (read m (reg m Sp) Long))

  got_same : (m : State) (input : List ℕ) → ActsKeep m (Ok (None, got m input))
  unfolding ActsKeep
  got_same m [] = record { register = get_or-set_other m.registers 0 r (2 ^ 32 - 1) 0 (λ e. omega (arith, e, low)); frames = refl; items = refl }
  got_same m (b ∷ rest) = record { register = get_or-set_other m.registers 0 r b 0 (λ e. omega (arith, e, low)); frames = refl; items = refl }

  getchar_same : (m : State) (count : ℕ) → ActsKeep m (getchar m count)
  unfolding getchar
  getchar_same m count = service_by m (count == 0) _ (got_same m m.input)

  branching_kept : (b : Bool) (target : Option (List ℕ)) (m : State) → KeptAt r m (branching b target m).ending
  branching_kept true None m = tt
  branching_kept false None m = tt
  branching_kept true (Some label) m = same r m
  branching_kept false (Some label) m = same r m

  calling_by : (b c : Bool) (m : State) (x y : Course) (name : List ℕ) (count : ℕ) → KeptAt r m x.ending → KeptAt r m y.ending → KeptAt r m (cond b x (cond c y (ends (Calls name count m [])))).ending
  calling_by true c m x y name count h g = h
  calling_by false true m x y name count h g = g
  calling_by false false m x y name count h g = same r m

  calling_kept : (count : ℕ) (target : Option (List ℕ)) (m : State) → KeptAt r m (calling count target m).ending
  calling_kept count None m = tt
  calling_kept count (Some name) m =
      calling_by (bytes_eq name putchar_name) (bytes_eq name getchar_name) m (course_of (putchar m count)) (course_of (getchar m count)) name count
      (course_kept m (putchar m count) (putchar_same m count)) (course_kept m (getchar m count) (getchar_same m count))

  alone_kept : (a : Action) (x : Arguments) (target : Option (List ℕ)) (m : State) → SparesIn x.destination → KeptAt r m (alone a x target m).ending
  alone_kept (Compute f) x target m h =
      course_kept m (finished m x.destination (applied f x.first x.second m.conditions.carry)) (finished_same m x.destination (applied f x.first x.second m.conditions.carry) h)
  alone_kept Push x target m h = course_kept m (pushing m x.first) (pushing_same m x.first)
  alone_kept (Branch t) x target m h = branching_kept (passes t m.conditions) target m
  alone_kept Call x target m h = calling_kept x.first target m
  alone_kept Return x target m h = same r m

  further : (m n : State) (e : Ending) → Same r m n → KeptAt r n e → KeptAt r m e
  further m n (Comes k) h g = trans r m n k h g
  further m n (Goes label k) h g = trans r m n k h g
  further m n (Calls name count k rest) h g = trans r m n k h g
  further m n (Returns k) h g = trans r m n k h g
  further m n (Stops e) h g = tt

  then_kept : (i : Instr) (m : State) (t : Result (Arguments × State) Stop) → EvaluatesAll m t → KeptAt r m (evaluated_then i t).ending
  unfolding EvaluatesAll
  then_kept i m (Ok x) h = further m x.1 (alone (action_of i.op) x.0 i.target x.1).ending h.0 (alone_kept (action_of i.op) x.0 i.target x.1 h.1)
  then_kept i m (Err e) h = tt

  pub performed_keeps : (i : Instr) (m : State) → operands_name i.operands r ≡ false → KeptAt r m (performed i m).ending
  unfolding performed
  performed_keeps i m e = then_kept i m (all_evaluated (shape i.op).operands i.operands m) (all_same (shape i.op).operands i.operands m e)

-- a register of r1 to r11 that the operands don't name
pub register_kept : (r : ℕ) → 1 ≤ r → r < 12 → (i : Instr) (m : State) → operands_name i.operands r ≡ false → KeptAt r m (performed i m).ending
register_kept r low high i m e =
    performed_keeps r low (λ q. omega (arith, q, high))
    (λ q is same. true≢false (sym (ap (λ (b : Bool). b && nat_lt r 12) (eq-eqb (reg_number q) r same) ∙ lt-ltb r 12 high) ∙ is)) i m e

none_named : (os : List Operand) → operands_name os 15 ≡ false
none_named [] = refl
none_named (o ∷ os) =
    or_from (operand_names o 15) (operands_name os 15) (or_from (is_named (base_register o.base) 15) (is_named o.index 15) (not_named (base_register o.base)) (not_named o.index)) (none_named os)
  where
    not_named : (q : Option Reg) → is_named q 15 ≡ false
    not_named None = refl
    not_named (Some q) = and_right (reg_number q == 15) false refl

-- the live frames and the code
pub frames_kept : (i : Instr) (m : State) → KeptAt 15 m (performed i m).ending
frames_kept i m = performed_keeps 15 (omega arith) (λ q. omega (arith, q)) (λ q is same. omega (arith, same, reg_below q)) i m (none_named i.operands)
