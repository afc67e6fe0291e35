-- No step changes the data area's layout.
use Rattle.std.proofs.Common.{◌≡◌, ℕ, zero, suc, ◌+◌, ◌-◌, Bool, true, false, cond, List, [], ◌∷◌, length, Option, Some, None, Result, Ok, Err, refl}
use Rattle.std.specs.Prelude.{slice_get, nat_lt, nat_le, ◌==◌, ◌&&◌, ◌%◌, ◌^◌}
use Rattle.std.specs.Str.{bytes_eq}
use Rattle.std.specs.Int.RustNames.{count_ones}
use Rattle.vax_pairs.specs.gg_base.specs.declared.size.Size.{Size}
use Rattle.vax_pairs.specs.gg_base.specs.declared.size.Size.TheVariants.{Byte, Long}
use Rattle.vax_pairs.specs.gg_base.specs.Sizes.{bytes_of}
use Rattle.vax_pairs.specs.gg_base.specs.Arithmetic.{add32, sub32}
use Rattle.vax_pairs.specs.vax_core.specs.declared.register.Reg.{Reg}
use Rattle.vax_pairs.specs.vax_core.specs.declared.register.Reg.TheVariants.{R0, Fp, Sp}
use Rattle.vax_pairs.specs.vax_core.specs.Registers.{reg_number}
use Rattle.vax_pairs.specs.vax_core.specs.First.{putchar_name, main_name}
use Rattle.vax_pairs.specs.vax_core.specs.declared.operand.Base.{Base}
use Rattle.vax_pairs.specs.vax_core.specs.declared.operand.Base.TheVariants as bases
use Rattle.vax_pairs.specs.vax_core.specs.declared.operand.Operand.{Operand}
use Rattle.vax_pairs.specs.vax_core.specs.declared.op.OperandKind.{OperandKind}
use Rattle.vax_pairs.specs.vax_core.specs.Ops.{shape}
use Rattle.vax_pairs.specs.vax_core.specs.declared.code.CodeItem.{CodeItem}
use Rattle.vax_pairs.specs.vax_core.specs.declared.code.CodeItem.TheVariants as item_kind
use Rattle.vax_pairs.specs.vax_machine_live.specs.declared.frame.Frame.{Frame}
use Rattle.vax_pairs.specs.vax_machine.specs.declared.turn.Stop.{Stop}
use Rattle.vax_pairs.specs.vax_machine.specs.declared.memory.Region.{Region}
use Rattle.vax_pairs.specs.vax_machine.specs.declared.memory.Region.TheVariants as regions
use Rattle.vax_pairs.specs.vax_machine.specs.declared.operands.Location.{Location}
use Rattle.vax_pairs.specs.vax_machine.specs.declared.operands.Location.TheVariants as locations
use Rattle.vax_pairs.specs.vax_machine.specs.declared.operands.Evaluated.{Evaluated}
use Rattle.vax_pairs.specs.vax_machine.specs.declared.operands.Arguments.{Arguments}
use Rattle.vax_pairs.specs.vax_machine.specs.declared.operands.Destination.{Destination}
use Rattle.vax_pairs.specs.vax_machine.specs.declared.function.Computed.{Computed}
use Rattle.vax_pairs.specs.vax_machine.specs.declared.function.Action.{Action}
use Rattle.vax_pairs.specs.vax_machine.specs.declared.function.Action.TheVariants.{Compute, Push, Branch, Call, Return}
use Rattle.vax_pairs.specs.vax_machine.specs.State.{State, reg, with_reg, with_conditions, cleared, bad_code, frame, stack_full, ◌>>=◌}
use Rattle.vax_pairs.specs.vax_machine.specs.Memory.{touched, read, written, register_set, with_number_at, merged}
use Rattle.vax_pairs.specs.vax_machine.specs.Operands.{deferred, located, indexed, taken, evaluated, all_evaluated, in_front, put, stored}
use Rattle.vax_pairs.specs.vax_machine.specs.Functions.{action_of, passes, valued}
use Rattle.vax_pairs.specs.vax_machine.specs.Labels.{next_item, label_place, getchar_name}
use Rattle.vax_pairs.specs.vax_machine.specs.Calls.{Acts, pushed, reserved, all_reserved, entry_mask, entered, framed, called, silent, back_to, left, returned_from, returned}
use Rattle.vax_pairs.specs.vax_machine.specs.Calls.{putchar, getchar, got, called_by_name}
use Rattle.vax_pairs.specs.vax_machine.specs.Step.{next_of, next_where, act, at_item, instruction, acted, branched, finished, step_of}
use Rattle.vax_pairs.specs.vax_core.specs.declared.code.Code.{Code}
use Rattle.vax_pairs.specs.vax_machine.specs.Loading.{blank, begun, start}
use Rattle.vax_pairs.specs.vax_machine_lists.specs.Sound.{Behind}
use Rattle.vax_pairs.specs.vax_core.specs.declared.code.AreaItem.{AreaItem}

module _ (l : List AreaItem) where
  -- the layout is l in the state that comes, if one does
  abbrev In : State → Type 0
  In n = n.layout ≡ l

  abbrev S : Result State Stop → Type 0
  S (Ok n) = In n
  S (Err e) = Unit {0}

  abbrev P : {X : Type 0} → Result (X × State) Stop → Type 0
  P (Ok x) = In x.1
  P (Err e) = Unit {0}

  s_s : (r : Result State Stop) (f : State → Result State Stop) → S r → ((n : State) → In n → S (f n)) → S (r >>= f)
  s_s (Ok n) f h g = g n h
  s_s (Err e) f h g = tt

  s_p : {X : Type 0} (r : Result State Stop) (f : State → Result (X × State) Stop) → S r → ((n : State) → In n → P (f n)) → P (r >>= f)
  s_p (Ok n) f h g = g n h
  s_p (Err e) f h g = tt

  p_p : {X Y : Type 0} (r : Result (X × State) Stop) (f : X × State → Result (Y × State) Stop) → P r → ((x : X) (n : State) → In n → P (f (x, n))) → P (r >>= f)
  p_p (Ok x) f h g = g x.0 x.1 h
  p_p (Err e) f h g = tt

  v_s : {A : Type 0} (r : Result A Stop) (f : A → Result State Stop) → ((a : A) → S (f a)) → S (r >>= f)
  v_s (Ok a) f g = g a
  v_s (Err e) f g = tt

  v_p : {A X : Type 0} (r : Result A Stop) (f : A → Result (X × State) Stop) → ((a : A) → P (f a)) → P (r >>= f)
  v_p (Ok a) f g = g a
  v_p (Err e) f g = tt

  set_by : (m : State) → In m → (r : Reg) (v : ℕ) (b : Bool) → S (cond b (Err stack_full) (Ok (with_reg m r v)))
  set_by m h r v true = tt
  set_by m h r v false = h

  set_l : (m : State) → In m → (r : Reg) (v : ℕ) → S (register_set m r v)
  unfolding register_set
  set_l m h r v = set_by m h r v (reg_number r == 14 && nat_lt v 2139095040)

  number_l : (m : State) → In m → (s : Size) (v : ℕ) (r : Region) → In (with_number_at m s v r)
  number_l m h s v (regions.Area at) = h
  number_l m h s v (regions.Stack at) = h

  write_l : (m : State) → In m → (a : ℕ) (s : Size) (v : ℕ) → S (written m a s v)
  unfolding written
  write_l m h a s v = v_s (touched m a s) (λ (r : Region). Ok (with_number_at m s v r)) (λ r. number_l m h s v r)

  deferred_l : (m : State) → In m → (a : ℕ) → P (deferred m a)
  deferred_l m h a = v_p (read m a Long) (λ (b : ℕ). Ok (locations.Memory b, m)) (λ b. h)

  located_l : (m : State) → In m → (b : Base) (s : Size) → P (located m b s)
  unfolding located
  located_l m h (bases.Imm a) s = h
  located_l m h (bases.Reg r) s = h
  located_l m h (bases.Def r) s = h
  located_l m h (bases.Inc r) s = s_p (register_set m r (add32 (reg m r) (bytes_of s))) (λ (n : State). Ok (locations.Memory (reg m r), n)) (set_l m h r _) (λ n k. k)
  located_l m h (bases.IncDef r) s = s_p (register_set m r (add32 (reg m r) 4)) (λ (n : State). deferred n (reg m r)) (set_l m h r _) (λ n k. deferred_l n k (reg m r))
  located_l m h (bases.Dec r) s = s_p (register_set m r (sub32 (reg m r) (bytes_of s))) (λ (n : State). Ok (locations.Memory (sub32 (reg m r) (bytes_of s)), n)) (set_l m h r _) (λ n k. k)
  located_l m h (bases.Disp d r) s = h
  located_l m h (bases.DispDef d r) s = deferred_l m h _
  located_l m h (bases.Abs n) s = h
  located_l m h (bases.Rel a) s = h
  located_l m h (bases.RelDef a) s = deferred_l m h _

  evaluated_l : (m : State) → In m → (k : OperandKind) (o : Operand) → P (evaluated m k o)
  unfolding evaluated
  evaluated_l m h k o =
      p_p (located m o.base k.size) (λ (x : Location × State). taken x.1 k.access (indexed x.1 x.0 o.index k.size) k.size >>= λ (e : Evaluated). Ok (e, x.1)) (located_l m h o.base k.size)
      (λ x n g. v_p (taken n k.access (indexed n x o.index k.size) k.size) (λ (e : Evaluated). Ok (e, n)) (λ e. g))

  all_l : (ks : List OperandKind) (os : List Operand) (m : State) → In m → P (all_evaluated ks os m)
  all_l [] os m h = h
  all_l (k ∷ ks) [] m h = tt
  all_l (k ∷ ks) (o ∷ os) m h =
      p_p (evaluated m k o) (λ (x : Evaluated × State). all_evaluated ks os x.1 >>= λ (y : Arguments × State). Ok (in_front x.0 y.0, y.1)) (evaluated_l m h k o)
      (λ e n g. p_p (all_evaluated ks os n) (λ (y : Arguments × State). Ok (in_front e y.0, y.1)) (all_l ks os n g) (λ y z f. f))

  stored_l : (m : State) → In m → (d : Option Destination) (v : ℕ) → S (stored m d v)
  unfolding stored
  stored_l m h None v = h
  stored_l m h (Some d) v = by d.location where
    by : (p : Location) → S (put m p d.size v)
    by (locations.Number n) = tt
    by (locations.Register r) = set_l m h r (merged d.size (reg m r) v)
    by (locations.Memory a) = write_l m h a d.size v

  finished_l : (m : State) → In m → (d : Option Destination) (c : Option Computed) → P (finished m d c)
  finished_l m h d None = tt
  finished_l m h d (Some c) = s_p (stored m d c.value) (λ (n : State). Ok (None, with_conditions n c.conditions)) (stored_l m h d c.value) (λ n k. k)

  pushed_l : (m : State) → In m → (v : ℕ) → S (pushed m v)
  unfolding pushed
  pushed_l m h v = s_s (register_set m Sp (sub32 (reg m Sp) 4)) (λ (n : State). written n (sub32 (reg m Sp) 4) Long v) (set_l m h Sp _) (λ n k. write_l n k _ Long v)

  reserved_l : (m : State) → In m → S (reserved m)
  unfolding reserved
  reserved_l m h =
      s_s (register_set m Sp (sub32 (reg m Sp) 4)) (λ (n : State). touched n (sub32 (reg m Sp) 4) Long >>= λ (r : Region). Ok n) (set_l m h Sp _)
      (λ n k. v_s (touched n (sub32 (reg m Sp) 4) Long) (λ (r : Region). Ok n) (λ r. k))

  all_reserved_l : (k : ℕ) (m : State) → In m → S (all_reserved k m)
  all_reserved_l zero m h = h
  all_reserved_l (suc k) m h = s_s (reserved m) (λ (n : State). all_reserved k n) (reserved_l m h) (λ n g. all_reserved_l k n g)

  -- ---- services, calls, returns

  choose_l : {X : Type 0} (b : Bool) (q : Stop) (r : Result (X × State) Stop) → P r → P (cond b r (Err q))
  choose_l true q r h = h
  choose_l false q r h = tt

  putchar_l : (m : State) → In m → (count : ℕ) → P (putchar m count)
  unfolding putchar
  putchar_l m h count =
      choose_l (count == 1) bad_code _ (v_p (read m (reg m Sp) Long) _
      (λ x. s_p (register_set m Sp (add32 (reg m Sp) 4)) (λ (n : State). Ok (Some (x % 2 ^ 8), with_conditions (with_reg n R0 (x % 2 ^ 8)) cleared)) (set_l m h Sp _) (λ n k. k)))

  got_l : (m : State) → In m → (input : List ℕ) → In (got m input)
  got_l m h [] = h
  got_l m h (b ∷ rest) = h

  getchar_l : (m : State) → In m → (count : ℕ) → P (getchar m count)
  unfolding getchar
  getchar_l m h count = choose_l (count == 0) bad_code _ (got_l m h m.input)

  entered_by : (b : Bool) (n : State) → In n → S (cond b (Err stack_full) (Ok n))
  entered_by true n h = tt
  entered_by false n h = h

  framed_l : (m : State) → In m → (at : ℕ) (o : Option ℕ) (entry : ℕ) (back : Option ℕ) → S (framed m at o entry back)
  framed_l m h at None entry back = tt
  framed_l m h at (Some mask) entry back =
      s_s (register_set m Sp (at - at % 4)) (λ (n : State). all_reserved (count_ones mask + 5) n >>= λ (k : State). entered k at (at - at % 4) mask (entry + 1) back) (set_l m h Sp _)
      (λ n g. s_s (all_reserved (count_ones mask + 5) n) (λ (k : State). entered k at (at - at % 4) mask (entry + 1) back) (all_reserved_l (count_ones mask + 5) n g)
      (λ k f. entered_by (nat_le 4096 (length k.frames)) _ f))

  called_l : (m : State) → In m → (count place : ℕ) (back : Option ℕ) → S (called m count place back)
  unfolding called
  called_l m h count place back =
      s_s (pushed m count) (λ (n : State). framed n (reg n Sp) (entry_mask (slice_get n.items (next_item n.items place))) (next_item n.items place) back) (pushed_l m h count)
      (λ n g. framed_l n g _ _ _ back)

  silent_l : (r : Result State Stop) → S r → P (silent r)
  silent_l (Ok n) h = h
  silent_l (Err e) h = tt

  name_by : (m : State) → In m → (count : ℕ) (name : List ℕ) (b c : Bool) → P (cond b (putchar m count) (cond c (getchar m count) (silent (called m count (label_place m.items name) (Some m.place)))))
  name_by m h count name true c = putchar_l m h count
  name_by m h count name false true = getchar_l m h count
  name_by m h count name false false = silent_l _ (called_l m h count _ _)

  by_name_l : (m : State) → In m → (count : ℕ) (t : Option (List ℕ)) → P (called_by_name m count t)
  unfolding called_by_name
  by_name_l m h count None = tt
  by_name_l m h count (Some name) = name_by m h count name (bytes_eq name putchar_name) (bytes_eq name getchar_name)

  back_l : (m : State) → In m → (o : Option ℕ) → P (back_to m o)
  back_l m h None = tt
  back_l m h (Some p) = h

  from_l : (m : State) → In m → (outer : List Frame) (o : Option Frame) → P (returned_from m outer o)
  from_l m h outer None = tt
  from_l m h outer (Some f) =
      choose_l (reg m Fp == f.fp) frame _ (v_p (read (record m { frames = outer }) f.ap Byte) (λ (count : ℕ). back_to (left (record m { frames = outer }) f count) f.back)
      (λ count. back_l (left (record m { frames = outer }) f count) h f.back))

  returned_l : (m : State) → In m → P (returned m)
  unfolding returned
  returned_l m h = from_l m h _ _

  branched_l : (m : State) → In m → (b : Bool) (t : Option (List ℕ)) → P (branched m b t)
  branched_l m h b None = tt
  branched_l m h true (Some name) = h
  branched_l m h false (Some name) = h

  acted_l : (a : Action) (x : Arguments) (t : Option (List ℕ)) (m : State) → In m → P (acted a x t m)
  acted_l (Compute f) x t m h = finished_l m h x.destination _
  acted_l Push x t m h = s_p (pushed m x.first) (λ (n : State). Ok (None, with_conditions n (valued Long x.first m.conditions.carry).conditions)) (pushed_l m h x.first) (λ n k. k)
  acted_l (Branch y) x t m h = branched_l m h (passes y m.conditions) t
  acted_l Call x t m h = by_name_l m h x.first t
  acted_l Return x t m h = returned_l m h

  item_l : (o : Option CodeItem) (place : ℕ) (m : State) → In m → P (at_item o place m)
  unfolding instruction
  item_l None place m h = tt
  item_l (Some (item_kind.Label n)) place m h = tt
  item_l (Some (item_kind.Globl n)) place m h = tt
  item_l (Some (item_kind.Mask n)) place m h = tt
  item_l (Some (item_kind.Instr i)) place m h =
      p_p (all_evaluated (shape i.op).operands i.operands (record m { place = place + 1 })) (λ (x : Arguments × State). acted (action_of i.op) x.0 i.target x.1)
      (all_l (shape i.op).operands i.operands (record m { place = place + 1 }) h) (λ x n g. acted_l (action_of i.op) x i.target n g)

  act_l : (m : State) → In m → P (act m)
  unfolding act
  act_l m h = item_l _ _ m h

  next_l : (r : Acts) → P r → Behind (λ n. n.layout ≡ l) (next_of r)
  next_l (Ok (None, n)) h = h
  next_l (Ok (Some b, n)) h = h
  next_l (Err e) h = tt

  where_l : (o : Option Stop) (m : State) → In m → Behind (λ n. n.layout ≡ l) (next_where o m)
  where_l None m h = next_l (act m) (act_l m h)
  where_l (Some e) m h = tt

  pub steps_keep_layout : (m : State) → m.layout ≡ l → Behind (λ n. n.layout ≡ l) (step_of m)
  steps_keep_layout m h = where_l m.over m h

  begun_l : (m : State) → In m → (r : Result State Stop) → S r → In (begun m r)
  begun_l m h (Ok n) g = g
  begun_l m h (Err e) g = h

pub start_has_layout : (c : Code) (input : List ℕ) → (start c input).layout ≡ c.area
start_has_layout c input = begun_l c.area (blank c input) refl (called (blank c input) 0 (label_place c.items main_name) None)
    (called_l c.area (blank c input) refl 0 (label_place c.items main_name) None)
