-- Behind an instruction that computes a longword, a test of it changes nothing but C.
use Rattle.std.proofs.Common.{◌≡◌, ℕ, zero, suc, ◌+◌, ◌-◌, ◌^◌, ◌<◌, ◌≤◌, Bool, true, false, cond, List, [], ◌∷◌, length, drop, Option, Some, None, Result, Ok, Err, refl, sym, ap, subst, ◌∙◌, arith}
use Rattle.std.specs.Prelude.{slice_get, slice_index, nat_le, nat_lt, ◌==◌, ◌&&◌}
use Rattle.std.proofs.lemmas.List.{get_or-set_same}
use Rattle.gg_base.proofs.Facts.{false_true, some_none, err_ok, ok_same, first_true, second_true}
use Rattle.gg_base.specs.declared.size.Size.{Size}
use Rattle.gg_base.specs.declared.size.Size.TheVariants.{Byte, Word, Long}
use Rattle.gg_base.specs.Sizes.{bytes_of}
use Rattle.gg_base.specs.Arithmetic.{div32, add32}
use Rattle.vax_core.specs.declared.op.Op.{Op}
use Rattle.vax_core.specs.declared.op.Op.TheVariants as ops
use Rattle.vax_core.specs.declared.op.Access.{Access}
use Rattle.vax_core.specs.declared.op.Access.TheVariants as accesses
use Rattle.vax_core.specs.declared.op.OperandKind.{OperandKind}
use Rattle.vax_core.specs.declared.register.Reg.{Reg}
use Rattle.vax_core.specs.declared.operand.Base.{Base}
use Rattle.vax_core.specs.declared.operand.Base.TheVariants as bases
use Rattle.vax_core.specs.declared.operand.Operand.{Operand}
use Rattle.vax_core.specs.declared.code.Instr.{Instr}
use Rattle.vax_core.specs.declared.code.AreaItem.{AreaItem}
use Rattle.vax_core.specs.declared.code.CodeItem.{CodeItem}
use Rattle.vax_machine_live.specs.declared.frame.Frame.{Frame}
use Rattle.vax_machine_live.specs.Control.{in_control}
use Rattle.gg_base.specs.LittleEndian.{with_number}
use Rattle.vax_core.specs.declared.code.CodeItem.TheVariants as item_kind
use Rattle.vax_core.specs.Ops.{shape}
use Rattle.vax_core.specs.Valid.{is_operand, are_operands}
use Rattle.vax_core.specs.Registers.{reg_number}
use Rattle.vax_machine.specs.declared.turn.Stop.{Stop}
use Rattle.vax_machine.specs.declared.memory.Region.{Region}
use Rattle.vax_machine.specs.declared.memory.Region.TheVariants as regions
use Rattle.vax_machine.specs.declared.operands.Location.{Location}
use Rattle.vax_machine.specs.declared.operands.Location.TheVariants as locations
use Rattle.vax_machine.specs.declared.operands.Destination.{Destination}
use Rattle.vax_machine.specs.declared.operands.Evaluated.{Evaluated}
use Rattle.vax_machine.specs.declared.operands.Arguments.{Arguments}
use Rattle.vax_machine.specs.declared.function.Action.{Action}
use Rattle.vax_machine.specs.declared.function.Action.TheVariants.{Compute}
use Rattle.vax_machine.specs.declared.function.Conditions.{Conditions}
use Rattle.vax_machine.specs.declared.function.Computed.{Computed}
use Rattle.vax_machine.specs.declared.function.Function.{Function}
use Rattle.vax_machine.specs.declared.function.Function.TheVariants as functions
use Rattle.vax_machine.specs.State.{State, reg, with_reg, with_conditions, stack_full, access, frame, ◌>>=◌}
use Rattle.vax_machine.specs.Area.{resolved}
use Rattle.vax_machine.specs.Memory.{touched, read, written, register_set, number_at, with_number_at}
use Rattle.vax_machine.specs.Operands.{located, indexed, fetched, taken, evaluated, all_evaluated, no_arguments, in_front, last_of, only_number, with_destination, put, stored}
use Rattle.vax_machine.specs.Functions.{action_of, applied, valued, is_negative_at, quotient}
use Rattle.vax_machine.specs.Labels.{skipped, next_item}
use Rattle.vax_machine.specs.Step.{act, at_item, instruction, acted, finished}
use Rattle.vax_machine.proofs.Registers.{reg_below}
use Rattle.vax_machine_lists.specs.Sound.{IsRunning}
use Rattle.vax_machine_lists.proofs.Longwords.{length-with, number-with}
use Rattle.vax_machine_lists.proofs.Numbers.{SmallResult, applied_small}
use Rattle.vax_machine_lists.proofs.Soundness.{LiesIn, lies, EvaluatesAll, all_running, valid_at, running_at}
use Rattle.vax_alike.proofs.Placing.{Where, where_of, there, Moved, Carried, all_there, stored_there}
use Rattle.vax_machine_lists.proofs.Joining.{act_is}
use Rattle.vax_codes.specs.Needless.{IsNeedless, Tests, ResultsTestAgain, is_written, is_long, ends_written, last_operand, function_clears, is_plain_base, is_plain_at, is_plain}

-- what a part that came through did
pub came : {A B : Type 0} (t : Result A Stop) (f : A → Result B Stop) (b : B) → (t >>= f) ≡ Ok b → (a : A) × (t ≡ Ok a) × (f a ≡ Ok b)
came (Ok a) f b e = (a, refl, e)
came (Err x) f b e = absurd (err_ok x b e)

-- ---- functions whose result is a longword, with N and Z from it

abbrev is_long_function : Function → Bool
is_long_function (functions.Copy size) = is_long size
is_long_function (functions.Truncate size) = false
is_long_function functions.BitTest = false
is_long_function (functions.Compare size) = false
is_long_function (functions.CompareWithZero size) = false
is_long_function f = true

same_function : (f g : Function) → Compute f ≡ Compute g → f ≡ g
same_function f g e = cc

pub long_op : (op : Op) (f : Function) → action_of op ≡ Compute f → ends_written (shape op).operands ≡ true → is_long_function f ≡ true
long_op ops.Movb f e w = false_true w
long_op ops.Movw f e w = false_true w
long_op ops.Movl f e w = ap is_long_function (sym (same_function _ f e))
long_op ops.Clrb f e w = false_true w
long_op ops.Clrw f e w = false_true w
long_op ops.Clrl f e w = ap is_long_function (sym (same_function _ f e))
long_op ops.Mnegl f e w = ap is_long_function (sym (same_function _ f e))
long_op ops.Mcoml f e w = ap is_long_function (sym (same_function _ f e))
long_op ops.Pushl f e w = false_true w
long_op ops.Cvtbl f e w = ap is_long_function (sym (same_function _ f e))
long_op ops.Cvtwl f e w = ap is_long_function (sym (same_function _ f e))
long_op ops.Cvtlb f e w = false_true w
long_op ops.Cvtlw f e w = false_true w
long_op ops.Movzbl f e w = ap is_long_function (sym (same_function _ f e))
long_op ops.Movzwl f e w = ap is_long_function (sym (same_function _ f e))
long_op ops.Movab f e w = ap is_long_function (sym (same_function _ f e))
long_op ops.Movaw f e w = ap is_long_function (sym (same_function _ f e))
long_op ops.Moval f e w = ap is_long_function (sym (same_function _ f e))
long_op ops.Addl2 f e w = ap is_long_function (sym (same_function _ f e))
long_op ops.Addl3 f e w = ap is_long_function (sym (same_function _ f e))
long_op ops.Subl2 f e w = ap is_long_function (sym (same_function _ f e))
long_op ops.Subl3 f e w = ap is_long_function (sym (same_function _ f e))
long_op ops.Mull2 f e w = ap is_long_function (sym (same_function _ f e))
long_op ops.Mull3 f e w = ap is_long_function (sym (same_function _ f e))
long_op ops.Divl2 f e w = ap is_long_function (sym (same_function _ f e))
long_op ops.Divl3 f e w = ap is_long_function (sym (same_function _ f e))
long_op ops.Incl f e w = ap is_long_function (sym (same_function _ f e))
long_op ops.Decl f e w = ap is_long_function (sym (same_function _ f e))
long_op ops.Bisl2 f e w = ap is_long_function (sym (same_function _ f e))
long_op ops.Bisl3 f e w = ap is_long_function (sym (same_function _ f e))
long_op ops.Bicl2 f e w = ap is_long_function (sym (same_function _ f e))
long_op ops.Bicl3 f e w = ap is_long_function (sym (same_function _ f e))
long_op ops.Xorl2 f e w = ap is_long_function (sym (same_function _ f e))
long_op ops.Xorl3 f e w = ap is_long_function (sym (same_function _ f e))
long_op ops.Bitl f e w = false_true w
long_op ops.Ashl f e w = ap is_long_function (sym (same_function _ f e))
long_op ops.Cmpb f e w = false_true w
long_op ops.Cmpw f e w = false_true w
long_op ops.Cmpl f e w = false_true w
long_op ops.Tstb f e w = false_true w
long_op ops.Tstw f e w = false_true w
long_op ops.Tstl f e w = false_true w
long_op ops.Jbr f e w = false_true w
long_op ops.Jeql f e w = false_true w
long_op ops.Jneq f e w = false_true w
long_op ops.Jlss f e w = false_true w
long_op ops.Jleq f e w = false_true w
long_op ops.Jgtr f e w = false_true w
long_op ops.Jgeq f e w = false_true w
long_op ops.Jlssu f e w = false_true w
long_op ops.Jlequ f e w = false_true w
long_op ops.Jgtru f e w = false_true w
long_op ops.Jgequ f e w = false_true w
long_op ops.Calls f e w = false_true w
long_op ops.Ret f e w = false_true w

abbrev IsValued : Computed → Type 0
IsValued c = (c.conditions.negative ≡ is_negative_at Long c.value) × (c.conditions.is_zero ≡ (c.value == 0))

valued_so : (v : ℕ) (k : Bool) (c : Computed) → ◌≡◌ {A = Option Computed} (Some (valued Long v k)) (Some c) → IsValued c
valued_so v k c e = let f : valued Long v k ≡ c = cc in subst (λ (x : Computed). IsValued x) f (refl, refl)

quotient_so : (o : Option ℕ) (c : Computed) → quotient o ≡ Some c → IsValued c
quotient_so None c e = absurd (some_none c (sym e))
quotient_so (Some q) c e = valued_so q false c e

long_valued : (f : Function) (a b : ℕ) (k : Bool) (c : Computed) → is_long_function f ≡ true → applied f a b k ≡ Some c → IsValued c
long_valued (functions.Copy Byte) a b k c l e = false_true l
long_valued (functions.Copy Word) a b k c l e = false_true l
long_valued (functions.Copy Long) a b k c l e = valued_so _ _ c e
long_valued functions.Clear a b k c l e = valued_so _ _ c e
long_valued functions.Negate a b k c l e = valued_so _ _ c e
long_valued functions.Complement a b k c l e = valued_so _ _ c e
long_valued (functions.SignExtend size) a b k c l e = valued_so _ _ c e
long_valued (functions.Truncate size) a b k c l e = false_true l
long_valued functions.Add a b k c l e = valued_so _ _ c e
long_valued functions.Subtract a b k c l e = valued_so _ _ c e
long_valued functions.Multiply a b k c l e = valued_so _ _ c e
long_valued functions.Divide a b k c l e = quotient_so (div32 b a) c e
long_valued functions.Increment a b k c l e = valued_so _ _ c e
long_valued functions.Decrement a b k c l e = valued_so _ _ c e
long_valued functions.BitSet a b k c l e = valued_so _ _ c e
long_valued functions.BitClear a b k c l e = valued_so _ _ c e
long_valued functions.ExclusiveOr a b k c l e = valued_so _ _ c e
long_valued functions.BitTest a b k c l e = false_true l
long_valued functions.Shift a b k c l e = valued_so _ _ c e
long_valued (functions.Compare size) a b k c l e = false_true l
long_valued (functions.CompareWithZero size) a b k c l e = false_true l

carry_so : (v : ℕ) (c : Computed) → ◌≡◌ {A = Option Computed} (Some (valued Long v false)) (Some c) → c.conditions.carry ≡ false
carry_so v c e = let f : valued Long v false ≡ c = cc in ap (λ (x : Computed). x.conditions.carry) (sym f)

quotient_carry : (o : Option ℕ) (c : Computed) → quotient o ≡ Some c → c.conditions.carry ≡ false
quotient_carry None c e = absurd (some_none c (sym e))
quotient_carry (Some q) c e = carry_so q c e

long_clears : (f : Function) (a b : ℕ) (k : Bool) (c : Computed) → is_long_function f ≡ true → applied f a b k ≡ Some c → function_clears f ≡ true → c.conditions.carry ≡ false
long_clears (functions.Copy size) a b k c l e h = false_true h
long_clears functions.Clear a b k c l e h = false_true h
long_clears functions.Negate a b k c l e h = false_true h
long_clears functions.Complement a b k c l e h = false_true h
long_clears (functions.SignExtend size) a b k c l e h = carry_so _ c e
long_clears (functions.Truncate size) a b k c l e h = false_true l
long_clears functions.Add a b k c l e h = false_true h
long_clears functions.Subtract a b k c l e h = false_true h
long_clears functions.Multiply a b k c l e h = carry_so _ c e
long_clears functions.Divide a b k c l e h = quotient_carry (div32 b a) c e
long_clears functions.Increment a b k c l e h = false_true h
long_clears functions.Decrement a b k c l e h = false_true h
long_clears functions.BitSet a b k c l e h = false_true h
long_clears functions.BitClear a b k c l e h = false_true h
long_clears functions.ExclusiveOr a b k c l e h = false_true h
long_clears functions.BitTest a b k c l e h = false_true h
long_clears functions.Shift a b k c l e h = carry_so _ c e
long_clears (functions.Compare size) a b k c l e h = false_true h
long_clears (functions.CompareWithZero size) a b k c l e h = false_true l

-- ---- plain operands

abbrev loc_of : State → Base → Location
loc_of m (bases.Imm a) = locations.Number 0
loc_of m (bases.Reg r) = locations.Register r
loc_of m (bases.Def r) = locations.Memory (reg m r)
loc_of m (bases.Inc r) = locations.Number 0
loc_of m (bases.IncDef r) = locations.Number 0
loc_of m (bases.Dec r) = locations.Number 0
loc_of m (bases.Disp a r) = locations.Memory (add32 (resolved m.layout a) (reg m r))
loc_of m (bases.DispDef a r) = locations.Number 0
loc_of m (bases.Abs n) = locations.Memory n
loc_of m (bases.Rel a) = locations.Memory (resolved m.layout a)
loc_of m (bases.RelDef a) = locations.Number 0

plain_located : (m : State) (b : Base) (s : Size) → is_plain_base b ≡ true → located m b s ≡ Ok (loc_of m b, m)
unfolding located
plain_located m (bases.Imm a) s e = false_true e
plain_located m (bases.Reg r) s e = refl
plain_located m (bases.Def r) s e = refl
plain_located m (bases.Inc r) s e = false_true e
plain_located m (bases.IncDef r) s e = false_true e
plain_located m (bases.Dec r) s e = false_true e
plain_located m (bases.Disp a r) s e = refl
plain_located m (bases.DispDef a r) s e = false_true e
plain_located m (bases.Abs n) s e = refl
plain_located m (bases.Rel a) s e = refl
plain_located m (bases.RelDef a) s e = false_true e

plain_base : (o : Operand) → is_plain o ≡ true → (is_plain_base o.base ≡ true) × (o.index ≡ None)
plain_base o e = by o.index refl e
  where
    by : (x : Option Reg) → o.index ≡ x → is_plain_at o.base x ≡ true → (is_plain_base o.base ≡ true) × (o.index ≡ None)
    by None is e = (e, is)
    by (Some x) is e = false_true e

-- what is taken of a plain operand
plain_taken : (m : State) (k : OperandKind) (o : Operand) → is_plain o ≡ true → evaluated m k o ≡ (taken m k.access (loc_of m o.base) k.size >>= λ (e : Evaluated). Ok (e, m))
unfolding evaluated
plain_taken m k o e =
    let p = plain_base o e in
    ap (λ (t : Result (Location × State) Stop). t >>= λ (x : Location × State). taken x.1 k.access (indexed x.1 x.0 o.index k.size) k.size >>= λ (y : Evaluated). Ok (y, x.1))
    (plain_located m o.base k.size p.0)
    ∙ ap (λ (x : Option Reg). taken m k.access (indexed m (loc_of m o.base) x k.size) k.size >>= λ (y : Evaluated). Ok (y, m)) p.1

-- the destination of an operand that is written
taken_written : (m : State) (a : Access) (l : Location) (s : Size) (e : Evaluated) → is_written a ≡ true → taken m a l s ≡ Ok e → e.destination ≡ Some (record { location = l; size = s })
unfolding taken
taken_written m accesses.Read l s e w h = false_true w
taken_written m accesses.Modify l s e w h =
    let c = came (fetched m l s) (λ (v : ℕ). Ok (with_destination v l s)) e h in
    ap (λ (x : Evaluated). x.destination) (sym (ok_same _ e c.2))
taken_written m accesses.Write l s e w h = ap (λ (x : Evaluated). x.destination) (sym (ok_same _ e h))
taken_written m accesses.Address l s e w h = false_true w
taken_written m accesses.Count l s e w h = false_true w

long_size : (s : Size) → is_long s ≡ true → s ≡ Long
long_size Byte e = false_true e
long_size Word e = false_true e
long_size Long e = refl

one_written : (m n : State) (k : OperandKind) (o : Operand) (e : Evaluated) → is_plain o ≡ true → (is_written k.access && is_long k.size) ≡ true → evaluated m k o ≡ Ok (e, n)
    → (n ≡ m) × (e.destination ≡ Some (record { location = loc_of m o.base; size = Long }))
one_written m n k o e plain w h =
    let c = came (taken m k.access (loc_of m o.base) k.size) (λ (y : Evaluated). Ok (y, m)) (e, n) (sym (plain_taken m k o plain) ∙ h) in
    let pair = ok_same _ _ c.2 in (
      ap (λ (x : Evaluated × State). x.1) (sym pair),
      ap (λ (x : Evaluated × State). x.0.destination) (sym pair)
          ∙ taken_written m k.access (loc_of m o.base) k.size c.0 (first_true _ _ w) c.1
          ∙ ap (λ (s : Size). Some (record { location = loc_of m o.base; size = s })) (long_size k.size (second_true (is_written k.access) _ w)),
    )

abbrev HasDestination : Option Destination → State → Operand → Type 0
HasDestination d n o = d ≡ Some (record { location = loc_of n o.base; size = Long })

destined : (ks : List OperandKind) (os : List Operand) (m n : State) (x : Arguments) (o : Operand) → are_operands ks os ≡ true → ends_written ks ≡ true → last_operand os ≡ Some o → is_plain o ≡ true
    → all_evaluated ks os m ≡ Ok (x, n) → HasDestination x.destination n o
destined [] os m n x o v w l p h = false_true w
destined (k ∷ ks) [] m n x o v w l p h = absurd (some_none o (sym l))
destined (k ∷ []) (y ∷ (z ∷ os)) m n x o v w l p h = false_true (second_true (is_operand k y) _ v)
destined (k ∷ (j ∷ ks)) (y ∷ []) m n x o v w l p h = false_true (second_true (is_operand k y) _ v)
destined (k ∷ []) (y ∷ []) m n x o v w l p h =
    let same : y ≡ o = cc in
    let c = came (evaluated m k y) (λ (e : Evaluated × State). all_evaluated [] [] e.1 >>= λ (z : Arguments × State). Ok (in_front e.0 z.0, z.1)) (x, n) h in
    let pair = ok_same _ _ c.2 in
    let one = one_written m c.0.1 k o c.0.0 p w (ap (λ (u : Operand). evaluated m k u) (sym same) ∙ c.1) in
    ap (λ (u : Arguments × State). u.0.destination) (sym pair)
    ∙ last_none c.0.0.destination
    ∙ one.1
    ∙ ap (λ (u : State). Some (record { location = loc_of u o.base; size = Long })) (sym one.0 ∙ ap (λ (u : Arguments × State). u.1) pair)
  where
    last_none : (d : Option Destination) → last_of d None ≡ d
    last_none d = refl
destined (k ∷ (j ∷ ks)) (y ∷ (z ∷ os)) m n x o v w l p h =
    let c = came (evaluated m k y) (λ (e : Evaluated × State). all_evaluated (j ∷ ks) (z ∷ os) e.1 >>= λ (u : Arguments × State). Ok (in_front e.0 u.0, u.1)) (x, n) h in
    let d = came (all_evaluated (j ∷ ks) (z ∷ os) c.0.1) (λ (u : Arguments × State). Ok (in_front c.0.0 u.0, u.1)) (x, n) c.2 in
    let pair = ok_same _ _ d.2 in
    let state : d.0.1 ≡ n = ap (λ (u : Arguments × State). u.1) pair in
    let rest = destined (j ∷ ks) (z ∷ os) c.0.1 n d.0.0 o (second_true (is_operand k y) _ v) w l p (d.1 ∙ ap (λ (u : State). Ok (d.0.0, u)) state) in
    ap (λ (u : Arguments × State). u.0.destination) (sym pair) ∙ ap (λ (u : Option Destination). last_of c.0.0.destination u) rest

-- ---- what was stored is read again

-- where neither frames nor the length of the area changed, the same bytes may be touched
touch_same : (m n : State) (a : ℕ) (s : Size) → n.frames ≡ m.frames → length n.area ≡ length m.area → touched n a s ≡ touched m a s
unfolding touched
touch_same m n a s f l =
    ap (λ (fs : List Frame). cond (nat_le 65536 a && nat_le (a + bytes_of s) (65536 + length n.area)) (Ok (regions.Area (a - 65536)))
    (cond (nat_le 2139095040 a && nat_le (a + bytes_of s) 2147483648) (cond (in_control fs a (bytes_of s)) (Err frame) (Ok (regions.Stack (a - 2139095040)))) (Err access))) f
    ∙ ap (λ (k : ℕ). cond (nat_le 65536 a && nat_le (a + bytes_of s) (65536 + k)) (Ok (regions.Area (a - 65536)))
    (cond (nat_le 2139095040 a && nat_le (a + bytes_of s) 2147483648) (cond (in_control m.frames a (bytes_of s)) (Err frame) (Ok (regions.Stack (a - 2139095040)))) (Err access))) l

pub record Rereads (m n : State) (a v : ℕ) : Type 0 where
  pub same : read n a Long ≡ Ok v
  pub registers : n.registers ≡ m.registers
  pub layout : n.layout ≡ m.layout

reread_by : (m n : State) (c : Conditions) (q : ℕ) (a v : ℕ) (t : Result Region Stop) → touched m a Long ≡ t → LiesIn m Long t → length m.stack ≡ 8388608 → v < 2 ^ 32
    → (t >>= λ (r : Region). Ok (with_number_at m Long v r)) ≡ Ok n → Rereads m (record n { conditions = c; place = q }) a v
unfolding read
reread_by m n c q a v (Err x) is lies_in long small e = absurd (err_ok x n e)
reread_by m n c q a v (Ok (regions.Area at)) is lies_in long small e =
    let same : record m { area = with_number Long m.area at v } ≡ n = ok_same _ _ e in
    subst (λ (k : State). Rereads m (record k { conditions = c; place = q }) a v) same (record {
      same = ap (λ (t : Result Region Stop). t >>= λ (r : Region). Ok (number_at (record m { area = with_number Long m.area at v; conditions = c; place = q }) Long r))
          (touch_same m (record m { area = with_number Long m.area at v; conditions = c; place = q }) a Long refl (length-with m.area at v lies_in) ∙ is)
          ∙ ap (λ (x : ℕ). Ok x) (number-with m.area at v lies_in small);
      registers = refl;
      layout = refl;
    })
reread_by m n c q a v (Ok (regions.Stack at)) is lies_in long small e =
    let same : record m { stack = with_number Long m.stack at v } ≡ n = ok_same _ _ e in
    let fits : at + 4 ≤ length m.stack = omega (arith, lies_in, long) in
    subst (λ (k : State). Rereads m (record k { conditions = c; place = q }) a v) same (record {
      same = ap (λ (t : Result Region Stop). t >>= λ (r : Region). Ok (number_at (record m { stack = with_number Long m.stack at v; conditions = c; place = q }) Long r))
          (touch_same m (record m { stack = with_number Long m.stack at v; conditions = c; place = q }) a Long refl refl ∙ is)
          ∙ ap (λ (x : ℕ). Ok x) (number-with m.stack at v fits small);
      registers = refl;
      layout = refl;
    })

reread : (m n : State) (c : Conditions) (q : ℕ) (a v : ℕ) → IsRunning m → v < 2 ^ 32 → written m a Long v ≡ Ok n → Rereads m (record n { conditions = c; place = q }) a v
unfolding written
reread m n c q a v running small e = reread_by m n c q a v (touched m a Long) refl (lies m a Long) running.sound.stack small e

-- a register that was set
reset_by : (m n : State) (b : Bool) (r : Reg) (v : ℕ) → cond b (Err stack_full) (Ok (with_reg m r v)) ≡ Ok n → with_reg m r v ≡ n
reset_by m n true r v e = absurd (err_ok _ n e)
reset_by m n false r v e = ok_same _ n e

reset : (m n : State) (r : Reg) (v : ℕ) → register_set m r v ≡ Ok n → with_reg m r v ≡ n
unfolding register_set
reset m n r v e = reset_by m n (reg_number r == 14 && nat_lt v 2139095040) r v e

-- the number that was stored at a plain operand stands there
fetched_again : (m n : State) (c : Conditions) (q : ℕ) (b : Base) (v : ℕ) → is_plain_base b ≡ true → IsRunning m → v < 2 ^ 32 → put m (loc_of m b) Long v ≡ Ok n
    → fetched (record n { conditions = c; place = q }) (loc_of (record n { conditions = c; place = q }) b) Long ≡ Ok v
fetched_again m n c q (bases.Imm a) v p running small e = false_true p
fetched_again m n c q (bases.Reg r) v p running small e =
    let same = reset m n r v e in
    let below : reg_number r < length m.registers = (let l = running.sound.registers in omega (arith, l, reg_below r)) in
    ap (λ (x : State). Ok (reg x r)) (sym same) ∙ ap (λ (x : ℕ). Ok x) (get_or-set_same m.registers (reg_number r) v 0 below)
fetched_again m n c q (bases.Def r) v p running small e =
    let again = reread m n c q (reg m r) v running small e in
    ap (λ (rs : List ℕ). read (record n { conditions = c; place = q }) (slice_index rs (reg_number r)) Long) again.registers ∙ again.same
fetched_again m n c q (bases.Inc r) v p running small e = false_true p
fetched_again m n c q (bases.IncDef r) v p running small e = false_true p
fetched_again m n c q (bases.Dec r) v p running small e = false_true p
fetched_again m n c q (bases.Disp a r) v p running small e =
    let again = reread m n c q (add32 (resolved m.layout a) (reg m r)) v running small e in
    ap (λ (rs : List ℕ). read (record n { conditions = c; place = q }) (add32 (resolved n.layout a) (slice_index rs (reg_number r))) Long) again.registers
    ∙ ap (λ (l : List AreaItem). read (record n { conditions = c; place = q }) (add32 (resolved l a) (reg m r)) Long) again.layout ∙ again.same
fetched_again m n c q (bases.DispDef a r) v p running small e = false_true p
fetched_again m n c q (bases.Abs x) v p running small e = (reread m n c q x v running small e).same
fetched_again m n c q (bases.Rel a) v p running small e =
    let again = reread m n c q (resolved m.layout a) v running small e in
    ap (λ (l : List AreaItem). read (record n { conditions = c; place = q }) (resolved l a) Long) again.layout ∙ again.same
fetched_again m n c q (bases.RelDef a) v p running small e = false_true p

-- ---- the test

-- a test of a plain operand at which a number is read
tested : (m : State) (o : Operand) (v : ℕ) (t : Option (List ℕ)) → is_plain o ≡ true → fetched m (loc_of m o.base) Long ≡ Ok v
    → instruction m ops.Tstl (o ∷ []) t ≡ Ok (None, with_conditions m (record { negative = is_negative_at Long v; is_zero = v == 0; carry = false }))
unfolding instruction taken stored
tested m o v t plain e =
    ap (λ (x : Result (Evaluated × State) Stop). (x >>= λ (y : Evaluated × State). Ok (no_arguments, y.1) >>= λ (z : Arguments × State). Ok (in_front y.0 z.0, z.1))
    >>= λ (y : Arguments × State). acted (action_of ops.Tstl) y.0 t y.1)
    (plain_taken m (record { access = accesses.Read; size = Long }) o plain ∙ ap (λ (x : Result ℕ Stop). (x >>= λ (y : ℕ). Ok (only_number y)) >>= λ (y : Evaluated). Ok (y, m)) e)

pub plain_at : (xs : List CodeItem) (p : ℕ) (i : Instr) → slice_get xs p ≡ Some (item_kind.Instr i) → next_item xs p ≡ p
plain_at xs p i e = let z : skipped (drop p xs) ≡ 0 = none_skipped xs p i e in omega (arith, z)
  where
    none_skipped : (xs : List CodeItem) (p : ℕ) (i : Instr) → slice_get xs p ≡ Some (item_kind.Instr i) → skipped (drop p xs) ≡ 0
    none_skipped [] zero i e = refl
    none_skipped [] (suc n) i e = refl
    none_skipped (item_kind.Label x ∷ xs) zero i e = absurd cc
    none_skipped (item_kind.Globl x ∷ xs) zero i e = absurd cc
    none_skipped (item_kind.Mask x ∷ xs) zero i e = refl
    none_skipped (item_kind.Instr x ∷ xs) zero i e = refl
    none_skipped (x ∷ xs) (suc n) i e = none_skipped xs n i e

abbrev TestsSo : State → Function → Type 0
TestsSo n f = Tests n × (function_clears f ≡ true → n.conditions.carry ≡ false)

module _ (R : ℕ → Type 0) (m : State) (at : ℕ) (h : IsNeedless R m.items at) (running : IsRunning m) where
  abbrev m1 : State
  m1 = record m { place = h.before + 1 }

  abbrev ks : List OperandKind
  ks = (shape h.writer.op).operands

  abbrev os : List Operand
  os = h.writer.operands

  valid : are_operands ks os ≡ true
  valid = first_true _ _ (valid_at m.items h.before (item_kind.Instr h.writer) running.valid h.first)

  starts : next_item m.items m.place ≡ h.before → act m ≡ instruction m1 h.writer.op os h.writer.target
  unfolding act
  starts e = ap (λ (p : ℕ). at_item (slice_get m.items p) p m) e ∙ ap (λ (o : Option CodeItem). at_item o h.before m) h.first

  module _ (x : Arguments) (m2 : State) (eval : all_evaluated ks os m1 ≡ Ok (x, m2)) where
    small : (x.first < 2 ^ 32) × (x.second < 2 ^ 32) × IsRunning m2
    small = subst EvaluatesAll eval (all_running ks os m1 (running_at m (h.before + 1) running) valid)

    stays : where_of m2 ≡ where_of m1
    stays = (subst (λ (t : Result (Arguments × State) Stop). Carried (where_of m1) (where_of m1) t (all_evaluated ks os m1)) eval
        (all_there (where_of m1) (where_of m1) (λ a k. refl) ks os m1 refl)).1

    destination : x.destination ≡ Some (record { location = loc_of m2 h.operand.base; size = Long })
    destination = destined ks os m1 m2 x h.operand valid h.writes h.written h.plain eval

    abbrev d : Destination
    d = record { location = loc_of m2 h.operand.base; size = Long }

    is_long_here : is_long_function h.function ≡ true
    is_long_here = long_op h.writer.op h.function h.computes h.writes

    module _ (k : Computed) (applies : applied h.function x.first x.second m2.conditions.carry ≡ Some k) (m3 : State) (stores : stored m2 (Some d) k.value ≡ Ok m3) where
      value_small : k.value < 2 ^ 32
      value_small = subst SmallResult applies (applied_small h.function x.first x.second m2.conditions.carry small.0 small.1)

      stays_on : where_of m3 ≡ where_of m1
      stays_on = (subst (λ (t : Result State Stop). Moved (where_of m1) (where_of m1) t (stored (there m2 (where_of m1)) (Some d) k.value)) stores
          (stored_there (where_of m1) (where_of m1) (λ a i. refl) m2 stays (Some d) k.value)).1

      put_is : put m2 (loc_of m2 h.operand.base) Long k.value ≡ Ok m3
      unfolding stored
      put_is = stores

      abbrev n : State
      n = with_conditions m3 k.conditions

      here : slice_get n.items n.place ≡ Some (item_kind.Instr h.test)
      here = ap (λ (w : Where). slice_get w.items w.place) stays_on ∙ ap (λ (p : ℕ). slice_get m.items p) (sym h.place) ∙ h.here

      values : IsValued k
      values = long_valued h.function x.first x.second m2.conditions.carry k is_long_here applies

      fetches : fetched (record n { place = n.place + 1 }) (loc_of (record n { place = n.place + 1 }) h.operand.base) Long ≡ Ok k.value
      fetches = fetched_again m2 m3 k.conditions (m3.place + 1) h.operand.base k.value (plain_base h.operand h.plain).0 small.2 value_small put_is

      tests_here : Tests n
      tests_here = record {
        acts = act_is n h.test here
            ∙ ap (λ (o : Op). instruction (record n { place = n.place + 1 }) o h.test.operands h.test.target) h.tests
            ∙ ap (λ (y : List Operand). instruction (record n { place = n.place + 1 }) ops.Tstl y h.test.target) h.tested
            ∙ tested (record n { place = n.place + 1 }) h.operand k.value h.test.target h.plain fetches
            ∙ ap (λ (b : Bool). Ok (None, with_conditions (record n { place = n.place + 1 }) (record { negative = b; is_zero = k.value == 0; carry = false }))) (sym values.0)
            ∙ ap (λ (b : Bool). Ok (None, with_conditions (record n { place = n.place + 1 }) (record { negative = n.conditions.negative; is_zero = b; carry = false }))) (sym values.1)
            ∙ ap (λ (p : ℕ). Ok (None, record n { place = p + 1; conditions = record { negative = n.conditions.negative; is_zero = n.conditions.is_zero; carry = false } }))
            (sym (plain_at n.items n.place h.test here));
      }

      both_here : TestsSo n h.function
      both_here = (tests_here, λ e. long_clears h.function x.first x.second m2.conditions.carry k is_long_here applies e)

    finishes : (o : Option ℕ) (n : State) (c : Option Computed) → applied h.function x.first x.second m2.conditions.carry ≡ c → finished m2 (Some d) c ≡ Ok (o, n) → TestsSo n h.function
    finishes o n None is e = absurd (err_ok _ (o, n) e)
    finishes o n (Some k) is e =
        let c = came (stored m2 (Some d) k.value) (λ (y : State). Ok (None, with_conditions y k.conditions)) (o, n) e in
        let same = ap (λ (y : Option ℕ × State). y.1) (ok_same _ _ c.2) in
        subst (λ (y : State). TestsSo y h.function) same (both_here k is c.0 c.1)

    ends_so : (o : Option ℕ) (n : State) → acted (action_of h.writer.op) x h.writer.target m2 ≡ Ok (o, n) → TestsSo n h.function
    ends_so o n e =
        finishes o n _ refl
        (ap (λ (y : Option Destination). finished m2 y (applied h.function x.first x.second m2.conditions.carry)) (sym destination)
        ∙ ap (λ (a : Action). acted a x h.writer.target m2) (sym h.computes) ∙ e)

  again : (o : Option ℕ) (n : State) → next_item m.items m.place ≡ h.before → act m ≡ Ok (o, n) → TestsSo n h.function
  unfolding instruction
  again o n e acts =
      let c = came (all_evaluated ks os m1) (λ (y : Arguments × State). acted (action_of h.writer.op) y.0 h.writer.target y.1) (o, n) (sym (starts e) ∙ acts) in
      ends_so c.0.0 c.0.1 c.1 o n c.2

-- Behind an instruction that computes a longword, a test of it changes nothing but C.
pub results_test_again : ResultsTestAgain
results_test_again R m n o at h running e acts = again R m at h running o n e acts
