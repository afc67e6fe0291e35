-- What an instruction does by itself doesn't depend on where the machine stands: at another place, of another code, with other codes N, Z
-- and C and other frames by which the same words are control words, it does the same.
use Rattle.std.proofs.Common.{◌≡◌, ℕ, zero, suc, Bool, true, false, cond, List, [], ◌∷◌, Option, Some, None, Result, Ok, Err, refl, sym, ap, subst, ◌∙◌}
use Rattle.std.specs.Prelude.{nat_lt, nat_le, ◌==◌, ◌&&◌, ◌+◌, ◌-◌, length}
use Rattle.gg_base.specs.declared.size.Size.{Size}
use Rattle.gg_base.specs.declared.size.Size.TheVariants.{Long}
use Rattle.gg_base.specs.Arithmetic.{add32, sub32}
use Rattle.gg_base.specs.Sizes.{bytes_of}
use Rattle.vax_core.specs.declared.register.Reg.{Reg}
use Rattle.vax_core.specs.declared.register.Reg.TheVariants.{Sp}
use Rattle.vax_core.specs.declared.operand.Base.{Base}
use Rattle.vax_core.specs.declared.operand.Base.TheVariants as bases
use Rattle.vax_core.specs.declared.operand.Operand.{Operand}
use Rattle.vax_core.specs.declared.op.Access.{Access}
use Rattle.vax_core.specs.declared.op.Access.TheVariants as accesses
use Rattle.vax_core.specs.declared.op.OperandKind.{OperandKind}
use Rattle.vax_core.specs.declared.code.CodeItem.{CodeItem}
use Rattle.vax_core.specs.Registers.{reg_number}
use Rattle.vax_machine_live.specs.declared.frame.Frame.{Frame}
use Rattle.vax_machine_live.specs.Control.{in_control}
use Rattle.vax_machine.specs.declared.turn.Stop.{Stop}
use Rattle.vax_machine.specs.declared.memory.Region.{Region}
use Rattle.vax_machine.specs.declared.memory.Region.TheVariants as regions
use Rattle.vax_machine.specs.declared.operands.Location.{Location}
use Rattle.vax_machine.specs.declared.operands.Location.TheVariants as locations
use Rattle.vax_machine.specs.declared.operands.Destination.{Destination}
use Rattle.vax_machine.specs.declared.operands.Evaluated.{Evaluated}
use Rattle.vax_machine.specs.declared.operands.Arguments.{Arguments}
use Rattle.vax_machine.specs.declared.function.Conditions.{Conditions}
use Rattle.vax_machine.specs.State.{State, reg, with_reg, stack_full, access, frame, ◌>>=◌}
use Rattle.vax_machine.specs.Area.{resolved}
use Rattle.vax_machine.specs.Memory.{touched, read, written, register_set, number_at, with_number_at, merged}
use Rattle.vax_machine.specs.Operands.{deferred, located, indexed, fetched, taken, evaluated, all_evaluated, in_front, only_number, with_destination, put, stored}
use Rattle.vax_machine.specs.Calls.{pushed, reserved, all_reserved}

-- where a machine stands: what an instruction's own work doesn't look at, or sees only as control words
pub record Where : Type 0 where
  pub place : ℕ
  pub items : List CodeItem
  pub frames : List Frame
  pub conditions : Conditions
  pub over : Option Stop

abbrev pub there : State → Where → State
there m w = record m { place = w.place; items = w.items; frames = w.frames; conditions = w.conditions; over = w.over }

abbrev pub where_of : State → Where
where_of m = record { place = m.place; items = m.items; frames = m.frames; conditions = m.conditions; over = m.over }

-- the same words are control words
abbrev pub SameControl : List Frame → List Frame → Type 0
SameControl fs gs = (a k : ℕ) → in_control gs a k ≡ in_control fs a k

module _ (v w : Where) where
  -- a result that stays at v, and the same at w
  abbrev pub Moved : Result State Stop → Result State Stop → Type 0
  Moved (Ok n) s = (s ≡ Ok (there n w)) × (where_of n ≡ v)
  Moved (Err e) s = s ≡ Err e

  abbrev pub Carried : {X : Type 0} → Result (X × State) Stop → Result (X × State) Stop → Type 0
  Carried (Ok x) s = (s ≡ Ok (x.0, there x.1 w)) × (where_of x.1 ≡ v)
  Carried (Err e) s = s ≡ Err e

  -- ---- parts one after another

  pub state_state : (f : State → Result State Stop) → ((n : State) → where_of n ≡ v → Moved (f n) (f (there n w))) → (r s : Result State Stop) → Moved r s → Moved (r >>= f) (s >>= f)
  state_state f g (Ok n) s h = subst (λ (t : Result State Stop). Moved (f n) (t >>= f)) (sym h.0) (g n h.1)
  state_state f g (Err e) s h = ap (λ (t : Result State Stop). t >>= f) h

  pub state_pair : {X : Type 0} (f : State → Result (X × State) Stop) → ((n : State) → where_of n ≡ v → Carried (f n) (f (there n w))) → (r s : Result State Stop) → Moved r s
      → Carried (r >>= f) (s >>= f)
  state_pair f g (Ok n) s h = subst (λ (t : Result State Stop). Carried (f n) (t >>= f)) (sym h.0) (g n h.1)
  state_pair f g (Err e) s h = ap (λ (t : Result State Stop). t >>= f) h

  pub pair_pair : {X Y : Type 0} (f : X × State → Result (Y × State) Stop) → ((x : X) (n : State) → where_of n ≡ v → Carried (f (x, n)) (f (x, there n w)))
      → (r s : Result (X × State) Stop) → Carried r s → Carried (r >>= f) (s >>= f)
  pair_pair {X = X} f g (Ok x) s h = subst (λ (t : Result (X × State) Stop). Carried (f x) (t >>= f)) (sym h.0) (g x.0 x.1 h.1)
  pair_pair {X = X} f g (Err e) s h = ap (λ (t : Result (X × State) Stop). t >>= f) h

  pub value_state : {A : Type 0} (f g : A → Result State Stop) → ((a : A) → Moved (f a) (g a)) → (r s : Result A Stop) → s ≡ r → Moved (r >>= f) (s >>= g)
  value_state {A = A} f g h (Ok a) s e = subst (λ (t : Result A Stop). Moved (f a) (t >>= g)) (sym e) (h a)
  value_state {A = A} f g h (Err x) s e = ap (λ (t : Result A Stop). t >>= g) e

  pub value_pair : {A X : Type 0} (f g : A → Result (X × State) Stop) → ((a : A) → Carried (f a) (g a)) → (r s : Result A Stop) → s ≡ r → Carried (r >>= f) (s >>= g)
  value_pair {A = A} f g h (Ok a) s e = subst (λ (t : Result A Stop). Carried (f a) (t >>= g)) (sym e) (h a)
  value_pair {A = A} f g h (Err x) s e = ap (λ (t : Result A Stop). t >>= g) e

  module _ (control : SameControl v.frames w.frames) where
    -- ---- registers and memory

    set_by : (m : State) → where_of m ≡ v → (b : Bool) (r : Reg) (x : ℕ) → Moved (cond b (Err stack_full) (Ok (with_reg m r x))) (cond b (Err stack_full) (Ok (with_reg (there m w) r x)))
    set_by m h true r x = refl
    set_by m h false r x = (refl, h)

    pub set : (m : State) → where_of m ≡ v → (r : Reg) (x : ℕ) → Moved (register_set m r x) (register_set (there m w) r x)
    unfolding register_set
    set m h r x = set_by m h (reg_number r == 14 && nat_lt x 2139095040) r x

    same_control : (m : State) → where_of m ≡ v → (a k : ℕ) → in_control w.frames a k ≡ in_control m.frames a k
    same_control m h a k = control a k ∙ sym (ap (λ (x : Where). in_control x.frames a k) h)

    pub touch : (m : State) → where_of m ≡ v → (a : ℕ) (s : Size) → touched (there m w) a s ≡ touched m a s
    unfolding touched
    touch m h a s = ap (λ (b : Bool). cond (nat_le 65536 a && nat_le (a + bytes_of s) (65536 + length m.area)) (Ok (regions.Area (a - 65536)))
        (cond (nat_le 2139095040 a && nat_le (a + bytes_of s) 2147483648) (cond b (Err frame) (Ok (regions.Stack (a - 2139095040)))) (Err access))) (same_control m h a (bytes_of s))

    read_by : (m : State) (s : Size) (t : Result Region Stop) → (t >>= λ (r : Region). Ok (number_at (there m w) s r)) ≡ (t >>= λ (r : Region). Ok (number_at m s r))
    read_by m s (Ok (regions.Area at)) = refl
    read_by m s (Ok (regions.Stack at)) = refl
    read_by m s (Err e) = refl

    pub read_same : (m : State) → where_of m ≡ v → (a : ℕ) (s : Size) → read (there m w) a s ≡ read m a s
    unfolding read
    read_same m h a s = ap (λ (t : Result Region Stop). t >>= λ (r : Region). Ok (number_at (there m w) s r)) (touch m h a s) ∙ read_by m s (touched m a s)

    with_number : (m : State) → where_of m ≡ v → (s : Size) (x : ℕ) (r : Region) → Moved (Ok (with_number_at m s x r)) (Ok (with_number_at (there m w) s x r))
    with_number m h s x (regions.Area at) = (refl, h)
    with_number m h s x (regions.Stack at) = (refl, h)

    pub write : (m : State) → where_of m ≡ v → (a : ℕ) (s : Size) (x : ℕ) → Moved (written m a s x) (written (there m w) a s x)
    unfolding written
    write m h a s x = value_state (λ (r : Region). Ok (with_number_at m s x r)) (λ (r : Region). Ok (with_number_at (there m w) s x r)) (λ r. with_number m h s x r)
        (touched m a s) (touched (there m w) a s) (touch m h a s)

    -- ---- operands

    deferred_there : (m : State) → where_of m ≡ v → (a : ℕ) → Carried (deferred m a) (deferred (there m w) a)
    deferred_there m h a =
        value_pair (λ (b : ℕ). Ok (locations.Memory b, m)) (λ (b : ℕ). Ok (locations.Memory b, there m w)) (λ b. (refl, h)) (read m a Long) (read (there m w) a Long)
        (read_same m h a Long)

    located_there : (m : State) → where_of m ≡ v → (b : Base) (s : Size) → Carried (located m b s) (located (there m w) b s)
    unfolding located
    located_there m h (bases.Imm a) s = (refl, h)
    located_there m h (bases.Reg r) s = (refl, h)
    located_there m h (bases.Def r) s = (refl, h)
    located_there m h (bases.Inc r) s = state_pair (λ (n : State). Ok (locations.Memory (reg m r), n)) (λ n k. (refl, k)) _ _ (set m h r (add32 (reg m r) (bytes_of s)))
    located_there m h (bases.IncDef r) s = state_pair (λ (n : State). deferred n (reg m r)) (λ n k. deferred_there n k (reg m r)) _ _ (set m h r (add32 (reg m r) 4))
    located_there m h (bases.Dec r) s =
        state_pair (λ (n : State). Ok (locations.Memory (sub32 (reg m r) (bytes_of s)), n)) (λ n k. (refl, k)) _ _ (set m h r (sub32 (reg m r) (bytes_of s)))
    located_there m h (bases.Disp d r) s = (refl, h)
    located_there m h (bases.DispDef d r) s = deferred_there m h (add32 (resolved m.layout d) (reg m r))
    located_there m h (bases.Abs n) s = (refl, h)
    located_there m h (bases.Rel a) s = (refl, h)
    located_there m h (bases.RelDef a) s = deferred_there m h (resolved m.layout a)

    indexed_same : (m : State) (l : Location) (x : Option Reg) (s : Size) → indexed (there m w) l x s ≡ indexed m l x s
    indexed_same m l None s = refl
    indexed_same m l (Some x) s = refl

    fetched_same : (m : State) → where_of m ≡ v → (l : Location) (s : Size) → fetched (there m w) l s ≡ fetched m l s
    fetched_same m h (locations.Number n) s = refl
    fetched_same m h (locations.Register r) s = refl
    fetched_same m h (locations.Memory a) s = read_same m h a s

    taken_same : (m : State) → where_of m ≡ v → (a : Access) (l : Location) (s : Size) → taken (there m w) a l s ≡ taken m a l s
    unfolding taken
    taken_same m h accesses.Read l s = ap (λ (t : Result ℕ Stop). t >>= λ (x : ℕ). Ok (only_number x)) (fetched_same m h l s)
    taken_same m h accesses.Modify l s = ap (λ (t : Result ℕ Stop). t >>= λ (x : ℕ). Ok (with_destination x l s)) (fetched_same m h l s)
    taken_same m h accesses.Write l s = refl
    taken_same m h accesses.Address l s = refl
    taken_same m h accesses.Count l s = ap (λ (t : Result ℕ Stop). t >>= λ (x : ℕ). Ok (only_number x)) (fetched_same m h l s)

    module _ (k : OperandKind) (o : Operand) where
      took : Location × State → Result (Evaluated × State) Stop
      took x = taken x.1 k.access (indexed x.1 x.0 o.index k.size) k.size >>= λ (e : Evaluated). Ok (e, x.1)

      took_there : (l : Location) (n : State) → where_of n ≡ v → Carried (took (l, n)) (took (l, there n w))
      unfolding took
      took_there l n h =
          value_pair (λ (e : Evaluated). Ok (e, n)) (λ (e : Evaluated). Ok (e, there n w)) (λ e. (refl, h)) (taken n k.access (indexed n l o.index k.size) k.size)
          (taken (there n w) k.access (indexed (there n w) l o.index k.size) k.size)
          (ap (λ (j : Location). taken (there n w) k.access j k.size) (indexed_same n l o.index k.size) ∙ taken_same n h k.access (indexed n l o.index k.size) k.size)

      pub evaluated_there : (m : State) → where_of m ≡ v → Carried (evaluated m k o) (evaluated (there m w) k o)
      unfolding evaluated took
      evaluated_there m h = pair_pair took took_there (located m o.base k.size) (located (there m w) o.base k.size) (located_there m h o.base k.size)

    in_front_of : Evaluated → Arguments × State → Result (Arguments × State) Stop
    in_front_of e y = Ok (in_front e y.0, y.1)

    pub all_there : (ks : List OperandKind) (os : List Operand) (m : State) → where_of m ≡ v → Carried (all_evaluated ks os m) (all_evaluated ks os (there m w))
    unfolding in_front_of
    all_there [] os m h = (refl, h)
    all_there (k ∷ ks) [] m h = refl
    all_there (k ∷ ks) (o ∷ os) m h =
        pair_pair (λ (x : Evaluated × State). all_evaluated ks os x.1 >>= in_front_of x.0)
        (λ e n g. pair_pair (in_front_of e) (λ y z f. (refl, f)) (all_evaluated ks os n) (all_evaluated ks os (there n w)) (all_there ks os n g))
        (evaluated m k o) (evaluated (there m w) k o) (evaluated_there k o m h)

    -- ---- results, pushes, room for control words

    put_there : (m : State) → where_of m ≡ v → (l : Location) (s : Size) (x : ℕ) → Moved (put m l s x) (put (there m w) l s x)
    put_there m h (locations.Number n) s x = refl
    put_there m h (locations.Register r) s x = set m h r (merged s (reg m r) x)
    put_there m h (locations.Memory a) s x = write m h a s x

    pub stored_there : (m : State) → where_of m ≡ v → (d : Option Destination) (x : ℕ) → Moved (stored m d x) (stored (there m w) d x)
    unfolding stored
    stored_there m h None x = (refl, h)
    stored_there m h (Some d) x = put_there m h d.location d.size x

    pub pushed_there : (m : State) → where_of m ≡ v → (x : ℕ) → Moved (pushed m x) (pushed (there m w) x)
    unfolding pushed
    pushed_there m h x = state_state (λ (n : State). written n (sub32 (reg m Sp) 4) Long x) (λ n k. write n k (sub32 (reg m Sp) 4) Long x) _ _ (set m h Sp (sub32 (reg m Sp) 4))

    reserved_there : (m : State) → where_of m ≡ v → Moved (reserved m) (reserved (there m w))
    unfolding reserved
    reserved_there m h =
        state_state (λ (n : State). touched n (sub32 (reg m Sp) 4) Long >>= λ (r : Region). Ok n)
        (λ n k. value_state (λ (r : Region). Ok n) (λ (r : Region). Ok (there n w)) (λ r. (refl, k)) _ _ (touch n k (sub32 (reg m Sp) 4) Long))
        _ _ (set m h Sp (sub32 (reg m Sp) 4))

    pub all_reserved_there : (k : ℕ) (m : State) → where_of m ≡ v → Moved (all_reserved k m) (all_reserved k (there m w))
    all_reserved_there zero m h = (refl, h)
    all_reserved_there (suc k) m h = state_state (λ (n : State). all_reserved k n) (λ n g. all_reserved_there k n g) _ _ (reserved_there m h)
