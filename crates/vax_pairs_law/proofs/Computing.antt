-- The tree of an instruction that computes says what the machine does.
use Rattle.std.proofs.Common.{◌≡◌, ℕ, Bool, true, false, cond, List, map, length, Option, Some, None, Result, Ok, Err, refl, sym, ap, subst, ◌∙◌}
use Rattle.std.proofs.lemmas.List.{map-set}
use Rattle.std.specs.Prelude.{slice_set, ◌==◌, ◌/◌, nat_lt}
use Rattle.std.specs.Option.{unwrap_or}
use Rattle.vax_pairs.specs.gg_base.specs.Arithmetic.{sub32, neg32, same_sign, magnitude, div32}
use Rattle.vax_pairs.specs.gg_base.specs.declared.size.Size.{Size}
use Rattle.vax_pairs.specs.gg_base.specs.declared.size.Size.TheVariants.{Byte, Word, Long}
use Rattle.vax_pairs.specs.term_core.specs.declared.operator.UnaryOp.TheVariants.{Com}
use Rattle.vax_pairs.specs.term_core.specs.declared.operator.BinaryOp.TheVariants.{And, Or, Xor}
use Rattle.vax_pairs.specs.term_core.specs.Shape.{Shape, Unary, Binary}
use Rattle.vax_pairs.specs.vax_core.specs.declared.register.Reg.{Reg}
use Rattle.vax_pairs.specs.vax_core.specs.declared.register.Reg.TheVariants.{Sp}
use Rattle.vax_pairs.specs.vax_core.specs.Registers.{reg_number}
use Rattle.vax_pairs.specs.vax_core.specs.declared.operand.Operand.{Operand}
use Rattle.vax_pairs.specs.vax_core.specs.declared.op.OperandKind.{OperandKind}
use Rattle.vax_pairs.specs.vax_core.specs.declared.code.AreaItem.{AreaItem}
use Rattle.vax_pairs.specs.vax_core.specs.declared.code.CodeItem.{CodeItem}
use Rattle.vax_pairs.specs.vax_machine.specs.declared.turn.Stop.{Stop}
use Rattle.vax_pairs.specs.vax_machine.specs.declared.memory.Region.{Region}
use Rattle.vax_pairs.specs.vax_machine.specs.declared.memory.Region.TheVariants as regions
use Rattle.vax_pairs.specs.vax_machine.specs.declared.operands.Arguments.{Arguments}
use Rattle.vax_pairs.specs.vax_machine.specs.declared.operands.Destination.{Destination}
use Rattle.vax_pairs.specs.vax_machine.specs.declared.function.Conditions.{Conditions}
use Rattle.vax_pairs.specs.vax_machine.specs.declared.function.Computed.{Computed}
use Rattle.vax_pairs.specs.vax_machine.specs.declared.function.Function.{Function}
use Rattle.vax_pairs.specs.vax_machine.specs.declared.function.Function.TheVariants as functions
use Rattle.vax_pairs.specs.vax_machine.specs.State.{State, with_conditions, ◌>>=◌}
use Rattle.vax_pairs.specs.vax_machine.specs.Memory.{touched, written, register_set, with_number_at}
use Rattle.vax_pairs.specs.vax_machine.specs.Operands.{all_evaluated, stored}
use Rattle.vax_pairs.specs.vax_machine.specs.Functions.{is_negative_at, valued, quotient, applied}
use Rattle.vax_pairs.specs.vax_machine.specs.Calls.{Acts, pushed}
use Rattle.vax_pairs.specs.vax_machine.specs.Step.{finished, pushing}
use Rattle.vax_pairs.specs.Ways.{Way}
use Rattle.vax_pairs.specs.Events.{worth, Stores}
use Rattle.vax_pairs.specs.TermStates.{Signs, SignsBefore, Tests, Compares, Carry, CarryBefore, Off, Below, Made, carry_in, signed, carried, TermState, coded, dressed}
use Rattle.vax_pairs.specs.Trees.{Tree}
use Rattle.vax_pairs.specs.TermOperands.{Number, Register, Place, Goal, before, in_register, holding, set_register}
use Rattle.vax_pairs.specs.TermResults.{given, carry_behind, coded_behind, put, guarded, finish, compute, pushed_at, push_number, push}
use Rattle.vax_pairs.specs.Scopes.{Under, SignsUnder, CarryUnder, Scoped}
use Rattle.vax_pairs_law.proofs.Telling.{stores_says, divides_says}
use Rattle.vax_pairs_law.proofs.Telling.{Says as TreeSays}
use Rattle.vax_pairs_law.proofs.Operating.{target, bind_assoc, register_is, register_under, holding_scoped, set_says, held_says, operands_says}

kept_by : (env : List ℕ) (k : Conditions) (signs : Signs) (carry : Carry) (n z : Bool)
    → carried env (record k { negative = n; is_zero = z }) carry ≡ record { negative = n; is_zero = z; carry = (carried env (signed env k signs) carry).carry }
kept_by env k SignsBefore CarryBefore n z = refl
kept_by env k (Tests size t) CarryBefore n z = refl
kept_by env k (Compares size a b) CarryBefore n z = refl
kept_by env k signs Off n z = refl
kept_by env k signs (Below a b) n z = refl
kept_by env k signs (Made f a b) n z = refl

-- ---- quotients

-- a function has a result
abbrev IsDue : Function → ℕ → Type 0
IsDue functions.Divide v = (v == 0) ≡ false
IsDue f v = Unit {0}

either_there : (s : Bool) (u v : ℕ) → (q : ℕ) × (cond s (Some u) (Some v) ≡ Some q)
either_there true u v = (u, refl)
either_there false u v = (v, refl)

quotient_by : (a b : ℕ) (z : Bool) → (b == 0) ≡ z → div32 a b ≡ cond z None (cond (same_sign a b) (Some (magnitude a / magnitude b)) (Some (neg32 (magnitude a / magnitude b))))
quotient_by a b z e = ap (λ (c : Bool). cond c None (cond (same_sign a b) (Some (magnitude a / magnitude b)) (Some (neg32 (magnitude a / magnitude b))))) e

quotient_there : (a b : ℕ) → (b == 0) ≡ false → (q : ℕ) × (div32 a b ≡ Some q)
quotient_there a b e =
    let h = either_there (same_sign a b) (magnitude a / magnitude b) (neg32 (magnitude a / magnitude b)) in
    (h.0, quotient_by a b false e ∙ h.1)

-- what is computed of a quotient that is there
abbrev Quotient : Option ℕ → Type 0
Quotient o = quotient o ≡ Some (record {
  value = unwrap_or o 0;
  conditions = record { negative = is_negative_at Long (unwrap_or o 0); is_zero = unwrap_or o 0 == 0; carry = carry_in (quotient o) };
})

quotient_is : (o : Option ℕ) (q : ℕ) → o ≡ Some q → Quotient o
quotient_is (Some v) q e = refl
quotient_is None q e = absurd (cc)

-- ---- what functions give

abbrev IsGiven : List ℕ → Conditions → TermState → Function → Shape → Shape → Type 0
IsGiven env k s f a b =
    applied f (worth env a) (worth env b) (coded env k s).carry
    ≡ Some (record { value = worth env (given f a b).0; conditions = coded env k (coded_behind s f a b (given f a b).1) })

abbrev with_codes : ℕ → Conditions → Option Computed
with_codes v c = Some (record { value = v; conditions = c })

given_is : (env : List ℕ) (k : Conditions) (s : TermState) (f : Function) (a b : Shape) → IsDue f (worth env a) → IsGiven env k s f a b
given_is env k s (functions.Copy size) a b due = ap (with_codes (worth env a)) (sym (kept_by env k s.signs s.carry _ _))
given_is env k s functions.Clear a b due = ap (with_codes 0) (sym (kept_by env k s.signs s.carry _ _))
given_is env k s functions.Complement a b due = ap (with_codes (worth env (Unary Com a))) (sym (kept_by env k s.signs s.carry _ _))
given_is env k s (functions.SignExtend Byte) a b due = refl
given_is env k s (functions.SignExtend Word) a b due = refl
given_is env k s (functions.SignExtend Long) a b due = refl
given_is env k s (functions.Truncate Byte) a b due = refl
given_is env k s (functions.Truncate Word) a b due = refl
given_is env k s (functions.Truncate Long) a b due = refl
given_is env k s functions.Divide a b due = (let h = quotient_there (worth env b) (worth env a) due in quotient_is (div32 (worth env b) (worth env a)) h.0 h.1)
given_is env k s functions.BitSet a b due = ap (with_codes (worth env (Binary Or a b))) (sym (kept_by env k s.signs s.carry _ _))
given_is env k s functions.BitClear a b due = ap (with_codes (worth env (Binary And b (Unary Com a)))) (sym (kept_by env k s.signs s.carry _ _))
given_is env k s functions.ExclusiveOr a b due = ap (with_codes (worth env (Binary Xor a b))) (sym (kept_by env k s.signs s.carry _ _))
given_is env k s functions.BitTest a b due = ap (with_codes (worth env (Binary And a b))) (sym (kept_by env k s.signs s.carry _ _))
given_is env k s f a b due = refl

abbrev GivenUnder : ℕ → Shape × Signs → Type 0
GivenUnder n g = Under n g.0 × SignsUnder n g.1

given_under : (n : ℕ) (f : Function) (a b : Shape) → Under n a → Under n b → GivenUnder n (given f a b)
given_under n (functions.Copy size) a b h g = (h, h)
given_under n functions.Clear a b h g = (tt, tt)
given_under n functions.Negate a b h g = (h, h)
given_under n functions.Complement a b h g = (h, h)
given_under n (functions.SignExtend Byte) a b h g = (h, h)
given_under n (functions.SignExtend Word) a b h g = (h, h)
given_under n (functions.SignExtend Long) a b h g = (h, h)
given_under n (functions.Truncate Byte) a b h g = (h, h)
given_under n (functions.Truncate Word) a b h g = (h, h)
given_under n (functions.Truncate Long) a b h g = (h, h)
given_under n functions.Add a b h g = ((h, g), (h, g))
given_under n functions.Subtract a b h g = ((g, h), (g, h))
given_under n functions.Multiply a b h g = ((h, g), (h, g))
given_under n functions.Divide a b h g = ((g, h), (g, h))
given_under n functions.Increment a b h g = ((h, tt), (h, tt))
given_under n functions.Decrement a b h g = ((h, tt), (h, tt))
given_under n functions.BitSet a b h g = ((h, g), (h, g))
given_under n functions.BitClear a b h g = ((g, h), (g, h))
given_under n functions.ExclusiveOr a b h g = ((h, g), (h, g))
given_under n functions.BitTest a b h g = ((h, g), (h, g))
given_under n functions.Shift a b h g = ((h, g), (h, g))
given_under n (functions.Compare size) a b h g = (tt, (h, g))
given_under n (functions.CompareWithZero size) a b h g = (tt, h)

carry_under : (n : ℕ) (f : Function) (a b : Shape) (old : Carry) → Under n a → Under n b → CarryUnder n old → CarryUnder n (carry_behind f a b old)
carry_under n (functions.Copy size) a b old h g k = k
carry_under n functions.Clear a b old h g k = k
carry_under n functions.Complement a b old h g k = k
carry_under n functions.BitSet a b old h g k = k
carry_under n functions.BitClear a b old h g k = k
carry_under n functions.ExclusiveOr a b old h g k = k
carry_under n functions.BitTest a b old h g k = k
carry_under n f a b old h g k = (h, g)

-- what a piece doesn't change of a state
pub record Home (items : List CodeItem) (layout : List AreaItem) (m : State) : Type 0 where
  pub items_are : m.items ≡ items
  pub layout_is : m.layout ≡ layout
  pub going : m.over ≡ None

module _ (items : List CodeItem) (layout : List AreaItem) (x x0 : State) (said : List ℕ) (k0 : ℕ) (way : Way x0 x said k0) (going : x0.over ≡ None) (p : ℕ) where
  abbrev Says : Option Tree → List ℕ → State → Acts → Type 0
  Says t env m r = TreeSays items x x0 said k0 way going t env m r

  -- the conditions are set, and nothing is written
  leave : Conditions → State → Acts
  leave c n = Ok (None, with_conditions n c)

  -- the rest says what comes behind the instruction
  abbrev pub Next : (ℕ → TermState → Option Tree) → Type 0
  Next rest = (env : List ℕ) (n : ℕ) (m : State) (s : TermState) → length env ≡ n → Home items layout m → Scoped n s → Says (rest n s) env m (Ok (None, dressed env m p s))

  module _ (env : List ℕ) (m : State) (home : Home items layout m) (s s1 : TermState) (same : s1.registers ≡ s.registers) (scoped : Scoped (length env) s1) (rest : TermState → Option Tree)
      (go : (n : State) (t : TermState) → Home items layout n → Scoped (length env) t → Says (rest t) env n (Ok (None, dressed env n p t))) where
    abbrev M : State
    M = dressed env m p s1

    -- M with the conditions of before
    abbrev old : State
    old = dressed env m p s

    leaving : (n : State) → leave (coded env n.conditions s1) (dressed env n p s) ≡ Ok (None, dressed env n p s1)
    unfolding leave
    leaving n = ap (λ (ts : List Shape). Ok (None, record n { registers = map (worth env) ts; conditions = coded env n.conditions s1; place = p })) (sym same)

    WroteSo : Result State Stop → Result State Stop → Type 0
    WroteSo (Ok n) r = Home items layout n × ((r >>= leave (coded env m.conditions s1)) ≡ Ok (None, dressed env n p s1))
    WroteSo (Err q) r = (r >>= leave (coded env m.conditions s1)) ≡ Err q

    wrote_at : (size : Size) (v : ℕ) (o : Result Region Stop) → WroteSo (o >>= λ (r : Region). Ok (with_number_at m size v r)) (o >>= λ (r : Region). Ok (with_number_at old size v r))
    unfolding WroteSo
    wrote_at size v (Ok (regions.Area at)) =
        (record { items_are = home.items_are; layout_is = home.layout_is; going = home.going }, leaving (with_number_at m size v (regions.Area at)))
    wrote_at size v (Ok (regions.Stack at)) =
        (record { items_are = home.items_are; layout_is = home.layout_is; going = home.going }, leaving (with_number_at m size v (regions.Stack at)))
    wrote_at size v (Err q) = refl

    wrote : (a : ℕ) (size : Size) (v : ℕ) → WroteSo (written m a size v) (written old a size v)
    unfolding written touched
    wrote a size v = wrote_at size v (touched m a size)

    wrote_ok : (r s : Result State Stop) → WroteSo r s → (n : State) → r ≡ Ok n → Home items layout n × ((s >>= leave (coded env m.conditions s1)) ≡ Ok (None, dressed env n p s1))
    unfolding WroteSo
    wrote_ok r s h n e = subst (λ (t : Result State Stop). WroteSo t s) e h

    wrote_err : (r s : Result State Stop) → WroteSo r s → (q : Stop) → r ≡ Err q → (s >>= leave (coded env m.conditions s1)) ≡ Err q
    unfolding WroteSo
    wrote_err r s h q e = subst (λ (t : Result State Stop). WroteSo t s) e h

    place_says : (a : Shape) (size : Size) (t : Shape) → Says (before (Stores size a t) (rest s1)) env m (written old (worth env a) size (worth env t) >>= leave (coded env m.conditions s1))
    place_says a size t =
        stores_says items x x0 said k0 way going size a t (rest s1) env m _
        (λ n e. (let h = wrote_ok _ _ (wrote (worth env a) size (worth env t)) n e in subst (λ (r : Acts). Says (rest s1) env n r) (sym h.1) (go n s1 h.0 scoped)))
        (λ q e. wrote_err _ _ (wrote (worth env a) size (worth env t)) q e)

    register_says : (r : Reg) (t : Shape) → Under (length env) t → Says (set_register s1 r t rest) env m (register_set old r (worth env t) >>= leave (coded env m.conditions s1))
    unfolding leave
    register_says r t u =
        set_says items x x0 said k0 way going env m r t (rest (holding s1 (reg_number r) t)) old (leave (coded env m.conditions s1))
        (subst (λ (z : Acts). Says (rest (holding s1 (reg_number r) t)) env m z)
        (ap (λ (ts : List Shape). Ok (None, record m { registers = map (worth env) (slice_set ts (reg_number r) t); conditions = coded env m.conditions s1; place = p })) same
        ∙ ap (λ (rs : List ℕ). Ok (None, record m { registers = rs; conditions = coded env m.conditions s1; place = p })) (map-set (worth env) s.registers (reg_number r) t))
        (go m (holding s1 (reg_number r) t) home (holding_scoped (length env) s1 (reg_number r) t scoped u)))
        (nat_lt (reg_number r) 12) (reg_number r == 14) refl refl

    put_says : (d : Goal) (t : Shape) → Under (length env) t → Says (put s1 d t rest) env m (stored old (target env d) (worth env t) >>= leave (coded env m.conditions s1))
    unfolding stored leave
    put_says None t u = subst (λ (z : Acts). Says (rest s1) env m z) (sym (leaving m)) (go m s1 home scoped)
    put_says (Some (Number w, size)) t u = tt
    put_says (Some (Register r, Byte)) t u = tt
    put_says (Some (Register r, Word)) t u = tt
    put_says (Some (Register r, Long)) t u = register_says r t u
    put_says (Some (Place a, size)) t u = place_says a size t

  module _ (f : Function) (rest : ℕ → TermState → Option Tree) (next : Next rest) where
    -- a divisor that is zero ends the run
    guard_says : (env : List ℕ) (m : State) (g : Function) (a b : Shape) (c : Bool) (before_it : State) (d : Option Destination) (there : Option Tree)
        → (IsDue g (worth env a) → Says there env m (finished before_it d (applied g (worth env a) (worth env b) c)))
        → Says (guarded g a there) env m (finished before_it d (applied g (worth env a) (worth env b) c))
    guard_says env m functions.Divide a b c before_it d there go =
        divides_says items x x0 said k0 way going a there env m _ go
        (λ e. ap (λ (o : Option ℕ). finished before_it d (quotient o)) (quotient_by (worth env b) (worth env a) true e))
    guard_says env m g a b c before_it d there go = go tt

    finish_says : (env : List ℕ) (n : ℕ) (long : length env ≡ n) (m : State) (home : Home items layout m) (s : TermState) (h : Scoped (length env) s) (a b : Shape) (d : Goal)
        (ua : Under (length env) a) (ub : Under (length env) b)
        → Says (finish s f a b d (λ t. rest n t)) env m (finished (dressed env m p s) (target env d) (applied f (worth env a) (worth env b) (coded env m.conditions s).carry))
    unfolding leave
    finish_says env n long m home s h a b d ua ub =
        let u : GivenUnder (length env) (given f a b) = given_under (length env) f a b ua ub in
        let s1 : TermState = coded_behind s f a b (given f a b).1 in
        guard_says env m f a b (coded env m.conditions s).carry (dressed env m p s) (target env d) (put s1 d (given f a b).0 (λ t. rest n t))
        (λ due. subst (λ (z : Option Computed). Says (put s1 d (given f a b).0 (λ t. rest n t)) env m (finished (dressed env m p s) (target env d) z)) (sym (given_is env m.conditions s f a b due))
        (put_says env m home s s1 refl
        (record { registers = h.registers; signs = u.1; carry = carry_under (length env) f a b s.carry ua ub h.carry })
        (λ t. rest n t) (λ k t hm sc. next env n k t long hm (subst (λ (z : ℕ). Scoped z t) long sc)) d (given f a b).0 u.0))

    pub compute_says : (env : List ℕ) (m : State) (home : Home items layout m) (s : TermState) (h : Scoped (length env) s) (ks : List OperandKind) (os : List Operand)
        → Says (compute layout (length env) s f ks os rest) env m
        (all_evaluated ks os (dressed env m p s) >>= λ (y : Arguments × State). finished y.1 y.0.destination (applied f y.0.first y.0.second y.1.conditions.carry))
    compute_says env m home s h ks os =
        operands_says items x x0 said k0 way going p m layout home.layout_is ks os env s (λ k z a b d. finish z f a b d (λ t. rest k t))
        (λ (y : Arguments × State). finished y.1 y.0.destination (applied f y.0.first y.0.second y.1.conditions.carry)) h
        (λ more n z t u d e long c a b g. finish_says more n long m home z (subst (λ (i : ℕ). Scoped i z) (sym long) c) t u d
        (subst (λ (i : ℕ). Under i t) (sym long) a) (subst (λ (i : ℕ). Under i u) (sym long) b))

  -- ---- pushes

  module _ (rest : ℕ → TermState → Option Tree) (next : Next rest) where
    -- N and Z are those of a longword
    abbrev valued_by : TermState → Shape → TermState
    valued_by s t = record s { signs = Tests Long t }

    -- the longword is stored, sp being set
    stored_says : (env : List ℕ) (n : ℕ) (long : length env ≡ n) (m : State) (home : Home items layout m) (s : TermState) (h : Scoped (length env) s) (a t : Shape) → Under (length env) t
        → Says (before (Stores Long a t) (rest n (valued_by s t))) env m
        (written (dressed env m p s) (worth env a) Long (worth env t) >>= leave (coded env m.conditions (valued_by s t)))
    stored_says env n long m home s h a t u =
        place_says env m home s (valued_by s t) refl (record { registers = h.registers; signs = u; carry = h.carry }) (λ z. rest n z)
        (λ k z hm sc. next env n k z long hm (subst (λ (i : ℕ). Scoped i z) long sc)) a Long t

    coded_valued : (env : List ℕ) (k : Conditions) (s : TermState) (t : Shape) → coded env k (valued_by s t) ≡ (valued Long (worth env t) (coded env k s).carry).conditions
    coded_valued env k s t = kept_by env k s.signs s.carry _ _

    push_number_says : (env : List ℕ) (n : ℕ) (long : length env ≡ n) (m : State) (home : Home items layout m) (s : TermState) (h : Scoped (length env) s) (t : Shape) → Under (length env) t
        → Says (push_number s t (λ z. rest n z)) env m (pushing (dressed env m p s) (worth env t))
    unfolding pushed leave
    push_number_says env n long m home s h t u =
        subst (λ (v : ℕ). Says (push_number s t (λ z. rest n z)) env m
        ((register_set (dressed env m p s) Sp (sub32 v 4) >>= λ (y : State). written y (sub32 v 4) Long (worth env t))
        >>= leave (valued Long (worth env t) (coded env m.conditions s).carry).conditions)) (sym (register_is env m p s Sp))
        (subst (λ (c : Conditions). Says (push_number s t (λ z. rest n z)) env m
        ((register_set (dressed env m p s) Sp (sub32 (worth env (in_register s Sp)) 4) >>= λ (y : State). written y (sub32 (worth env (in_register s Sp)) 4) Long (worth env t))
        >>= leave c)) (coded_valued env m.conditions s t)
        (subst (λ (z : Acts). Says (push_number s t (λ z. rest n z)) env m z)
        (sym (bind_assoc (register_set (dressed env m p s) Sp (sub32 (worth env (in_register s Sp)) 4))
        (λ (y : State). written y (sub32 (worth env (in_register s Sp)) 4) Long (worth env t)) (leave (coded env m.conditions (valued_by s t)))))
        (held_says items x x0 said k0 way going p env m s Sp (pushed_at s) (λ z. before (Stores Long (pushed_at s) t) (rest n (valued_by z t)))
        (λ (y : State). written y (sub32 (worth env (in_register s Sp)) 4) Long (worth env t) >>= leave (coded env m.conditions (valued_by s t)))
        (stored_says env n long m home (holding s 14 (pushed_at s)) (holding_scoped (length env) s 14 (pushed_at s) h (register_under (length env) s Sp h, tt)) (pushed_at s) t u))))

    pub push_says : (env : List ℕ) (m : State) (home : Home items layout m) (s : TermState) (h : Scoped (length env) s) (ks : List OperandKind) (os : List Operand)
        → Says (push layout (length env) s ks os rest) env m (all_evaluated ks os (dressed env m p s) >>= λ (y : Arguments × State). pushing y.1 y.0.first)
    push_says env m home s h ks os =
        operands_says items x x0 said k0 way going p m layout home.layout_is ks os env s (λ k z a b d. push_number z a (λ t. rest k t))
        (λ (y : Arguments × State). pushing y.1 y.0.first) h
        (λ more n z t u d e long c a b g. push_number_says more n long m home z (subst (λ (i : ℕ). Scoped i z) (sym long) c) t (subst (λ (i : ℕ). Under i t) (sym long) a))
