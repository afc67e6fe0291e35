-- The tree of an instruction's operands says what the machine does with them.
use Rattle.std.proofs.Common.{◌≡◌, get_or, ℕ, zero, suc, ◌+◌, ◌≤◌, Bool, true, false, cond, List, [], ◌∷◌, ◌++◌, length, Option, Some, None, Result, Ok, Err, refl, sym, ap, subst, ◌∙◌, arith}
use Rattle.std.proofs.Math.ListN.{get_or-map}
use Rattle.std.proofs.Math.Seq.{get_or-append_seam}
use Rattle.std.proofs.lemmas.List.{length-append, map-set}
use Rattle.std.specs.Prelude.{slice_set, ◌==◌, nat_lt, ◌&&◌}
use Rattle.vax_pairs.specs.gg_base.specs.declared.size.Size.{Size}
use Rattle.vax_pairs.specs.gg_base.specs.declared.size.Size.TheVariants.{Byte, Word, Long}
use Rattle.vax_pairs.specs.term_core.specs.Shape.{Shape, Constant, Symbol, Binary}
use Rattle.vax_pairs.specs.vax_core.specs.declared.register.Reg.{Reg}
use Rattle.vax_pairs.specs.vax_core.specs.declared.register.Reg.TheVariants.{R0, R1, R2, R3, R4, R5, R6, R7, R8, R9, R10, R11, Ap, Fp, Sp}
use Rattle.vax_pairs.specs.vax_core.specs.Registers.{reg_number}
use Rattle.vax_pairs.specs.vax_core.specs.declared.operand.Base.{Base}
use Rattle.vax_pairs.specs.vax_core.specs.declared.operand.Base.TheVariants as bases
use Rattle.vax_pairs.specs.vax_core.specs.declared.operand.Operand.{Operand}
use Rattle.vax_pairs.specs.vax_core.specs.declared.op.Access.{Access}
use Rattle.vax_pairs.specs.vax_core.specs.declared.op.Access.TheVariants as accesses
use Rattle.vax_pairs.specs.vax_core.specs.declared.op.OperandKind.{OperandKind}
use Rattle.vax_pairs.specs.vax_core.specs.declared.code.AreaItem.{AreaItem}
use Rattle.vax_pairs.specs.gg_base.specs.Arithmetic.{add32, sub32, mul32}
use Rattle.vax_pairs.specs.gg_base.specs.Sizes.{bytes_of}
use Rattle.vax_pairs.specs.term_core.specs.declared.operator.BinaryOp.TheVariants.{Add, Sub}
use Rattle.vax_pairs.specs.vax_core.specs.declared.code.CodeItem.{CodeItem}
use Rattle.vax_pairs.specs.vax_machine.specs.declared.turn.Stop.{Stop}
use Rattle.vax_pairs.specs.vax_machine.specs.declared.operands.Location.{Location}
use Rattle.vax_pairs.specs.vax_machine.specs.declared.operands.Location.TheVariants as locations
use Rattle.vax_pairs.specs.vax_machine.specs.declared.operands.Destination.{Destination}
use Rattle.vax_pairs.specs.vax_machine.specs.declared.operands.Evaluated.{Evaluated}
use Rattle.vax_pairs.specs.vax_machine.specs.declared.operands.Arguments.{Arguments}
use Rattle.vax_pairs.specs.vax_machine.specs.State.{State, reg, with_reg, stack_full, ◌>>=◌}
use Rattle.vax_pairs.specs.vax_machine.specs.Memory.{touched, read, register_set}
use Rattle.vax_pairs.specs.vax_machine.specs.Operands.{located, fetched, taken, evaluated, all_evaluated, in_front, last_of, only_number, with_destination}
use Rattle.vax_pairs.specs.vax_machine.specs.Operands.{deferred as deferred_in, indexed as indexed_in}
use Rattle.vax_pairs.specs.vax_machine.specs.Area.{resolved}
use Rattle.vax_pairs.specs.vax_machine.specs.Calls.{Acts}
use Rattle.vax_pairs.specs.Ways.{Way}
use Rattle.vax_pairs.specs.Events.{worth, Lowers}
use Rattle.vax_pairs.specs.TermStates.{TermState, coded, dressed}
use Rattle.vax_pairs.specs.Trees.{Tree}
use Rattle.vax_pairs.specs.TermOperands.{Spot, Number, Register, Place, Goal, Rest, Found, Taken, in_register, before, holding, set_register, deferred, locate, indexed, truncated, fetch, take}
use Rattle.vax_pairs.specs.TermOperands.{operand, operands, last_goal}
use Rattle.vax_pairs.specs.Scopes.{Under, AllUnder, Scoped}
use Rattle.vax_pairs_law.proofs.Telling.{Extends, extends_same, extends_one, extends_on, worth_more, scoped_more, dressed_more, reads_says, lowers_says, under_more, extends_long}
use Rattle.vax_pairs_law.proofs.Telling.{Says as TreeSays}

-- where a spot is
abbrev pub site : List ℕ → Spot → Location
site env (Number t) = locations.Number (worth env t)
site env (Register r) = locations.Register r
site env (Place a) = locations.Memory (worth env a)

abbrev pub target : List ℕ → Goal → Option Destination
target env None = None
target env (Some (l, size)) = Some (record { location = site env l; size = size })

abbrev pub SpotUnder : ℕ → Spot → Type 0
SpotUnder n (Number t) = Under n t
SpotUnder n (Register r) = Unit {0}
SpotUnder n (Place a) = Under n a

abbrev pub GoalUnder : ℕ → Goal → Type 0
GoalUnder n None = Unit {0}
GoalUnder n (Some (l, size)) = SpotUnder n l

site_more : (env more : List ℕ) (l : Spot) → Extends env more → SpotUnder (length env) l → site more l ≡ site env l
site_more env more (Number t) x h = ap (λ (v : ℕ). locations.Number v) (worth_more env more t x h)
site_more env more (Register r) x h = refl
site_more env more (Place a) x h = ap (λ (v : ℕ). locations.Memory v) (worth_more env more a x h)

target_more : (env more : List ℕ) (d : Goal) → Extends env more → GoalUnder (length env) d → target more d ≡ target env d
target_more env more None x h = refl
target_more env more (Some (l, size)) x h = ap (λ (s : Location). Some (record { location = s; size = size })) (site_more env more l x h)

goal_more : (n k : ℕ) (d : Goal) → n ≤ k → GoalUnder n d → GoalUnder k d
goal_more n k None le h = tt
goal_more n k (Some (Number t, size)) le h = under_more n k t le h
goal_more n k (Some (Register r, size)) le h = tt
goal_more n k (Some (Place a, size)) le h = under_more n k a le h

truncated_under : (n : ℕ) (size : Size) (t : Shape) → Under n t → Under n (truncated size t)
truncated_under n Byte t h = h
truncated_under n Word t h = h
truncated_under n Long t h = h

all_at : (n r : ℕ) (ts : List Shape) → AllUnder n ts → Under n (get_or ts r (Constant 0))
all_at n r [] h = tt
all_at n zero (t ∷ ts) h = h.0
all_at n (suc r) (t ∷ ts) h = all_at n r ts h.1

pub register_under : (n : ℕ) (s : TermState) (r : Reg) → Scoped n s → Under n (in_register s r)
register_under n s r h = all_at n (reg_number r) s.registers h.registers

pub register_is : (env : List ℕ) (m : State) (p : ℕ) (s : TermState) (r : Reg) → reg (dressed env m p s) r ≡ worth env (in_register s r)
register_is env m p s r = get_or-map (worth env) s.registers (reg_number r) (Constant 0)

pub read_dressed : (env : List ℕ) (m : State) (p : ℕ) (s : TermState) (a : ℕ) (size : Size) → read (dressed env m p s) a size ≡ read m a size
unfolding read touched
read_dressed env m p s a size = refl

-- associativity
pub bind_assoc : {A B C : Type 0} (r : Result A Stop) (f : A → Result B Stop) (g : B → Result C Stop) → (r >>= f) >>= g ≡ r >>= λ (a : A). f a >>= g
bind_assoc (Ok a) f g = refl
bind_assoc (Err e) f g = refl

-- ---- registers that are set

all_set : (n r : ℕ) (ts : List Shape) (t : Shape) → AllUnder n ts → Under n t → AllUnder n (slice_set ts r t)
all_set n r [] t h g = tt
all_set n zero (u ∷ ts) t h g = (g, h.1)
all_set n (suc r) (u ∷ ts) t h g = (h.0, all_set n r ts t h.1 g)

pub holding_scoped : (n : ℕ) (s : TermState) (r : ℕ) (t : Shape) → Scoped n s → Under n t → Scoped n (holding s r t)
holding_scoped n s r t h u = record { registers = all_set n r s.registers t h.registers u; signs = h.signs; carry = h.carry }

pub holding_is : (env : List ℕ) (m : State) (p : ℕ) (s : TermState) (r : Reg) (t : Shape) → dressed env m p (holding s (reg_number r) t) ≡ with_reg (dressed env m p s) r (worth env t)
holding_is env m p s r t =
    ap (λ (rs : List ℕ). record m { registers = rs; conditions = coded env m.conditions s; place = p }) (map-set (worth env) s.registers (reg_number r) t)

-- r0 to r11 are not sp
low_by : (r : Reg) → nat_lt (reg_number r) 12 ≡ true → (reg_number r == 14) ≡ false
low_by R0 h = refl
low_by R1 h = refl
low_by R2 h = refl
low_by R3 h = refl
low_by R4 h = refl
low_by R5 h = refl
low_by R6 h = refl
low_by R7 h = refl
low_by R8 h = refl
low_by R9 h = refl
low_by R10 h = refl
low_by R11 h = refl
low_by Ap h = refl
low_by Fp h = refl
low_by Sp h = absurd (cc)

set_low : (m : State) (r : Reg) (v : ℕ) → nat_lt (reg_number r) 12 ≡ true → register_set m r v ≡ Ok (with_reg m r v)
unfolding register_set
set_low m r v h = ap (λ (b : Bool). cond (b && nat_lt v 2139095040) (Err stack_full) (Ok (with_reg m r v))) (low_by r h)

set_sp : (m : State) (r : Reg) (v : ℕ) (c : Bool) → (reg_number r == 14) ≡ true → nat_lt v 2139095040 ≡ c → register_set m r v ≡ cond c (Err stack_full) (Ok (with_reg m r v))
unfolding register_set
set_sp m r v c e f =
    ap (λ (b : Bool). cond (b && nat_lt v 2139095040) (Err stack_full) (Ok (with_reg m r v))) e ∙ ap (λ (b : Bool). cond b (Err stack_full) (Ok (with_reg m r v))) f

module _ (items : List CodeItem) (x x0 : State) (said : List ℕ) (k0 : ℕ) (way : Way x0 x said k0) (going : x0.over ≡ None) where
  abbrev Says : Option Tree → List ℕ → State → Acts → Type 0
  Says t env m r = TreeSays items x x0 said k0 way going t env m r

  -- a register is set, by a tree that says what comes behind
  pub set_says : (env : List ℕ) (m : State) (r : Reg) (t : Shape) (there : Option Tree) (old : State) (K : State → Acts) → Says there env m (K (with_reg old r (worth env t)))
      → (low top : Bool) → nat_lt (reg_number r) 12 ≡ low → (reg_number r == 14) ≡ top
      → Says (cond low there (cond top (before (Lowers t) there) None)) env m (register_set old r (worth env t) >>= K)
  set_says env m r t there old K h true top e f = subst (λ (z : Result State Stop). Says there env m (z >>= K)) (sym (set_low old r (worth env t) e)) h
  set_says env m r t there old K h false true e f =
      lowers_says items x x0 said k0 way going t there env m _
      (λ g. subst (λ (z : Result State Stop). Says there env m (z >>= K)) (sym (set_sp old r (worth env t) false f g)) h)
      (λ g. ap (λ (z : Result State Stop). z >>= K) (set_sp old r (worth env t) true f g))
  set_says env m r t there old K h false false e f = tt

  module _ (p : ℕ) where
    pub held_says : (env : List ℕ) (m : State) (s : TermState) (r : Reg) (t : Shape) (there : TermState → Option Tree) (K : State → Acts)
        → Says (there (holding s (reg_number r) t)) env m (K (dressed env m p (holding s (reg_number r) t)))
        → Says (set_register s r t there) env m (register_set (dressed env m p s) r (worth env t) >>= K)
    held_says env m s r t there K h =
        set_says env m r t (there (holding s (reg_number r) t)) (dressed env m p s) K
        (subst (λ (z : State). Says (there (holding s (reg_number r) t)) env m (K z)) (holding_is env m p s r t) h)
        (nat_lt (reg_number r) 12) (reg_number r == 14) refl refl

    fetch_says : (env : List ℕ) (m : State) (s : TermState) (l : Spot) (size : Size) (rest : ℕ → Shape → Option Tree) (K : ℕ → Acts) → Scoped (length env) s → SpotUnder (length env) l
        → ((more : List ℕ) (n : ℕ) (t : Shape) → Extends env more → length more ≡ n → Under n t → Says (rest n t) more m (K (worth more t)))
        → Says (fetch (length env) s l size rest) env m (fetched (dressed env m p s) (site env l) size >>= K)
    fetch_says env m s (Number t) Byte rest K h u go = go env (length env) (truncated Byte t) (extends_same env) refl u
    fetch_says env m s (Number t) Word rest K h u go = go env (length env) (truncated Word t) (extends_same env) refl u
    fetch_says env m s (Number t) Long rest K h u go = go env (length env) (truncated Long t) (extends_same env) refl u
    fetch_says env m s (Register r) size rest K h u go = by size where
      by : (size : Size) → Says (rest (length env) (truncated size (in_register s r))) env m (fetched (dressed env m p s) (locations.Register r) size >>= K)
      by Byte = subst (λ (v : ℕ). Says (rest (length env) (truncated Byte (in_register s r))) env m (fetched (dressed env m p s) (locations.Number v) Byte >>= K)) (sym (register_is env m p s r))
          (go env (length env) (truncated Byte (in_register s r)) (extends_same env) refl (register_under (length env) s r h))
      by Word = subst (λ (v : ℕ). Says (rest (length env) (truncated Word (in_register s r))) env m (fetched (dressed env m p s) (locations.Number v) Word >>= K)) (sym (register_is env m p s r))
          (go env (length env) (truncated Word (in_register s r)) (extends_same env) refl (register_under (length env) s r h))
      by Long = subst (λ (v : ℕ). Says (rest (length env) (truncated Long (in_register s r))) env m (fetched (dressed env m p s) (locations.Number v) Long >>= K)) (sym (register_is env m p s r))
          (go env (length env) (truncated Long (in_register s r)) (extends_same env) refl (register_under (length env) s r h))
    fetch_says env m s (Place a) size rest K h u go =
        reads_says items x x0 said k0 way going size a (rest (length env + 1) (Symbol (length env))) env m _
        (λ v e. subst (λ (r : Acts). Says (rest (length env + 1) (Symbol (length env))) (env ++ v ∷ []) m r)
        (ap (λ (w : ℕ). K w) (get_or-append_seam env v [] 0) ∙ sym (ap (λ (z : Result ℕ Stop). z >>= K) (read_dressed env m p s (worth env a) size ∙ e)))
        (go (env ++ v ∷ []) (length env + 1) (Symbol (length env)) (extends_one env v) (length-append env (v ∷ [])) (omega arith)))
        (λ q e. ap (λ (z : Result ℕ Stop). z >>= K) (read_dressed env m p s (worth env a) size ∙ e))

    abbrev Evaluates : TermState → Rest → (Evaluated → Acts) → List ℕ → State → Type 0
    Evaluates s rest K env m = (more : List ℕ) (n : ℕ) (t : Shape) (d : Goal) → Extends env more → length more ≡ n → Under n t → GoalUnder n d
        → Says (rest n t d) more m (K (record { number = worth more t; destination = target more d }))

    take_says : (env : List ℕ) (m : State) (s : TermState) (a : Access) (l : Spot) (size : Size) (rest : Rest) (K : Evaluated → Acts) → Scoped (length env) s → SpotUnder (length env) l
        → Evaluates s rest K env m → Says (take (length env) s a l size rest) env m (taken (dressed env m p s) a (site env l) size >>= K)
    unfolding taken
    take_says env m s accesses.Read l size rest K h u go =
        subst (λ (r : Acts). Says (take (length env) s accesses.Read l size rest) env m r) (sym (bind_assoc (fetched (dressed env m p s) (site env l) size) (λ (v : ℕ). Ok (only_number v)) K))
        (fetch_says env m s l size (λ n t. rest n t None) (λ (v : ℕ). K (only_number v)) h u (λ more n t x e k. go more n t None x e k tt))
    take_says env m s accesses.Modify l size rest K h u go =
        subst (λ (r : Acts). Says (take (length env) s accesses.Modify l size rest) env m r)
        (sym (bind_assoc (fetched (dressed env m p s) (site env l) size) (λ (v : ℕ). Ok (with_destination v (site env l) size)) K))
        (fetch_says env m s l size (λ n t. rest n t (Some (l, size))) (λ (v : ℕ). K (with_destination v (site env l) size)) h u
        (λ more n t x e k. subst (λ (z : Location). Says (rest n t (Some (l, size))) more m (K (with_destination (worth more t) z size))) (site_more env more l x u)
        (go more n t (Some (l, size)) x e k (goal_more (length env) n (Some (l, size)) (let le = extends_long env more x in omega (arith, le, e)) u))))
    take_says env m s accesses.Write l size rest K h u go = go env (length env) (Constant 0) (Some (l, size)) (extends_same env) refl tt u
    take_says env m s accesses.Address (Number t) size rest K h u go = tt
    take_says env m s accesses.Address (Register r) size rest K h u go = tt
    take_says env m s accesses.Address (Place a) size rest K h u go = go env (length env) a None (extends_same env) refl u tt
    take_says env m s accesses.Count l size rest K h u go = tt

    -- ---- where an operand stands

    abbrev Finds : Found → (Location × State → Acts) → List ℕ → State → Type 0
    Finds rest K env m = (more : List ℕ) (n : ℕ) (z : TermState) (l : Spot) → Extends env more → length more ≡ n → Scoped n z → SpotUnder n l
        → Says (rest n z l) more m (K (site more l, dressed more m p z))

    module _ (env : List ℕ) (m : State) (rest : Found) (K : Location × State → Acts) (go : Finds rest K env m) where
      stands : (s : TermState) (l : Spot) → Scoped (length env) s → SpotUnder (length env) l → Says (rest (length env) s l) env m (K (site env l, dressed env m p s))
      stands s l h u = go env (length env) s l (extends_same env) refl h u

      read_so : (s : TermState) (a : ℕ) (r : Result ℕ Stop) → read m a Long ≡ r
          → ((deferred_in (dressed env m p s) a) >>= K) ≡ ((r >>= λ (v : ℕ). Ok (locations.Memory v, dressed env m p s)) >>= K)
      read_so s a r e = ap (λ (t : Result ℕ Stop). (t >>= λ (v : ℕ). Ok (locations.Memory v, dressed env m p s)) >>= K) (read_dressed env m p s a Long ∙ e)

      deferred_says : (s : TermState) (a : Shape) → Scoped (length env) s → Under (length env) a
          → Says (deferred (length env) s a rest) env m (deferred_in (dressed env m p s) (worth env a) >>= K)
      deferred_says s a h u =
          reads_says items x x0 said k0 way going Long a (rest (length env + 1) s (Place (Symbol (length env)))) env m _
          (λ v e.
          let more : List ℕ = env ++ v ∷ [] in
          let long : length more ≡ length env + 1 = length-append env (v ∷ []) in
          subst (λ (r : Acts). Says (rest (length env + 1) s (Place (Symbol (length env)))) more m r)
          (ap (λ (w : ℕ). K (locations.Memory w, dressed more m p s)) (get_or-append_seam env v [] 0)
          ∙ ap (λ (z : State). K (locations.Memory v, z)) (dressed_more env more m p s (extends_one env v) h)
          ∙ sym (read_so s (worth env a) (Ok v) e))
          (go more (length env + 1) s (Place (Symbol (length env))) (extends_one env v) long
          (subst (λ (i : ℕ). Scoped i s) long (scoped_more env more s (extends_one env v) h)) (omega arith)))
          (λ q e. read_so s (worth env a) (Err q) e)

      module _ (s : TermState) (h : Scoped (length env) s) where
        -- a register stands for its term
        by_register : (r : Reg) (t : Option Tree) (F : ℕ → Acts) → Says t env m (F (worth env (in_register s r))) → Says t env m (F (reg (dressed env m p s) r))
        by_register r t F k = subst (λ (v : ℕ). Says t env m (F v)) (sym (register_is env m p s r)) k

        -- a register is stepped
        step_says : (r : Reg) (t : Shape) (there : TermState → Option Tree) (L : State → Result (Location × State) Stop) → Under (length env) t
            → (Scoped (length env) (holding s (reg_number r) t)
            → Says (there (holding s (reg_number r) t)) env m (L (dressed env m p (holding s (reg_number r) t)) >>= K))
            → Says (set_register s r t there) env m ((register_set (dressed env m p s) r (worth env t) >>= L) >>= K)
        step_says r t there L u k =
            subst (λ (z : Acts). Says (set_register s r t there) env m z) (sym (bind_assoc (register_set (dressed env m p s) r (worth env t)) L K))
            (held_says env m s r t there (λ (n : State). L n >>= K) (k (holding_scoped (length env) s (reg_number r) t h u)))

        locate_by : (b : Base) (size : Size) → Says (locate m.layout (length env) s b size rest) env m (located (dressed env m p s) b size >>= K)
        unfolding located
        locate_by (bases.Imm a) size = stands s (Number (Constant (resolved m.layout a))) h tt
        locate_by (bases.Reg r) size = stands s (Register r) h tt
        locate_by (bases.Def r) size =
            by_register r _ (λ (v : ℕ). K (locations.Memory v, dressed env m p s)) (stands s (Place (in_register s r)) h (register_under (length env) s r h))
        locate_by (bases.Inc r) size =
            by_register r _ (λ (v : ℕ). (register_set (dressed env m p s) r (add32 v (bytes_of size)) >>= λ (n : State). Ok (locations.Memory v, n)) >>= K)
            (step_says r (Binary Add (in_register s r) (Constant (bytes_of size))) (λ z. rest (length env) z (Place (in_register s r)))
            (λ (n : State). Ok (locations.Memory (worth env (in_register s r)), n)) (register_under (length env) s r h, tt)
            (λ g. stands _ (Place (in_register s r)) g (register_under (length env) s r h)))
        locate_by (bases.IncDef r) size =
            by_register r _ (λ (v : ℕ). (register_set (dressed env m p s) r (add32 v 4) >>= λ (n : State). deferred_in n v) >>= K)
            (step_says r (Binary Add (in_register s r) (Constant 4)) (λ z. deferred (length env) z (in_register s r) rest)
            (λ (n : State). deferred_in n (worth env (in_register s r))) (register_under (length env) s r h, tt)
            (λ g. deferred_says _ (in_register s r) g (register_under (length env) s r h)))
        locate_by (bases.Dec r) size =
            by_register r _ (λ (v : ℕ). (register_set (dressed env m p s) r (sub32 v (bytes_of size)) >>= λ (n : State). Ok (locations.Memory (sub32 v (bytes_of size)), n)) >>= K)
            (step_says r (Binary Sub (in_register s r) (Constant (bytes_of size)))
            (λ z. rest (length env) z (Place (Binary Sub (in_register s r) (Constant (bytes_of size)))))
            (λ (n : State). Ok (locations.Memory (sub32 (worth env (in_register s r)) (bytes_of size)), n)) (register_under (length env) s r h, tt)
            (λ g. stands _ (Place (Binary Sub (in_register s r) (Constant (bytes_of size)))) g (register_under (length env) s r h, tt)))
        locate_by (bases.Disp d r) size =
            by_register r _ (λ (v : ℕ). K (locations.Memory (add32 (resolved m.layout d) v), dressed env m p s))
            (stands s (Place (Binary Add (Constant (resolved m.layout d)) (in_register s r))) h (tt, register_under (length env) s r h))
        locate_by (bases.DispDef d r) size =
            by_register r _ (λ (v : ℕ). deferred_in (dressed env m p s) (add32 (resolved m.layout d) v) >>= K)
            (deferred_says s (Binary Add (Constant (resolved m.layout d)) (in_register s r)) h (tt, register_under (length env) s r h))
        locate_by (bases.Abs n) size = stands s (Place (Constant n)) h tt
        locate_by (bases.Rel a) size = stands s (Place (Constant (resolved m.layout a))) h tt
        locate_by (bases.RelDef a) size = deferred_says s (Constant (resolved m.layout a)) h tt

        locate_says : (layout : List AreaItem) → m.layout ≡ layout → (b : Base) (size : Size)
            → Says (locate layout (length env) s b size rest) env m (located (dressed env m p s) b size >>= K)
        locate_says layout same b size =
            subst (λ (l : List AreaItem). Says (locate l (length env) s b size rest) env m (located (dressed env m p s) b size >>= K)) same (locate_by b size)

    indexed_is : (env : List ℕ) (m : State) (s : TermState) (l : Spot) (index : Option Reg) (size : Size)
        → indexed_in (dressed env m p s) (site env l) index size ≡ site env (indexed s l index size)
    indexed_is env m s l None size = refl
    indexed_is env m s (Number t) (Some r) size = refl
    indexed_is env m s (Register q) (Some r) size = refl
    indexed_is env m s (Place a) (Some r) size = ap (λ (v : ℕ). locations.Memory (add32 (worth env a) (mul32 v (bytes_of size)))) (register_is env m p s r)

    indexed_under : (n : ℕ) (s : TermState) (l : Spot) (index : Option Reg) (size : Size) → Scoped n s → SpotUnder n l → SpotUnder n (indexed s l index size)
    indexed_under n s l None size h u = u
    indexed_under n s (Number t) (Some r) size h u = u
    indexed_under n s (Register q) (Some r) size h u = tt
    indexed_under n s (Place a) (Some r) size h u = (u, (register_under n s r h, tt))

    -- ---- one operand

    abbrev One : Type 0
    One = ℕ → TermState → Shape → Goal → Option Tree

    abbrev EvaluatesTo : One → (Evaluated × State → Acts) → List ℕ → State → Type 0
    EvaluatesTo rest K env m = (more : List ℕ) (n : ℕ) (z : TermState) (t : Shape) (d : Goal) → Extends env more → length more ≡ n → Scoped n z → Under n t → GoalUnder n d
        → Says (rest n z t d) more m (K (record { number = worth more t; destination = target more d }, dressed more m p z))

    -- what is taken of an operand that stands there
    abbrev taking : OperandKind → Option Reg → Location × State → Result (Evaluated × State) Stop
    taking k index z = taken z.1 k.access (indexed_in z.1 z.0 index k.size) k.size >>= λ (e : Evaluated). Ok (e, z.1)

    module _ (k : OperandKind) (index : Option Reg) (rest : One) (K : Evaluated × State → Acts) where
      spot_says : (env : List ℕ) (m : State) (s : TermState) (l : Spot) → EvaluatesTo rest K env m → Scoped (length env) s → SpotUnder (length env) l
          → Says (take (length env) s k.access (indexed s l index k.size) k.size (λ j t d. rest j s t d)) env m (taking k index (site env l, dressed env m p s) >>= K)
      spot_says env m s l go h u =
          let at : Spot = indexed s l index k.size in
          subst (λ (r : Acts). Says (take (length env) s k.access at k.size (λ j t d. rest j s t d)) env m r)
          (sym (bind_assoc (taken (dressed env m p s) k.access (site env at) k.size) (λ (e : Evaluated). Ok (e, dressed env m p s)) K)
          ∙ ap (λ (w : Location). (taken (dressed env m p s) k.access w k.size >>= λ (e : Evaluated). Ok (e, dressed env m p s)) >>= K) (sym (indexed_is env m s l index k.size)))
          (take_says env m s k.access at k.size (λ j t d. rest j s t d) (λ (e : Evaluated). K (e, dressed env m p s)) h
          (indexed_under (length env) s l index k.size h u)
          (λ more n t d x e f g. subst (λ (z : State). Says (rest n s t d) more m (K (record { number = worth more t; destination = target more d }, z))) (dressed_more env more m p s x h)
          (go more n s t d x e (subst (λ (i : ℕ). Scoped i s) e (scoped_more env more s x h)) f g)))

      operand_by : (env : List ℕ) (m : State) (s : TermState) (h : Scoped (length env) s) (b : Base) (layout : List AreaItem) → m.layout ≡ layout → EvaluatesTo rest K env m
          → Says (operand layout (length env) s k b index rest) env m (evaluated (dressed env m p s) k (record { base = b; index = index }) >>= K)
      unfolding evaluated
      operand_by env m s h b layout same go =
          subst (λ (r : Acts). Says (operand layout (length env) s k b index rest) env m r) (sym (bind_assoc (located (dressed env m p s) b k.size) (taking k index) K))
          (locate_says env m (λ i z l. take i z k.access (indexed z l index k.size) k.size (λ j t d. rest j z t d)) (λ (z : Location × State). taking k index z >>= K)
          (λ more n z l x e g u.
          subst (λ (i : ℕ). Says (take i z k.access (indexed z l index k.size) k.size (λ j t d. rest j z t d)) more m (taking k index (site more l, dressed more m p z) >>= K)) e
          (spot_says more m z l (λ last i y t d w f a b c. go last i y t d (extends_on env more last x w) f a b c)
          (subst (λ (i : ℕ). Scoped i z) (sym e) g) (subst (λ (i : ℕ). SpotUnder i l) (sym e) u)))
          s h layout same b k.size)

    -- ---- all operands

    last_target : (env : List ℕ) (d e : Goal) → last_of (target env d) (target env e) ≡ target env (last_goal d e)
    last_target env d None = refl
    last_target env d (Some (l, size)) = refl

    last_under : (n : ℕ) (d e : Goal) → GoalUnder n d → GoalUnder n e → GoalUnder n (last_goal d e)
    last_under n d None h g = h
    last_under n d (Some (l, size)) h g = g

    abbrev Ends : Taken → (Arguments × State → Acts) → List ℕ → State → Type 0
    Ends rest K env m = (more : List ℕ) (n : ℕ) (z : TermState) (t u : Shape) (d : Goal) → Extends env more → length more ≡ n → Scoped n z → Under n t → Under n u → GoalUnder n d
        → Says (rest n z t u d) more m (K (record { first = worth more t; second = worth more u; destination = target more d }, dressed more m p z))

    module _ (m : State) (layout : List AreaItem) (same : m.layout ≡ layout) where
      behind_operand : List OperandKind → List Operand → (Arguments × State → Acts) → Evaluated × State → Acts
      behind_operand ks os K z = all_evaluated ks os z.1 >>= λ (y : Arguments × State). K (in_front z.0 y.0, y.1)

      together : (ks : List OperandKind) (os : List Operand) (K : Arguments × State → Acts) (r : Result (Evaluated × State) Stop)
          → ((r >>= λ (z : Evaluated × State). all_evaluated ks os z.1 >>= λ (y : Arguments × State). Ok (in_front z.0 y.0, y.1)) >>= K) ≡ (r >>= behind_operand ks os K)
      unfolding behind_operand
      together ks os K (Ok z) = bind_assoc (all_evaluated ks os z.1) (λ (y : Arguments × State). Ok (in_front z.0 y.0, y.1)) K
      together ks os K (Err e) = refl

      pub operands_says : (ks : List OperandKind) (os : List Operand) (env : List ℕ) (s : TermState) (rest : Taken) (K : Arguments × State → Acts) → Scoped (length env) s → Ends rest K env m
          → Says (operands layout (length env) s ks os rest) env m (all_evaluated ks os (dressed env m p s) >>= K)
      unfolding behind_operand
      operands_says [] os env s rest K h go = go env (length env) s (Constant 0) (Constant 0) None (extends_same env) refl h tt tt tt
      operands_says (k ∷ ks) [] env s rest K h go = tt
      operands_says (k ∷ ks) (o ∷ os) env s rest K h go =
          subst (λ (r : Acts). Says (operands layout (length env) s (k ∷ ks) (o ∷ os) rest) env m r) (sym (together ks os K (evaluated (dressed env m p s) k o)))
          (operand_by k o.index (λ i z t d. operands layout i z ks os (λ j y u w e. rest j y t u (last_goal d e))) (behind_operand ks os K) env m s h o.base layout same
          (λ more n z t d x e c u g.
          subst (λ (i : ℕ). Says (operands layout i z ks os (λ j y v w f. rest j y t v (last_goal d f))) more m
          (behind_operand ks os K (record { number = worth more t; destination = target more d }, dressed more m p z))) e
          (operands_says ks os more z (λ j y v w f. rest j y t v (last_goal d f)) (λ (y : Arguments × State). K (in_front (record { number = worth more t; destination = target more d }) y.0, y.1))
          (subst (λ (i : ℕ). Scoped i z) (sym e) c)
          (λ last i r v w f y l q a b j.
          let ue : Under (length more) t = subst (λ (z : ℕ). Under z t) (sym e) u in
          let ge : GoalUnder (length more) d = subst (λ (z : ℕ). GoalUnder z d) (sym e) g in
          let le : length more ≤ i = (let q = extends_long more last y in omega (arith, q, l)) in
          subst (λ (z : Arguments). Says (rest i r t v (last_goal d f)) last m (K (z, dressed last m p r)))
          (same_arguments more last t v d f y ue ge)
          (go last i r t v (last_goal d f) (extends_on env more last x y) l q
          (under_more (length more) i t le ue) a (last_under i d f (goal_more (length more) i d le ge) j)))))) where
            same_arguments : (more last : List ℕ) (t v : Shape) (d f : Goal) → Extends more last → Under (length more) t → GoalUnder (length more) d
                → record { first = worth last t; second = worth last v; destination = target last (last_goal d f) }
                ≡ in_front (record { number = worth more t; destination = target more d }) (record { first = worth last v; second = 0; destination = target last f })
            same_arguments more last t v d f y u g =
                ap (λ (z : ℕ). record { first = z; second = worth last v; destination = target last (last_goal d f) }) (worth_more more last t y u)
                ∙ ap (λ (z : Option Destination). record { first = worth more t; second = worth last v; destination = z })
                (sym (last_target last d f) ∙ ap (λ (z : Option Destination). last_of z (target last f)) (target_more more last d y g))
