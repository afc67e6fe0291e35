-- What instructions do without what comes behind them, and the definitions that take that as an argument.
use Rattle.std.proofs.Common.{◌≡◌, ℕ, ◌+◌, Bool, true, false, cond, List, [], ◌∷◌, ◌++◌, Option, Some, None, refl, sym, ap, ◌∙◌}
use Rattle.std.specs.Prelude.{nat_lt, ◌==◌}
use Rattle.std.specs.Str.{bytes_eq}
use Rattle.gg_base.specs.declared.size.Size.{Size}
use Rattle.gg_base.specs.declared.size.Size.TheVariants.{Byte, Word, Long}
use Rattle.gg_base.specs.Sizes.{bytes_of}
use Rattle.term_core.specs.declared.operator.BinaryOp.TheVariants.{Add, Sub}
use Rattle.term_core.specs.declared.operator.UnaryOp.TheVariants.{Zx8}
use Rattle.term_core.specs.Shape.{Shape, Constant, Symbol, Unary, Binary}
use Rattle.vax_core.specs.declared.register.Reg.{Reg}
use Rattle.vax_core.specs.declared.register.Reg.TheVariants.{Sp}
use Rattle.vax_core.specs.Registers.{reg_number}
use Rattle.vax_core.specs.declared.operand.Base.{Base}
use Rattle.vax_core.specs.declared.operand.Base.TheVariants as bases
use Rattle.vax_core.specs.declared.operand.Operand.{Operand}
use Rattle.vax_core.specs.declared.op.Access.{Access}
use Rattle.vax_core.specs.declared.op.Access.TheVariants as accesses
use Rattle.vax_core.specs.declared.op.OperandKind.{OperandKind}
use Rattle.vax_core.specs.declared.code.AreaItem.{AreaItem}
use Rattle.vax_core.specs.declared.code.CodeItem.{CodeItem}
use Rattle.vax_core.specs.declared.code.CodeItem.TheVariants as item_kind
use Rattle.vax_core.specs.First.{putchar_name}
use Rattle.vax_core.specs.Ops.{shape}
use Rattle.vax_machine.specs.declared.function.Action.{Action}
use Rattle.vax_machine.specs.declared.function.Action.TheVariants as action
use Rattle.vax_machine.specs.declared.function.Function.{Function}
use Rattle.vax_machine.specs.declared.function.Function.TheVariants as functions
use Rattle.vax_machine.specs.declared.function.Test.{Test}
use Rattle.vax_machine.specs.declared.function.Test.TheVariants as test
use Rattle.vax_machine.specs.Functions.{action_of}
use Rattle.vax_machine.specs.Labels.{getchar_name}
use Rattle.vax_machine.specs.Area.{resolved}
use Rattle.vax_pairs.specs.Events.{Event, Reads, Stores, Lowers, Divides, Gets, Puts}
use Rattle.vax_pairs.specs.TermStates.{TermState}
use Rattle.vax_pairs.specs.Trees.{Tree, CallsHere}
use Rattle.vax_pairs.specs.TermOperands.{Spot, Number, Register, Place, Goal, Found, in_register, before, holding, set_register, deferred, locate, indexed}
use Rattle.vax_pairs.specs.TermOperands.{fetch, take, operand, operands, last_goal}
use Rattle.vax_pairs.specs.TermOperands.{Taken as Behind}
use Rattle.vax_pairs.specs.TermResults.{given, coded_behind, put, guarded, finish, compute, pushed_at, push}
use Rattle.vax_pairs.specs.TermResults.{push_number as push_tree}
use Rattle.vax_pairs.specs.TermRuns.{uncoded, put_tree, get_tree, call_named, call_based, call_tree, counts, branch_tree, action_tree, item_tree, run_tree}
use Rattle.vax_pairs_walk.specs.Taking.{Front, emitting, reading, in_state, set_in, answering, deferred_at, then_deferred, located, Taken, fetched, with_goal, taken}
use Rattle.vax_pairs_walk.specs.Taking.{taken_at, evaluated, Arguments, then_front, then_others, all_evaluated}
use Rattle.vax_pairs_walk.specs.Computing.{put_at, guarded_in, coded_in, finished, done_by, computed, valued_by, stored_at, push_number, pushed_by, pushed, written_in, byte_written, byte_read}
use Rattle.vax_pairs_walk.specs.Stepping.{Step, On, Calls, Halt, branched, called_named, called_based, called, counted, still, acted, stepped_at}
use Rattle.vax_pairs_walk.specs.Pieces.{emits, emitted, after}

-- ---- events

pub emitted_none : (es : List Event) → emitted es None ≡ None
emitted_none [] = refl
emitted_none (e ∷ es) = ap (before e) (emitted_none es)

pub emitted_behind : (es fs : List Event) (t : Option Tree) → emitted (es ++ fs) t ≡ emitted es (emitted fs t)
emitted_behind [] fs t = refl
emitted_behind (e ∷ es) fs t = ap (before e) (emitted_behind es fs t)

pub emitted_some : (es : List Event) (t : Tree) → emitted es (Some t) ≡ Some (emits es t)
emitted_some [] t = refl
emitted_some (e ∷ es) t = ap (before e) (emitted_some es t)

-- one event more
emitted_one : (es : List Event) (e : Event) (t : Option Tree) → emitted es (before e t) ≡ emitted (es ++ e ∷ []) t
emitted_one es e t = sym (emitted_behind es (e ∷ []) t)

-- ---- the tree behind a front

abbrev from_front : Option Front → (ℕ → TermState → Option Tree) → Option Tree
from_front None rest = None
from_front (Some x) rest = emitted x.events (rest x.known x.state)

set_by : (x : Front) (r : ℕ) (t : Shape) (rest : ℕ → TermState → Option Tree) (low top : Bool)
    → emitted x.events (cond low (rest x.known (holding x.state r t)) (cond top (before (Lowers t) (rest x.known (holding x.state r t))) None))
    ≡ from_front (cond low (Some (in_state x (holding x.state r t))) (cond top (Some (in_state (emitting x (Lowers t)) (holding x.state r t))) None)) rest
set_by x r t rest true top = refl
set_by x r t rest false true = emitted_one x.events (Lowers t) (rest x.known (holding x.state r t))
set_by x r t rest false false = emitted_none x.events

set_is : (x : Front) (r : Reg) (t : Shape) (rest : ℕ → TermState → Option Tree)
    → emitted x.events (set_register x.state r t (λ s. rest x.known s)) ≡ from_front (set_in x r t) rest
set_is x r t rest = set_by x (reg_number r) t rest (nat_lt (reg_number r) 12) (reg_number r == 14)

-- ---- where an operand stands

abbrev from_spot : Option (Spot × Front) → Found → Option Tree
from_spot None rest = None
from_spot (Some y) rest = emitted y.1.events (rest y.1.known y.1.state y.0)

answering_is : (l : Spot) (y : Option Front) (rest : Found) → from_front y (λ n s. rest n s l) ≡ from_spot (answering l y) rest
answering_is l None rest = refl
answering_is l (Some x) rest = refl

deferred_is : (x : Front) (a : Shape) (rest : Found) → emitted x.events (deferred x.known x.state a rest) ≡ from_spot (Some (deferred_at a x)) rest
deferred_is x a rest = emitted_one x.events (Reads Long a) _

then_deferred_is : (a : Shape) (y : Option Front) (rest : Found) → from_front y (λ n s. deferred n s a rest) ≡ from_spot (then_deferred a y) rest
then_deferred_is a None rest = refl
then_deferred_is a (Some x) rest = deferred_is x a rest

locate_is : (layout : List AreaItem) (x : Front) (b : Base) (size : Size) (rest : Found)
    → emitted x.events (locate layout x.known x.state b size rest) ≡ from_spot (located layout x b size) rest
locate_is layout x (bases.Imm a) size rest = refl
locate_is layout x (bases.Reg r) size rest = refl
locate_is layout x (bases.Def r) size rest = refl
locate_is layout x (bases.Inc r) size rest =
    set_is x r (Binary Add (in_register x.state r) (Constant (bytes_of size))) (λ n s. rest n s (Place (in_register x.state r)))
    ∙ answering_is (Place (in_register x.state r)) (set_in x r (Binary Add (in_register x.state r) (Constant (bytes_of size)))) rest
locate_is layout x (bases.IncDef r) size rest =
    set_is x r (Binary Add (in_register x.state r) (Constant 4)) (λ n s. deferred n s (in_register x.state r) rest)
    ∙ then_deferred_is (in_register x.state r) (set_in x r (Binary Add (in_register x.state r) (Constant 4))) rest
locate_is layout x (bases.Dec r) size rest =
    let a : Shape = Binary Sub (in_register x.state r) (Constant (bytes_of size)) in
    set_is x r a (λ n s. rest n s (Place a)) ∙ answering_is (Place a) (set_in x r a) rest
locate_is layout x (bases.Disp d r) size rest = refl
locate_is layout x (bases.DispDef d r) size rest = deferred_is x (Binary Add (Constant (resolved layout d)) (in_register x.state r)) rest
locate_is layout x (bases.Abs a) size rest = refl
locate_is layout x (bases.Rel a) size rest = refl
locate_is layout x (bases.RelDef a) size rest = deferred_is x (Constant (resolved layout a)) rest

-- ---- what is taken of operands

abbrev One : Type 0
One = ℕ → TermState → Shape → Goal → Option Tree

abbrev from_one : Option (Taken × Front) → One → Option Tree
from_one None rest = None
from_one (Some y) rest = emitted y.1.events (rest y.1.known y.1.state y.0.number y.0.goal)

fetch_is : (x : Front) (l : Spot) (size : Size) (d : Goal) (rest : One)
    → emitted x.events (fetch x.known x.state l size (λ k t. rest k x.state t d)) ≡ from_one (Some (with_goal d (fetched x l size))) rest
fetch_is x (Number t) size d rest = refl
fetch_is x (Register r) size d rest = refl
fetch_is x (Place a) size d rest = emitted_one x.events (Reads size a) _

take_is : (x : Front) (a : Access) (l : Spot) (size : Size) (rest : One)
    → emitted x.events (take x.known x.state a l size (λ k t d. rest k x.state t d)) ≡ from_one (taken x a l size) rest
take_is x accesses.Read l size rest = fetch_is x l size None rest
take_is x accesses.Modify l size rest = fetch_is x l size (Some (l, size)) rest
take_is x accesses.Write l size rest = refl
take_is x accesses.Address (Number t) size rest = emitted_none x.events
take_is x accesses.Address (Register r) size rest = emitted_none x.events
take_is x accesses.Address (Place a) size rest = refl
take_is x accesses.Count l size rest = emitted_none x.events

taken_is : (k : OperandKind) (index : Option Reg) (y : Option (Spot × Front)) (rest : One)
    → from_spot y (λ n s l. take n s k.access (indexed s l index k.size) k.size (λ j t d. rest j s t d)) ≡ from_one (taken_at k index y) rest
taken_is k index None rest = refl
taken_is k index (Some y) rest = take_is y.1 k.access (indexed y.1.state y.0 index k.size) k.size rest

operand_is : (layout : List AreaItem) (x : Front) (k : OperandKind) (b : Base) (index : Option Reg) (rest : One)
    → emitted x.events (operand layout x.known x.state k b index rest) ≡ from_one (evaluated layout x k b index) rest
operand_is layout x k b index rest =
    locate_is layout x b k.size (λ n s l. take n s k.access (indexed s l index k.size) k.size (λ j t d. rest j s t d))
    ∙ taken_is k index (located layout x b k.size) rest

abbrev from_all : Option (Arguments × Front) → Behind → Option Tree
from_all None rest = None
from_all (Some y) rest = emitted y.1.events (rest y.1.known y.1.state y.0.first y.0.second y.0.goal)

front_is : (t : Taken) (y : Option (Arguments × Front)) (rest : Behind)
    → from_all y (λ j s u w e. rest j s t.number u (last_goal t.goal e)) ≡ from_all (then_front t y) rest
front_is t None rest = refl
front_is t (Some y) rest = refl

pub operands_are : (layout : List AreaItem) (ks : List OperandKind) (os : List Operand) (x : Front) (rest : Behind)
    → emitted x.events (operands layout x.known x.state ks os rest) ≡ from_all (all_evaluated layout x ks os) rest
operands_are layout [] os x rest = refl
operands_are layout (k ∷ ks) [] x rest = emitted_none x.events
operands_are layout (k ∷ ks) (o ∷ os) x rest =
    operand_is layout x k o.base o.index (λ i s t d. operands layout i s ks os (λ j z u w e. rest j z t u (last_goal d e)))
    ∙ others (λ y more. operands_are layout ks os y more) (evaluated layout x k o.base o.index) where
      others : ((y : Front) (more : Behind) → emitted y.events (operands layout y.known y.state ks os more) ≡ from_all (all_evaluated layout y ks os) more)
          → (y : Option (Taken × Front)) → from_one y (λ i s t d. operands layout i s ks os (λ j z u w e. rest j z t u (last_goal d e)))
          ≡ from_all (then_others y (λ z. all_evaluated layout z ks os)) rest
      others behind None = refl
      others behind (Some y) =
          behind y.1 (λ j z u w e. rest j z y.0.number u (last_goal y.0.goal e)) ∙ front_is y.0 (all_evaluated layout y.1 ks os) rest

-- ---- results

put_is : (x : Front) (d : Goal) (t : Shape) (rest : ℕ → TermState → Option Tree)
    → emitted x.events (put x.state d t (λ z. rest x.known z)) ≡ from_front (put_at x d t) rest
put_is x None t rest = refl
put_is x (Some (Number u, size)) t rest = emitted_none x.events
put_is x (Some (Register r, Long)) t rest = set_is x r t rest
put_is x (Some (Register r, Byte)) t rest = emitted_none x.events
put_is x (Some (Register r, Word)) t rest = emitted_none x.events
put_is x (Some (Place a, size)) t rest = emitted_one x.events (Stores size a t) _

guard_is : (f : Function) (x : Front) (a : Shape) (there : ℕ → TermState → Option Tree)
    → emitted x.events (guarded f a (there x.known x.state)) ≡ emitted (guarded_in x f a).events (there (guarded_in x f a).known (guarded_in x f a).state)
guard_is functions.Divide x a there = emitted_one x.events (Divides a) _
guard_is f x a there = refl

finish_is : (x : Front) (f : Function) (y : Arguments) (rest : ℕ → TermState → Option Tree)
    → emitted x.events (finish x.state f y.first y.second y.goal (λ t. rest x.known t)) ≡ from_front (finished x f y) rest
finish_is x f y rest =
    guard_is f x y.first (λ n s. put (coded_behind s f y.first y.second (given f y.first y.second).1) y.goal (given f y.first y.second).0 (λ t. rest n t))
    ∙ put_is (coded_in (guarded_in x f y.first) f y) y.goal (given f y.first y.second).0 rest

pub compute_is : (layout : List AreaItem) (x : Front) (f : Function) (ks : List OperandKind) (os : List Operand)
    (rest : ℕ → TermState → Option Tree)
    → emitted x.events (compute layout x.known x.state f ks os rest) ≡ from_front (computed layout x f ks os) rest
compute_is layout x f ks os rest =
    operands_are layout ks os x (λ k z a b d. finish z f a b d (λ t. rest k t)) ∙ by (all_evaluated layout x ks os) where
      by : (y : Option (Arguments × Front)) → from_all y (λ k z a b d. finish z f a b d (λ t. rest k t)) ≡ from_front (done_by f y) rest
      by None = refl
      by (Some y) = finish_is y.1 f y.0 rest

stored_is : (a t : Shape) (y : Option Front) (rest : ℕ → TermState → Option Tree)
    → from_front y (λ n z. before (Stores Long a t) (rest n (valued_by z t))) ≡ from_front (stored_at a t y) rest
stored_is a t None rest = refl
stored_is a t (Some x) rest = emitted_one x.events (Stores Long a t) _

number_is : (x : Front) (t : Shape) (rest : ℕ → TermState → Option Tree)
    → emitted x.events (push_tree x.state t (λ z. rest x.known z)) ≡ from_front (push_number x t) rest
number_is x t rest =
    set_is x Sp (pushed_at x.state) (λ n z. before (Stores Long (pushed_at x.state) t) (rest n (valued_by z t)))
    ∙ stored_is (pushed_at x.state) t (set_in x Sp (pushed_at x.state)) rest

pub push_is : (layout : List AreaItem) (x : Front) (ks : List OperandKind) (os : List Operand) (rest : ℕ → TermState → Option Tree)
    → emitted x.events (push layout x.known x.state ks os rest) ≡ from_front (pushed layout x ks os) rest
push_is layout x ks os rest =
    operands_are layout ks os x (λ k z a b d. push_tree z a (λ t. rest k t)) ∙ by (all_evaluated layout x ks os) where
      by : (y : Option (Arguments × Front)) → from_all y (λ k z a b d. push_tree z a (λ t. rest k t)) ≡ from_front (pushed_by y) rest
      by None = refl
      by (Some y) = number_is y.1 y.0.first rest

-- ---- services

written_is : (b : Shape) (y : Option Front) (rest : ℕ → TermState → Option Tree)
    → from_front y (λ n z. before (Puts b) (rest n (uncoded (holding z 0 b)))) ≡ from_front (written_in b y) rest
written_is b None rest = refl
written_is b (Some x) rest = emitted_one x.events (Puts b) _

byte_written_is : (x : Front) (rest : ℕ → TermState → Option Tree)
    → emitted x.events (put_tree x.known x.state rest) ≡ from_front (byte_written x) rest
byte_written_is x rest =
    let z : Front = reading x Long (in_register x.state Sp) in
    let t : Shape = Binary Add (in_register x.state Sp) (Constant 4) in
    let b : Shape = Unary Zx8 (Symbol x.known) in
    emitted_one x.events (Reads Long (in_register x.state Sp)) _
    ∙ set_is z Sp t (λ n s. before (Puts b) (rest n (uncoded (holding s 0 b)))) ∙ written_is b (set_in z Sp t) rest

-- ---- steps

module _ (items : List CodeItem) (layout : List AreaItem) (is_cut : ℕ → Bool) (left : ℕ) where
  abbrev on : (place n : ℕ) → TermState → Option Tree
  on place n s = run_tree items layout is_cut left true place n s

  abbrev After : Option (Step × Front) → Option Tree
  After y = after items layout is_cut left y

  -- a step that leaves the front as it is
  abbrev Still : Front → Option Step → Option Tree
  Still x y = After (still x y)

  branch_is : (t : Test) (target : Option (List ℕ)) (behind : ℕ) (x : Front)
      → emitted x.events (branch_tree items layout is_cut t target behind x.known x.state on) ≡ Still x (branched items t target behind)
  branch_is t None behind x = emitted_none x.events
  branch_is test.Always (Some l) behind x = refl
  branch_is test.Equal (Some l) behind x = refl
  branch_is test.NotEqual (Some l) behind x = refl
  branch_is test.Less (Some l) behind x = refl
  branch_is test.LessOrEqual (Some l) behind x = refl
  branch_is test.Greater (Some l) behind x = refl
  branch_is test.GreaterOrEqual (Some l) behind x = refl
  branch_is test.LessUnsigned (Some l) behind x = refl
  branch_is test.LessOrEqualUnsigned (Some l) behind x = refl
  branch_is test.GreaterUnsigned (Some l) behind x = refl
  branch_is test.GreaterOrEqualUnsigned (Some l) behind x = refl

  behind_is : (behind : ℕ) (y : Option Front) → from_front y (λ k t. on behind k t) ≡ After (answering (On behind) y)
  behind_is behind None = refl
  behind_is behind (Some x) = refl

  put_served_is : (c : Bool) (behind : ℕ) (x : Front)
      → emitted x.events (cond c (put_tree x.known x.state (λ k t. on behind k t)) None) ≡ After (answering (On behind) (cond c (byte_written x) None))
  put_served_is true behind x = byte_written_is x (λ k t. on behind k t) ∙ behind_is behind (byte_written x)
  put_served_is false behind x = emitted_none x.events

  get_served_is : (c : Bool) (behind : ℕ) (x : Front)
      → emitted x.events (cond c (get_tree x.known x.state (λ k t. on behind k t)) None) ≡ After (answering (On behind) (cond c (Some (byte_read x)) None))
  get_served_is true behind x = emitted_one x.events Gets _
  get_served_is false behind x = emitted_none x.events

  service_is : (a b : Bool) (count : ℕ) (f : List ℕ) (behind : ℕ) (x : Front)
      → emitted x.events (cond a (cond (count == 1) (put_tree x.known x.state (λ k t. on behind k t)) None)
      (cond b (cond (count == 0) (get_tree x.known x.state (λ k t. on behind k t)) None) (Some (CallsHere count f behind x.state))))
      ≡ After (cond a (answering (On behind) (cond (count == 1) (byte_written x) None))
      (cond b (answering (On behind) (cond (count == 0) (Some (byte_read x)) None)) (Some (Halt (Calls count f behind), x))))
  service_is true b count f behind x = put_served_is (count == 1) behind x
  service_is false true count f behind x = get_served_is (count == 0) behind x
  service_is false false count f behind x = refl

  named_is : (name : Option (List ℕ)) (count : ℕ) (f : List ℕ) (behind : ℕ) (x : Front)
      → emitted x.events (call_named name count f behind x.known x.state on) ≡ After (called_named name count f behind x)
  named_is None count f behind x = service_is (bytes_eq f putchar_name) (bytes_eq f getchar_name) count f behind x
  named_is (Some name) count f behind x = emitted_none x.events

  based_is : (b : Base) (index : Option Reg) (target : Option (List ℕ)) (behind : ℕ) (x : Front)
      → emitted x.events (call_based b index target behind x.known x.state on) ≡ After (called_based b index target behind x)
  based_is (bases.Imm a) None (Some f) behind x = named_is a.name a.offset f behind x
  based_is (bases.Imm a) None None behind x = emitted_none x.events
  based_is (bases.Imm a) (Some r) target behind x = emitted_none x.events
  based_is b index target behind x = emitted_none x.events

  call_is : (os : List Operand) (target : Option (List ℕ)) (behind : ℕ) (x : Front)
      → emitted x.events (call_tree os target behind x.known x.state on) ≡ After (called os target behind x)
  call_is [] target behind x = emitted_none x.events
  call_is (o ∷ []) target behind x = based_is o.base o.index target behind x
  call_is (o ∷ (p ∷ os)) target behind x = emitted_none x.events

  counted_is : (a : Access) (z : Size) (t : Option Tree) (y : Option (Step × Front)) (x : Front) → emitted x.events t ≡ After y
      → emitted x.events (counts a z t) ≡ After (counted a z y)
  counted_is accesses.Count Long t y x e = e
  counted_is a z t y x e = emitted_none x.events

  action_is : (a : Action) (ks : List OperandKind) (os : List Operand) (target : Option (List ℕ)) (behind : ℕ) (x : Front)
      → emitted x.events (action_tree items layout is_cut a ks os target behind x.known x.state on) ≡ After (acted items layout a ks os target behind x)
  action_is (action.Compute f) ks os target behind x =
      compute_is layout x f ks os (λ k t. on behind k t) ∙ behind_is behind (computed layout x f ks os)
  action_is action.Push ks os target behind x = push_is layout x ks os (λ k t. on behind k t) ∙ behind_is behind (pushed layout x ks os)
  action_is (action.Branch t) [] os target behind x = branch_is t target behind x
  action_is (action.Branch t) (k ∷ ks) os target behind x = emitted_none x.events
  action_is action.Call [] os target behind x = emitted_none x.events
  action_is action.Call (k ∷ []) os target behind x = counted_is k.access k.size _ _ x (call_is os target behind x)
  action_is action.Call (k ∷ (j ∷ ks)) os target behind x = emitted_none x.events
  action_is action.Return [] os target behind x = refl
  action_is action.Return (k ∷ ks) os target behind x = emitted_none x.events

  pub item_is : (o : Option CodeItem) (place : ℕ) (x : Front)
      → emitted x.events (item_tree items layout is_cut o place x.known x.state on) ≡ After (stepped_at items layout o place x)
  item_is None place x = emitted_none x.events
  item_is (Some (item_kind.Label name)) place x = emitted_none x.events
  item_is (Some (item_kind.Globl name)) place x = emitted_none x.events
  item_is (Some (item_kind.Mask mask)) place x = emitted_none x.events
  item_is (Some (item_kind.Instr i)) place x = action_is (action_of i.op) (shape i.op).operands i.operands i.target (place + 1) x
