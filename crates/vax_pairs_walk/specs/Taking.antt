-- What an instruction takes of its operands on terms, without what comes behind them: numbers, the destination, and the front of the piece.
use Rattle.std.specs.Prelude.{ℕ, ◌+◌, ◌==◌, nat_lt, List, [], ◌∷◌, ◌++◌, Option, Some, None, if◌then◌else◌}
use Rattle.gg_base.specs.declared.size.Size.{Size}
use Rattle.gg_base.specs.declared.size.Size.TheVariants.{Long}
use Rattle.gg_base.specs.Sizes.{bytes_of}
use Rattle.term_core.specs.declared.operator.BinaryOp.TheVariants.{Add, Sub}
use Rattle.term_core.specs.Shape.{Shape, Constant, Symbol, Binary}
use Rattle.vax_core.specs.declared.register.Reg.{Reg}
use Rattle.vax_core.specs.Registers.{reg_number}
use Rattle.vax_core.specs.declared.operand.Base.{Base}
use Rattle.vax_core.specs.declared.operand.Base.TheVariants as bases
use Rattle.vax_core.specs.declared.operand.Operand.{Operand}
use Rattle.vax_core.specs.declared.op.Access.{Access}
use Rattle.vax_core.specs.declared.op.Access.TheVariants as accesses
use Rattle.vax_core.specs.declared.op.OperandKind.{OperandKind}
use Rattle.vax_core.specs.declared.code.AreaItem.{AreaItem}
use Rattle.vax_machine.specs.Area.{resolved}
use Rattle.vax_pairs.specs.Events.{Event, Reads, Lowers}
use Rattle.vax_pairs.specs.TermStates.{TermState}
use Rattle.vax_pairs.specs.TermOperands.{Spot, Number, Register, Place, Goal, in_register, holding, indexed, truncated, last_goal}

-- what a piece has done so far: its events, and the state behind them, so many symbols being known
pub record Front : Type 0 where
  pub events : List Event
  pub known : ℕ
  pub state : TermState

abbrev pub emitting : Front → Event → Front
emitting x e = record { events = x.events ++ e ∷ []; known = x.known; state = x.state }

-- what is read is the next symbol
abbrev pub reading : Front → Size → Shape → Front
reading x size a = record { events = x.events ++ Reads size a ∷ []; known = x.known + 1; state = x.state }

abbrev pub in_state : Front → TermState → Front
in_state x s = record { events = x.events; known = x.known; state = s }

-- a register is set: one of r0 to r11, or sp
abbrev pub set_in : Front → Reg → Shape → Option Front
set_in x r t =
    if nat_lt (reg_number r) 12 then Some (in_state x (holding x.state (reg_number r) t))
    else if reg_number r == 14 then Some (in_state (emitting x (Lowers t)) (holding x.state (reg_number r) t))
    else None

-- what is answered, and the front behind it
abbrev pub answering : {X : Type 0} → X → Option Front → Option (X × Front)
answering a None = None
answering a (Some x) = Some (a, x)

-- ---- where an operand stands

abbrev pub deferred_at : Shape → Front → Spot × Front
deferred_at a x = (Place (Symbol x.known), reading x Long a)

abbrev pub then_deferred : Shape → Option Front → Option (Spot × Front)
then_deferred a None = None
then_deferred a (Some x) = Some (deferred_at a x)

abbrev pub located : List AreaItem → Front → Base → Size → Option (Spot × Front)
located layout x (bases.Imm a) size = Some (Number (Constant (resolved layout a)), x)
located layout x (bases.Reg r) size = Some (Register r, x)
located layout x (bases.Def r) size = Some (Place (in_register x.state r), x)
located layout x (bases.Inc r) size =
    answering (Place (in_register x.state r)) (set_in x r (Binary Add (in_register x.state r) (Constant (bytes_of size))))
located layout x (bases.IncDef r) size =
    then_deferred (in_register x.state r) (set_in x r (Binary Add (in_register x.state r) (Constant 4)))
located layout x (bases.Dec r) size =
    answering (Place (Binary Sub (in_register x.state r) (Constant (bytes_of size))))
    (set_in x r (Binary Sub (in_register x.state r) (Constant (bytes_of size))))
located layout x (bases.Disp d r) size = Some (Place (Binary Add (Constant (resolved layout d)) (in_register x.state r)), x)
located layout x (bases.DispDef d r) size =
    Some (deferred_at (Binary Add (Constant (resolved layout d)) (in_register x.state r)) x)
located layout x (bases.Abs a) size = Some (Place (Constant a), x)
located layout x (bases.Rel a) size = Some (Place (Constant (resolved layout a)), x)
located layout x (bases.RelDef a) size = Some (deferred_at (Constant (resolved layout a)) x)

-- ---- what is taken of it

abbrev pub fetched : Front → Spot → Size → Shape × Front
fetched x (Number t) size = (truncated size t, x)
fetched x (Register r) size = (truncated size (in_register x.state r), x)
fetched x (Place a) size = (Symbol x.known, reading x size a)

-- what is taken of one operand: its number or address, and its destination
pub record Taken : Type 0 where
  pub number : Shape
  pub goal : Goal

abbrev pub with_goal : Goal → Shape × Front → Taken × Front
with_goal d y = (record { number = y.0; goal = d }, y.1)

abbrev pub addressed : Spot → Option Taken
addressed (Place a) = Some (record { number = a; goal = None })
addressed l = None

abbrev pub unchanged : Front → Option Taken → Option (Taken × Front)
unchanged x None = None
unchanged x (Some t) = Some (t, x)

abbrev pub taken : Front → Access → Spot → Size → Option (Taken × Front)
taken x accesses.Read l size = Some (with_goal None (fetched x l size))
taken x accesses.Modify l size = Some (with_goal (Some (l, size)) (fetched x l size))
taken x accesses.Write l size = Some (record { number = Constant 0; goal = Some (l, size) }, x)
taken x accesses.Address l size = unchanged x (addressed l)
taken x accesses.Count l size = None

abbrev pub taken_at : OperandKind → Option Reg → Option (Spot × Front) → Option (Taken × Front)
taken_at k index None = None
taken_at k index (Some y) = taken y.1 k.access (indexed y.1.state y.0 index k.size) k.size

abbrev pub evaluated : List AreaItem → Front → OperandKind → Base → Option Reg → Option (Taken × Front)
evaluated layout x k b index = taken_at k index (located layout x b k.size)

-- what is taken of all operands
pub record Arguments : Type 0 where
  pub first : Shape
  pub second : Shape
  pub goal : Goal

abbrev pub no_arguments : Arguments
no_arguments = record { first = Constant 0; second = Constant 0; goal = None }

abbrev pub in_front : Taken → Arguments → Arguments
in_front t y = record { first = t.number; second = y.first; goal = last_goal t.goal y.goal }

abbrev pub then_front : Taken → Option (Arguments × Front) → Option (Arguments × Front)
then_front t None = None
then_front t (Some y) = Some (in_front t y.0, y.1)

abbrev pub then_others : Option (Taken × Front) → (Front → Option (Arguments × Front)) → Option (Arguments × Front)
then_others None others = None
then_others (Some y) others = then_front y.0 (others y.1)

abbrev pub all_evaluated : List AreaItem → Front → List OperandKind → List Operand → Option (Arguments × Front)
all_evaluated layout x [] os = Some (no_arguments, x)
all_evaluated layout x (k ∷ ks) [] = None
all_evaluated layout x (k ∷ ks) (o ∷ os) = then_others (evaluated layout x k o.base o.index) (λ z. all_evaluated layout z ks os)
