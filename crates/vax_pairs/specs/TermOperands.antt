-- The operands of an instruction on terms, from left to right, each whole before the next, as the machine evaluates them.
use Rattle.std.specs.Prelude.{ℕ, ◌+◌, ◌==◌, nat_lt, List, [], ◌∷◌, Option, Some, None, slice_set, slice_index_or as get_or}
use Rattle.std.specs.Prelude.{if◌then◌else◌}
use Rattle.gg_base.specs.declared.size.Size.{Size}
use Rattle.gg_base.specs.declared.size.Size.TheVariants.{Byte, Word, Long}
use Rattle.gg_base.specs.Sizes.{bytes_of}
use Rattle.term_core.specs.declared.operator.UnaryOp.TheVariants.{Zx8, Zx16}
use Rattle.term_core.specs.declared.operator.BinaryOp.TheVariants.{Add, Sub, Mul}
use Rattle.term_core.specs.Shape.{Shape, Constant, Symbol, Unary, Binary}
use Rattle.vax_machine_lists.specs.vax_core.specs.declared.register.Reg.{Reg}
use Rattle.vax_machine_lists.specs.vax_core.specs.Registers.{reg_number}
use Rattle.vax_machine_lists.specs.vax_core.specs.declared.operand.Base.{Base}
use Rattle.vax_machine_lists.specs.vax_core.specs.declared.operand.Base.TheVariants as bases
use Rattle.vax_machine_lists.specs.vax_core.specs.declared.operand.Operand.{Operand}
use Rattle.vax_machine_lists.specs.vax_core.specs.declared.op.Access.{Access}
use Rattle.vax_machine_lists.specs.vax_core.specs.declared.op.Access.TheVariants as accesses
use Rattle.vax_machine_lists.specs.vax_core.specs.declared.op.OperandKind.{OperandKind}
use Rattle.vax_machine_lists.specs.vax_core.specs.declared.code.AreaItem.{AreaItem}
use Rattle.vax_machine_lists.specs.vax_machine.specs.Area.{resolved}
use Rattle.vax_pairs.specs.Events.{Event, Reads, Lowers}
use Rattle.vax_pairs.specs.TermStates.{TermState}
use Rattle.vax_pairs.specs.Trees.{Tree, Emits}

-- where an operand stands
pub data Spot : Type 0 where
  Number : (t : Shape) → Spot
  Register : (r : Reg) → Spot
  Place : (address : Shape) → Spot

-- what a register has
abbrev pub in_register : TermState → Reg → Shape
in_register s r = get_or s.registers (reg_number r) (Constant 0)

-- an event in front of a tree
abbrev pub before : Event → Option Tree → Option Tree
before e None = None
before e (Some t) = Some (Emits e t)

-- ---- registers

abbrev pub holding : TermState → ℕ → Shape → TermState
holding s r t = record s { registers = slice_set s.registers r t }

-- a register is set: one of r0 to r11, or sp, for which the stack has to have room
abbrev pub set_register : TermState → Reg → Shape → (TermState → Option Tree) → Option Tree
set_register s r t rest =
    if nat_lt (reg_number r) 12 then rest (holding s (reg_number r) t)
    else if reg_number r == 14 then before (Lowers t) (rest (holding s (reg_number r) t))
    else None

-- ---- where an operand stands

-- what comes behind: of so many symbols, of the state, and of where the operand stands
abbrev pub Found : Type 0
Found = ℕ → TermState → Spot → Option Tree

-- the number at an address is itself an address
abbrev pub deferred : ℕ → TermState → Shape → Found → Option Tree
deferred n s a rest = before (Reads Long a) (rest (n + 1) s (Place (Symbol n)))

-- where an operand stands, without its index, n symbols being known so far; its register is stepped before
abbrev pub locate : List AreaItem → ℕ → TermState → Base → Size → Found → Option Tree
locate layout n s (bases.Imm a) size rest = rest n s (Number (Constant (resolved layout a)))
locate layout n s (bases.Reg r) size rest = rest n s (Register r)
locate layout n s (bases.Def r) size rest = rest n s (Place (in_register s r))
locate layout n s (bases.Inc r) size rest =
    set_register s r (Binary Add (in_register s r) (Constant (bytes_of size))) (λ z. rest n z (Place (in_register s r)))
locate layout n s (bases.IncDef r) size rest =
    set_register s r (Binary Add (in_register s r) (Constant 4)) (λ z. deferred n z (in_register s r) rest)
locate layout n s (bases.Dec r) size rest =
    set_register s r (Binary Sub (in_register s r) (Constant (bytes_of size)))
    (λ z. rest n z (Place (Binary Sub (in_register s r) (Constant (bytes_of size)))))
locate layout n s (bases.Disp d r) size rest = rest n s (Place (Binary Add (Constant (resolved layout d)) (in_register s r)))
locate layout n s (bases.DispDef d r) size rest = deferred n s (Binary Add (Constant (resolved layout d)) (in_register s r)) rest
locate layout n s (bases.Abs a) size rest = rest n s (Place (Constant a))
locate layout n s (bases.Rel a) size rest = rest n s (Place (Constant (resolved layout a)))
locate layout n s (bases.RelDef a) size rest = deferred n s (Constant (resolved layout a)) rest

-- so much further
abbrev pub moved : Spot → Shape → Spot
moved (Number t) by = Number t
moved (Register r) by = Register r
moved (Place a) by = Place (Binary Add a by)

-- the index counts in multiples of the operand's size
abbrev pub indexed : TermState → Spot → Option Reg → Size → Spot
indexed s l None size = l
indexed s l (Some x) size = moved l (Binary Mul (in_register s x) (Constant (bytes_of size)))

-- ---- what an instruction takes of it

abbrev pub truncated : Size → Shape → Shape
truncated Byte t = Unary Zx8 t
truncated Word t = Unary Zx16 t
truncated Long t = t

-- a destination and its size
abbrev pub Goal : Type 0
Goal = Option (Spot × Size)

-- what comes behind an access: of so many symbols, the number and the destination
abbrev pub Rest : Type 0
Rest = ℕ → Shape → Goal → Option Tree

-- the number that stands there
abbrev pub fetch : ℕ → TermState → Spot → Size → (ℕ → Shape → Option Tree) → Option Tree
fetch n s (Number t) size rest = rest n (truncated size t)
fetch n s (Register r) size rest = rest n (truncated size (in_register s r))
fetch n s (Place a) size rest = before (Reads size a) (rest (n + 1) (Symbol n))

-- what an access takes of it
abbrev pub take : ℕ → TermState → Access → Spot → Size → Rest → Option Tree
take n s accesses.Read l size rest = fetch n s l size (λ k t. rest k t None)
take n s accesses.Modify l size rest = fetch n s l size (λ k t. rest k t (Some (l, size)))
take n s accesses.Write l size rest = rest n (Constant 0) (Some (l, size))
take n s accesses.Address (Place a) size rest = rest n a None
take n s accesses.Address l size rest = None
take n s accesses.Count l size rest = None

-- one operand
abbrev pub operand : List AreaItem → ℕ → TermState → OperandKind → Base → Option Reg → (ℕ → TermState → Shape → Goal → Option Tree)
    → Option Tree
operand layout n s k b x rest =
    locate layout n s b k.size (λ i z l. take i z k.access (indexed z l x k.size) k.size (λ j t d. rest j z t d))

abbrev pub last_goal : Goal → Goal → Goal
last_goal front (Some d) = Some d
last_goal front None = front

-- what comes behind all operands: of so many symbols, of the state, the first two numbers and the destination
abbrev pub Taken : Type 0
Taken = ℕ → TermState → Shape → Shape → Goal → Option Tree

abbrev pub operands : List AreaItem → ℕ → TermState → List OperandKind → List Operand → Taken → Option Tree
operands layout n s [] os rest = rest n s (Constant 0) (Constant 0) None
operands layout n s (k ∷ ks) [] rest = None
operands layout n s (k ∷ ks) (o ∷ os) rest =
    operand layout n s k o.base o.index (λ i z t d. operands layout i z ks os (λ j y u w e. rest j y t u (last_goal d e)))
