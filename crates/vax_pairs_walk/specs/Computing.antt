-- What an instruction that computes or pushes does on terms, and what the services do, without what comes behind it.
use Rattle.std.specs.Prelude.{◌+◌, List, [], ◌∷◌, ◌++◌, Option, Some, None}
use Rattle.gg_base.specs.declared.size.Size.TheVariants.{Byte, Word, Long}
use Rattle.term_core.specs.declared.operator.UnaryOp.TheVariants.{Zx8}
use Rattle.term_core.specs.declared.operator.BinaryOp.TheVariants.{Add}
use Rattle.term_core.specs.Shape.{Shape, Constant, Symbol, Unary, Binary}
use Rattle.vax_core.specs.declared.register.Reg.TheVariants.{Sp}
use Rattle.vax_core.specs.declared.operand.Operand.{Operand}
use Rattle.vax_core.specs.declared.op.OperandKind.{OperandKind}
use Rattle.vax_core.specs.declared.code.AreaItem.{AreaItem}
use Rattle.vax_machine.specs.declared.function.Function.{Function}
use Rattle.vax_machine.specs.declared.function.Function.TheVariants as functions
use Rattle.vax_pairs.specs.Events.{Stores, Divides, Gets, Puts}
use Rattle.vax_pairs.specs.TermStates.{Tests, TermState}
use Rattle.vax_pairs.specs.TermOperands.{Number, Register, Place, Goal, in_register, holding}
use Rattle.vax_pairs.specs.TermResults.{given, coded_behind, pushed_at}
use Rattle.vax_pairs.specs.TermRuns.{uncoded}
use Rattle.vax_pairs_walk.specs.Taking.{Front, emitting, reading, in_state, set_in, Arguments, all_evaluated}

-- a result at its destination
abbrev pub put_at : Front → Goal → Shape → Option Front
put_at x None t = Some x
put_at x (Some (Number u, size)) t = None
put_at x (Some (Register r, Long)) t = set_in x r t
put_at x (Some (Register r, Byte)) t = None
put_at x (Some (Register r, Word)) t = None
put_at x (Some (Place a, size)) t = Some (emitting x (Stores size a t))

-- a divisor may be zero
abbrev pub guarded_in : Front → Function → Shape → Front
guarded_in x functions.Divide a = emitting x (Divides a)
guarded_in x f a = x

abbrev pub coded_in : Front → Function → Arguments → Front
coded_in x f y = in_state x (coded_behind x.state f y.first y.second (given f y.first y.second).1)

abbrev pub finished : Front → Function → Arguments → Option Front
finished x f y = put_at (coded_in (guarded_in x f y.first) f y) y.goal (given f y.first y.second).0

abbrev pub done_by : Function → Option (Arguments × Front) → Option Front
done_by f None = None
done_by f (Some y) = finished y.1 f y.0

abbrev pub computed : List AreaItem → Front → Function → List OperandKind → List Operand → Option Front
computed layout x f ks os = done_by f (all_evaluated layout x ks os)

-- ---- pushes

abbrev pub valued_by : TermState → Shape → TermState
valued_by s t = record { registers = s.registers; signs = Tests Long t; carry = s.carry }

-- a longword is stored where sp was set
abbrev pub stored_at : Shape → Shape → Option Front → Option Front
stored_at a t None = None
stored_at a t (Some x) = Some (in_state (emitting x (Stores Long a t)) (valued_by x.state t))

abbrev pub push_number : Front → Shape → Option Front
push_number x t = stored_at (pushed_at x.state) t (set_in x Sp (pushed_at x.state))

abbrev pub pushed_by : Option (Arguments × Front) → Option Front
pushed_by None = None
pushed_by (Some y) = push_number y.1 y.0.first

abbrev pub pushed : List AreaItem → Front → List OperandKind → List Operand → Option Front
pushed layout x ks os = pushed_by (all_evaluated layout x ks os)

-- ---- the two services

-- a byte is written, and r0 is that byte
abbrev pub written_in : Shape → Option Front → Option Front
written_in b None = None
written_in b (Some x) = Some (in_state (emitting x (Puts b)) (uncoded (holding x.state 0 b)))

abbrev pub byte_written : Front → Option Front
byte_written x =
    written_in (Unary Zx8 (Symbol x.known))
    (set_in (reading x Long (in_register x.state Sp)) Sp (Binary Add (in_register x.state Sp) (Constant 4)))

abbrev pub byte_read : Front → Front
byte_read x = record { events = x.events ++ Gets ∷ []; known = x.known + 1; state = uncoded (holding x.state 0 (Symbol x.known)) }
