-- Instructions that touch no memory but the data area and what they spell themselves: a word of the innermost frame or an argument of the
-- innermost call. Where an instruction would touch other memory, step a register, or read or write ap, fp or sp, its confined run breaks.
-- Elsewhere it is the machine's.
use Rattle.std.specs.Prelude.{ℕ, ◌+◌, ◌%◌, ◌==◌, ◌&&◌, ◌||◌, nat_lt, nat_le, Bool, true, false, List, [], ◌∷◌, length}
use Rattle.std.specs.Prelude.{is_none, Result, Ok, Err, if◌then◌else◌}
use Rattle.gg_base.specs.declared.limits.TheConstants.{AREA_START}
use Rattle.gg_base.specs.declared.size.Size.{Size}
use Rattle.gg_base.specs.declared.size.Size.TheVariants.{Long}
use Rattle.gg_base.specs.Sizes.{bytes_of}
use Rattle.gg_base.specs.Arithmetic.{add32, neg32}
use Rattle.vax_machine_lists.specs.vax_core.specs.declared.register.Reg.{Reg}
use Rattle.vax_machine_lists.specs.vax_core.specs.declared.operand.Addr.{Addr}
use Rattle.vax_machine_lists.specs.vax_core.specs.declared.operand.Base.{Base}
use Rattle.vax_machine_lists.specs.vax_core.specs.declared.operand.Base.TheVariants as bases
use Rattle.vax_machine_lists.specs.vax_core.specs.declared.operand.Operand.{Operand}
use Rattle.vax_machine_lists.specs.vax_core.specs.declared.op.Access.{Access}
use Rattle.vax_machine_lists.specs.vax_core.specs.declared.op.Access.TheVariants as accesses
use Rattle.vax_machine_lists.specs.vax_core.specs.declared.op.OperandKind.{OperandKind}
use Rattle.vax_machine_lists.specs.vax_core.specs.declared.code.Instr.{Instr}
use Rattle.vax_machine_lists.specs.vax_core.specs.Ops.{shape}
use Rattle.vax_machine_lists.specs.vax_core.specs.Registers.{reg_number}
use Rattle.vax_machine_lists.specs.vax_machine.specs.declared.turn.Stop.{Stop}
use Rattle.vax_machine_lists.specs.vax_machine.specs.declared.operands.Location.{Location}
use Rattle.vax_machine_lists.specs.vax_machine.specs.declared.operands.Location.TheVariants as locations
use Rattle.vax_machine_lists.specs.vax_machine.specs.declared.operands.Evaluated.{Evaluated}
use Rattle.vax_machine_lists.specs.vax_machine.specs.declared.operands.Arguments.{Arguments}
use Rattle.vax_machine_lists.specs.vax_machine.specs.State.{State, reg, access, bad_code, ◌>>=◌}
use Rattle.vax_machine_lists.specs.vax_machine.specs.Area.{resolved}
use Rattle.vax_machine_lists.specs.vax_machine.specs.Operands.{located, indexed, taken, in_front, no_arguments}
use Rattle.vax_machine_lists.specs.Instructions.{Course, comes, followed, evaluated_then}

-- ---- an operand's own place

-- a word of the frame, of which there are at most 1,024
abbrev pub is_word : Addr → Bool
is_word a = is_none a.name && (nat_le 4 (neg32 a.offset) && (nat_le (neg32 a.offset) 4096 && (neg32 a.offset % 4 == 0)))

-- an argument of the innermost call, of at most 255
abbrev pub is_argument : Addr → Bool
is_argument a = is_none a.name && (nat_le 4 a.offset && (nat_le a.offset 1020 && (a.offset % 4 == 0)))

abbrev pub is_own : Reg → Addr → Bool
is_own r a = if reg_number r == 13 then is_word a else if reg_number r == 12 then is_argument a else false

abbrev pub is_own_base : Base → Bool
is_own_base (bases.Disp a r) = is_own r a
is_own_base b = false

abbrev pub is_own_place : Operand → Bool
is_own_place o = is_none o.index && is_own_base o.base

-- ---- what may be touched

abbrev pub in_area : State → ℕ → Size → Bool
in_area m a size = nat_le AREA_START a && nat_le (a + bytes_of size) (AREA_START + length m.area)

abbrev pub displaced : State → Reg → Addr → ℕ
displaced m r a = add32 (resolved m.layout a) (reg m r)

-- a base steps no register, is none of ap, fp and sp itself, and follows a pointer only in a place of its own or in the data area
abbrev pub may_find : State → Base → Bool
may_find m (bases.Imm a) = true
may_find m (bases.Reg r) = nat_lt (reg_number r) 12
may_find m (bases.Def r) = true
may_find m (bases.Inc r) = false
may_find m (bases.IncDef r) = false
may_find m (bases.Dec r) = false
may_find m (bases.Disp a r) = true
may_find m (bases.DispDef a r) = is_own r a || in_area m (displaced m r a) Long
may_find m (bases.Abs n) = true
may_find m (bases.Rel a) = true
may_find m (bases.RelDef a) = in_area m (resolved m.layout a) Long

abbrev pub may_touch : State → Bool → Location → Size → Bool
may_touch m own (locations.Memory a) size = own || in_area m a size
may_touch m own l size = true

abbrev pub found : State → Base → Size → Result (Location × State) Stop
found m b size = if may_find m b then located m b size else Err access

-- A place that is only written is looked at when it is written: one that may not be touched can't be written then.
abbrev pub got : State → Access → Bool → Location → Size → Result Evaluated Stop
got m accesses.Write true l size = taken m accesses.Write l size
got m accesses.Write false l size = taken m accesses.Write (locations.Number 0) size
got m accesses.Address may l size = taken m accesses.Address l size
got m a true l size = taken m a l size
got m a false l size = Err access

unfoldable pub evaluated : State → OperandKind → Operand → Result (Evaluated × State) Stop
evaluated m k o =
    found m o.base k.size
    >>= λ (x : Location × State). got x.1 k.access (may_touch x.1 (is_own_place o) (indexed x.1 x.0 o.index k.size) k.size)
    (indexed x.1 x.0 o.index k.size) k.size
    >>= λ (e : Evaluated). Ok (e, x.1)

abbrev pub all_evaluated : List OperandKind → List Operand → State → Result (Arguments × State) Stop
all_evaluated [] os m = Ok (no_arguments, m)
all_evaluated (k ∷ ks) [] m = Err bad_code
all_evaluated (k ∷ ks) (o ∷ os) m =
    evaluated m k o
    >>= λ (x : Evaluated × State). all_evaluated ks os x.1
    >>= λ (y : Arguments × State). Ok (in_front x.0 y.0, y.1)

-- one instruction, and instructions one after another
unfoldable pub performed : Instr → State → Course
performed i m = evaluated_then i (all_evaluated (shape i.op).operands i.operands m)

abbrev pub exec : List Instr → State → Course
exec [] m = comes m
exec (i ∷ is) m = followed (performed i m) is (exec is)
