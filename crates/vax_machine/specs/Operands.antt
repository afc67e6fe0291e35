-- What an operand specifier stands for. Operands are evaluated from left to right, each whole before the next.
use Rattle.std.specs.Prelude.{ℕ, List, [], ◌∷◌, Option, Some, None, Result, Ok, Err}
use Rattle.gg_base.specs.declared.size.Size.{Size}
use Rattle.gg_base.specs.declared.size.Size.TheVariants.{Long}
use Rattle.gg_base.specs.Sizes.{bytes_of, low}
use Rattle.gg_base.specs.Arithmetic.{add32, sub32, mul32}
use Rattle.vax_core.specs.declared.register.Reg.{Reg}
use Rattle.vax_core.specs.declared.operand.Base.{Base}
use Rattle.vax_core.specs.declared.operand.Base.TheVariants as bases
use Rattle.vax_core.specs.declared.operand.Operand.{Operand}
use Rattle.vax_core.specs.declared.op.Access.{Access}
use Rattle.vax_core.specs.declared.op.Access.TheVariants as accesses
use Rattle.vax_core.specs.declared.op.OperandKind.{OperandKind}
use Rattle.vax_machine.specs.declared.turn.Stop.{Stop}
use Rattle.vax_machine.specs.declared.operands.Location.{Location}
use Rattle.vax_machine.specs.declared.operands.Location.TheVariants as locations
use Rattle.vax_machine.specs.declared.operands.Destination.{Destination}
use Rattle.vax_machine.specs.declared.operands.Evaluated.{Evaluated}
use Rattle.vax_machine.specs.declared.operands.Arguments.{Arguments}
use Rattle.vax_machine.specs.State.{State, reg, bad_code, ◌>>=◌}
use Rattle.vax_machine.specs.Area.{resolved}
use Rattle.vax_machine.specs.Memory.{read, written, register_set, merged}

-- the number at an address is itself an address
abbrev pub deferred : State → ℕ → Result (Location × State) Stop
deferred m address = read m address Long >>= λ (a : ℕ). Ok (locations.Memory a, m)

-- where an operand stands, without its index, and the state after its register was stepped
unfoldable pub located : State → Base → Size → Result (Location × State) Stop
located m (bases.Imm a) size = Ok (locations.Number (resolved m.layout a), m)
located m (bases.Reg r) size = Ok (locations.Register r, m)
located m (bases.Def r) size = Ok (locations.Memory (reg m r), m)
located m (bases.Inc r) size = register_set m r (add32 (reg m r) (bytes_of size)) >>= λ (n : State). Ok (locations.Memory (reg m r), n)
located m (bases.IncDef r) size = register_set m r (add32 (reg m r) 4) >>= λ (n : State). deferred n (reg m r)
located m (bases.Dec r) size = register_set m r (sub32 (reg m r) (bytes_of size)) >>= λ (n : State).
    Ok (locations.Memory (sub32 (reg m r) (bytes_of size)), n)
located m (bases.Disp d r) size = Ok (locations.Memory (add32 (resolved m.layout d) (reg m r)), m)
located m (bases.DispDef d r) size = deferred m (add32 (resolved m.layout d) (reg m r))
located m (bases.Abs n) size = Ok (locations.Memory n, m)
located m (bases.Rel a) size = Ok (locations.Memory (resolved m.layout a), m)
located m (bases.RelDef a) size = deferred m (resolved m.layout a)

abbrev pub moved : Location → ℕ → Location
moved (locations.Number n) by = locations.Number n
moved (locations.Register r) by = locations.Register r
moved (locations.Memory a) by = locations.Memory (add32 a by)

-- the index counts in multiples of the operand's size
abbrev pub indexed : State → Location → Option Reg → Size → Location
indexed m l None size = l
indexed m l (Some x) size = moved l (mul32 (reg m x) (bytes_of size))

-- the number that stands there
abbrev pub fetched : State → Location → Size → Result ℕ Stop
fetched m (locations.Number n) size = Ok (low size n)
fetched m (locations.Register r) size = Ok (low size (reg m r))
fetched m (locations.Memory a) size = read m a size

-- the address, where it has one
abbrev pub address_of : Location → Result ℕ Stop
address_of (locations.Number n) = Err bad_code
address_of (locations.Register r) = Err bad_code
address_of (locations.Memory a) = Ok a

abbrev pub only_number : ℕ → Evaluated
only_number v = record { number = v; destination = None }

abbrev pub with_destination : ℕ → Location → Size → Evaluated
with_destination v l size = record { number = v; destination = Some (record { location = l; size = size }) }

-- what an instruction takes of an operand, by the operand's access; a place that is only written is looked at when it is written
unfoldable pub taken : State → Access → Location → Size → Result Evaluated Stop
taken m accesses.Read l size = fetched m l size >>= λ (v : ℕ). Ok (only_number v)
taken m accesses.Modify l size = fetched m l size >>= λ (v : ℕ). Ok (with_destination v l size)
taken m accesses.Write l size = Ok (with_destination 0 l size)
taken m accesses.Address l size = address_of l >>= λ (a : ℕ). Ok (only_number a)
taken m accesses.Count l size = fetched m l size >>= λ (v : ℕ). Ok (only_number v)

-- one operand
unfoldable pub evaluated : State → OperandKind → Operand → Result (Evaluated × State) Stop
evaluated m k o =
    located m o.base k.size
    >>= λ (x : Location × State). taken x.1 k.access (indexed x.1 x.0 o.index k.size) k.size
    >>= λ (e : Evaluated). Ok (e, x.1)

abbrev pub no_arguments : Arguments
no_arguments = record { first = 0; second = 0; destination = None }

abbrev pub last_of : Option Destination → Option Destination → Option Destination
last_of front (Some d) = Some d
last_of front None = front

-- the arguments with an operand in front of them
abbrev pub in_front : Evaluated → Arguments → Arguments
in_front e x = record { first = e.number; second = x.first; destination = last_of e.destination x.destination }

-- all operands
abbrev pub all_evaluated : List OperandKind → List Operand → State → Result (Arguments × State) Stop
all_evaluated [] os m = Ok (no_arguments, m)
all_evaluated (k ∷ ks) [] m = Err bad_code
all_evaluated (k ∷ ks) (o ∷ os) m =
    evaluated m k o
    >>= λ (x : Evaluated × State). all_evaluated ks os x.1
    >>= λ (y : Arguments × State). Ok (in_front x.0 y.0, y.1)

abbrev pub put : State → Location → Size → ℕ → Result State Stop
put m (locations.Number n) size v = Err bad_code
put m (locations.Register r) size v = register_set m r (merged size (reg m r) v)
put m (locations.Memory a) size v = written m a size v

-- the state with a result at its destination
unfoldable pub stored : State → Option Destination → ℕ → Result State Stop
stored m None v = Ok m
stored m (Some d) v = put m d.location d.size v
