-- What operands give. They are evaluated from left to right, each whole before the next.
use Rattle.std.specs.Prelude.{ℕ, List, [], ◌∷◌, Option, Some, None, Result, Ok, Err}
use Rattle.gg_base.specs.declared.size.Size.{Size}
use Rattle.gg_base.specs.declared.size.Size.TheVariants.{Long}
use Rattle.gg_base.specs.Sizes.{low}
use Rattle.gg_base.specs.Arithmetic.{add32}
use Rattle.l32_core.specs.declared.op.Role.{Role}
use Rattle.l32_core.specs.declared.op.Role.TheVariants as roles
use Rattle.l32_core.specs.declared.op.Part.{Part}
use Rattle.l32_core.specs.declared.op.Part.TheVariants as parts
use Rattle.l32_core.specs.declared.operand.Operand32.{Operand32}
use Rattle.l32_core.specs.declared.operand.Operand32.TheVariants as operands
use Rattle.vax_machine.specs.Area.{resolved}
use Rattle.l32_machine.specs.declared.turn.Stop32.{Stop32}
use Rattle.l32_machine.specs.declared.operands.Destination.{Destination}
use Rattle.l32_machine.specs.declared.operands.Destination.TheVariants as destinations
use Rattle.l32_machine.specs.declared.operands.Evaluated.{Evaluated}
use Rattle.l32_machine.specs.declared.operands.Evaluated.TheVariants.{Number, Goes}
use Rattle.l32_machine.specs.declared.operands.Arguments.{Arguments}
use Rattle.l32_machine.specs.State.{State, reg, with_reg, base, bad_code, ◌>>=◌}
use Rattle.l32_machine.specs.Memory.{read, written}

-- the address of the memory that an operand names
unfoldable pub address_of : State → Operand32 → Result ℕ Stop32
address_of m (operands.Num n) = Err bad_code
address_of m (operands.Reg n) = Err bad_code
address_of m (operands.At n b) = Ok (add32 (base m b) n)
address_of m (operands.Deferred n b) = read m (add32 (base m b) n) Long
address_of m (operands.Addr a) = Ok (resolved m.layout a)

abbrev pub read_at : State → Size → Result ℕ Stop32 → Result ℕ Stop32
read_at m size address = address >>= λ (a : ℕ). read m a size

-- the number that stands there
unfoldable pub fetched : State → Size → Operand32 → Result ℕ Stop32
fetched m size (operands.Num n) = Ok (low size n)
fetched m size (operands.Reg n) = Ok (low size (reg m n))
fetched m size (operands.At n b) = read_at m size (address_of m (operands.At n b))
fetched m size (operands.Deferred n b) = read_at m size (address_of m (operands.Deferred n b))
fetched m size (operands.Addr a) = read_at m size (address_of m (operands.Addr a))

-- the register that a result goes to
abbrev pub register_of : Operand32 → Result Evaluated Stop32
register_of (operands.Reg n) = Ok (Goes (destinations.Register n))
register_of (operands.Num n) = Err bad_code
register_of (operands.At n b) = Err bad_code
register_of (operands.Deferred n b) = Err bad_code
register_of (operands.Addr a) = Err bad_code

abbrev pub as_number : Result ℕ Stop32 → Result Evaluated Stop32
as_number did = did >>= λ (v : ℕ). Ok (Number v)

-- what an instruction takes of an operand; memory that is only written is touched when it is written
unfoldable pub evaluated : State → Role → Operand32 → Result Evaluated Stop32
evaluated m roles.Number o = as_number (fetched m Long o)
evaluated m roles.Words o = as_number (fetched m Long o)
evaluated m roles.Count o = as_number (fetched m Long o)
evaluated m roles.Destination o = register_of o
evaluated m roles.Register o = as_number (fetched m Long o)
evaluated m (roles.Source size) o = as_number (fetched m size o)
evaluated m (roles.Store size) o = address_of m o >>= λ (a : ℕ). Ok (Goes (destinations.Memory a size))
evaluated m roles.Address o = as_number (address_of m o)

abbrev pub no_arguments : Arguments
no_arguments = record { first = 0; second = 0; destination = None }

-- the arguments with what an operand gives in front of them
abbrev pub in_front : Evaluated → Arguments → Arguments
in_front (Number v) x = record { first = v; second = x.first; destination = x.destination }
in_front (Goes d) x = record { first = x.first; second = x.second; destination = Some d }

-- all operands; a label gives nothing here
abbrev pub all_evaluated : State → List Part → List Operand32 → Result Arguments Stop32
all_evaluated m [] os = Ok no_arguments
all_evaluated m (parts.Label ∷ ps) os = all_evaluated m ps os
all_evaluated m (parts.Operand role ∷ ps) [] = Err bad_code
all_evaluated m (parts.Operand role ∷ ps) (o ∷ os) =
    evaluated m role o >>= λ (e : Evaluated). all_evaluated m ps os >>= λ (x : Arguments). Ok (in_front e x)

-- the state with a result where it goes
unfoldable pub stored : State → Option Destination → ℕ → Result State Stop32
stored m None v = Ok m
stored m (Some (destinations.Register n)) v = Ok (with_reg m n v)
stored m (Some (destinations.Memory a size)) v = written m a size v
