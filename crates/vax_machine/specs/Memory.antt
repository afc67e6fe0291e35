-- Memory: the data area and the stack, addressed by bytes, little-endian, unaligned accesses allowed. The control words
-- of live frames take room in the stack and may not be touched.
use Rattle.std.specs.Prelude.{ℕ, ◌+◌, ◌-◌, ◌%◌, ◌^◌, ◌&&◌, ◌==◌, nat_lt, nat_le, length, Result, Ok, Err, if◌then◌else◌}
use Rattle.gg_base.specs.declared.limits.TheConstants.{AREA_START, STACK_START, STACK_TOP}
use Rattle.gg_base.specs.declared.size.Size.{Size}
use Rattle.gg_base.specs.declared.size.Size.TheVariants.{Byte, Word, Long}
use Rattle.gg_base.specs.Sizes.{bytes_of}
use Rattle.gg_base.specs.LittleEndian.{number_in, with_number}
use Rattle.vax_core.specs.declared.register.Reg.{Reg}
use Rattle.vax_core.specs.Registers.{reg_number}
use Rattle.vax_machine_live.specs.Control.{in_control}
use Rattle.vax_machine.specs.declared.turn.Stop.{Stop}
use Rattle.vax_machine.specs.declared.memory.Region.{Region}
use Rattle.vax_machine.specs.declared.memory.Region.TheVariants as regions
use Rattle.vax_machine.specs.State.{State, with_reg, access, frame, stack_full, ◌>>=◌}

-- where the bytes from an address on are kept: the data area begins at `AREA_START`, the stack lies from `STACK_START` to `STACK_TOP`
unfoldable pub touched : State → ℕ → Size → Result Region Stop
touched m address size =
    if nat_le AREA_START address && nat_le (address + bytes_of size) (AREA_START + length m.area) then
    Ok (regions.Area (address - AREA_START))
    else if nat_le STACK_START address && nat_le (address + bytes_of size) STACK_TOP then
    (if in_control m.frames address (bytes_of size) then Err frame else Ok (regions.Stack (address - STACK_START)))
    else Err access

abbrev pub number_at : State → Size → Region → ℕ
number_at m size (regions.Area at) = number_in size m.area at
number_at m size (regions.Stack at) = number_in size m.stack at

abbrev pub with_number_at : State → Size → ℕ → Region → State
with_number_at m size v (regions.Area at) = record m { area = with_number size m.area at v }
with_number_at m size v (regions.Stack at) = record m { stack = with_number size m.stack at v }

-- the number at an address
unfoldable pub read : State → ℕ → Size → Result ℕ Stop
read m address size = touched m address size >>= λ (r : Region). Ok (number_at m size r)

-- the state with a number at an address
unfoldable pub written : State → ℕ → Size → ℕ → Result State Stop
written m address size v = touched m address size >>= λ (r : Region). Ok (with_number_at m size v r)

-- the state with a register set; the stack pointer may not be set under the stack's bottom
unfoldable pub register_set : State → Reg → ℕ → Result State Stop
register_set m r v = if reg_number r == 14 && nat_lt v STACK_START then Err stack_full else Ok (with_reg m r v)

-- a number over the low part of another
abbrev pub merged : Size → ℕ → ℕ → ℕ
merged Byte old v = old - old % 2 ^ 8 + v % 2 ^ 8
merged Word old v = old - old % 2 ^ 16 + v % 2 ^ 16
merged Long old v = v
