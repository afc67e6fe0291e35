-- Memory: the data area and the stack, addressed by bytes, little-endian, unaligned accesses allowed.
use Rattle.std.specs.Prelude.{ℕ, ◌+◌, ◌-◌, ◌&&◌, nat_lt, nat_le, length, Result, Ok, Err, if◌then◌else◌}
use Rattle.gg_base.specs.declared.limits.TheConstants.{AREA_START, STACK_START, STACK_TOP}
use Rattle.gg_base.specs.declared.size.Size.{Size}
use Rattle.gg_base.specs.Sizes.{bytes_of}
use Rattle.gg_base.specs.LittleEndian.{number_in, with_number}
use Rattle.l32_machine.specs.declared.turn.Stop32.{Stop32}
use Rattle.l32_machine.specs.declared.memory.Region.{Region}
use Rattle.l32_machine.specs.declared.memory.Region.TheVariants as regions
use Rattle.l32_machine.specs.State.{State, access, stack_full, ◌>>=◌}

-- where the bytes from an address on are kept: the data area begins at `AREA_START`, the stack lies from `STACK_START` to `STACK_TOP`
unfoldable pub touched : State → ℕ → Size → Result Region Stop32
touched m address size =
    if nat_le AREA_START address && nat_le (address + bytes_of size) (AREA_START + length m.area) then
    Ok (regions.Area (address - AREA_START))
    else if nat_le STACK_START address && nat_le (address + bytes_of size) STACK_TOP then Ok (regions.Stack (address - STACK_START))
    else Err access

abbrev pub number_at : State → Size → Region → ℕ
number_at m size (regions.Area at) = number_in size m.area at
number_at m size (regions.Stack at) = number_in size m.stack at

abbrev pub with_number_at : State → Size → ℕ → Region → State
with_number_at m size v (regions.Area at) = record m { area = with_number size m.area at v }
with_number_at m size v (regions.Stack at) = record m { stack = with_number size m.stack at v }

-- the number at an address
unfoldable pub read : State → ℕ → Size → Result ℕ Stop32
read m address size = touched m address size >>= λ (r : Region). Ok (number_at m size r)

-- the state with a number at an address
unfoldable pub written : State → ℕ → Size → ℕ → Result State Stop32
written m address size v = touched m address size >>= λ (r : Region). Ok (with_number_at m size v r)

-- the state with the stack pointer set, which may not be set under the stack's bottom
unfoldable pub sp_set : State → ℕ → Result State Stop32
sp_set m v = if nat_lt v STACK_START then Err stack_full else Ok (record m { sp = v })
