-- Where the data area is touched.
use Rattle.std.proofs.Common.{◌≡◌, ℕ, ◌+◌, ◌-◌, Bool, true, cond, Result, Ok, Err, ap}
use Rattle.std.specs.Prelude.{nat_le, ◌&&◌}
use Rattle.gg_base.specs.declared.limits.TheConstants.{AREA_START, STACK_START, STACK_TOP}
use Rattle.gg_base.specs.declared.size.Size.{Size}
use Rattle.gg_base.specs.Sizes.{bytes_of}
use Rattle.gg_base.specs.LittleEndian.{number_in}
use Rattle.vax_machine_lists.specs.vax_machine_live.specs.Control.{in_control}
use Rattle.vax_machine_lists.specs.vax_machine.specs.declared.turn.Stop.{Stop}
use Rattle.vax_machine_lists.specs.vax_machine.specs.declared.memory.Region.{Region}
use Rattle.vax_machine_lists.specs.vax_machine.specs.declared.memory.Region.TheVariants as regions
use Rattle.vax_machine_lists.specs.vax_machine.specs.State.{State, access, frame, ◌>>=◌}
use Rattle.vax_machine_lists.specs.vax_machine.specs.Memory.{touched, read, number_at}
use Rattle.vax_confined.specs.Confined.{in_area}

pub data_touched : (m : State) (a : ℕ) (s : Size) → in_area m a s ≡ true → touched m a s ≡ Ok (regions.Area (a - AREA_START))
unfolding touched
data_touched m a s e = ap (λ (b : Bool). cond b (Ok (regions.Area (a - AREA_START)))
    (cond (nat_le STACK_START a && nat_le (a + bytes_of s) STACK_TOP) (cond (in_control m.frames a (bytes_of s)) (Err frame) (Ok (regions.Stack (a - STACK_START)))) (Err access))) e

pub data_read : (m : State) (a : ℕ) (s : Size) → in_area m a s ≡ true → read m a s ≡ Ok (number_in s m.area (a - AREA_START))
unfolding read
data_read m a s e = ap (λ (t : Result Region Stop). t >>= λ (r : Region). Ok (number_at m s r)) (data_touched m a s e)
