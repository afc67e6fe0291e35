-- Calls, returns and the two services.
use Rattle.std.specs.Prelude.{ℕ, ◌-◌, ◌%◌, ◌^◌, ◌==◌, nat_le, List, [], ◌∷◌, ◌++◌, length, take, slice_get, slice_set}
use Rattle.std.specs.Prelude.{Option, Some, None, Result, Ok, Err, if◌then◌else◌}
use Rattle.std.specs.Str.{bytes_eq}
use Rattle.gg_base.specs.declared.limits.TheConstants.{FRAME_LIMIT}
use Rattle.gg_base.specs.declared.size.Size.TheVariants.{Long}
use Rattle.gg_base.specs.Arithmetic.{add32, sub32, mul32}
use Rattle.vax_core.specs.First.{putchar_name}
use Rattle.vax_machine.specs.Labels.{getchar_name}
use Rattle.l32_machine.specs.declared.turn.Stop32.{Stop32}
use Rattle.l32_machine.specs.declared.turn.Stop32.TheVariants.{Ended}
use Rattle.l32_machine.specs.declared.frame.Frame32.{Frame32}
use Rattle.l32_machine.specs.State.{State, reg, with_reg, bad_code, stack_full, ◌>>=◌}
use Rattle.l32_machine.specs.Memory.{read, written, sp_set}
use Rattle.l32_machine.specs.Labels.{label_place}

-- what an instruction wrote, if anything, and the state after it; or how the run is over
abbrev pub Acts : Type 0
Acts = Result (Option ℕ × State) Stop32

-- nothing is written
abbrev pub silent : Result State Stop32 → Acts
silent did = did >>= λ (n : State). Ok (None, n)

-- a longword on the stack
unfoldable pub pushed : State → ℕ → Result State Stop32
pushed m v = let sp = sub32 m.sp 4 in sp_set m sp >>= λ (n : State). written n sp Long v

-- what a call with so many arguments notes: the registers, and the stack pointer behind its arguments
abbrev pub noted : State → ℕ → Frame32
noted m count = record { general = m.general; fp = m.fp; sp = add32 m.sp (mul32 4 count); back = Some m.place }

-- a call with so many arguments of the code at a place
unfoldable pub called : State → ℕ → ℕ → Result State Stop32
called m count place =
    if nat_le FRAME_LIMIT (length m.frames) then Err stack_full
    else Ok (record m { frames = m.frames ++ noted m count ∷ []; fp = m.sp; place = place })

-- a1 to a11 and the frame pointer are taken back, a0 stays
abbrev pub taken_back : State → List Frame32 → Frame32 → State
taken_back m outer f = record m { frames = outer; general = slice_set f.general 0 (reg m 0); fp = f.fp }

-- the caller goes on with its stack pointer, or the run ends with a0
abbrev pub back_to : State → ℕ → Option ℕ → Acts
back_to m sp None = Err (Ended (reg m 0))
back_to m sp (Some place) = silent (sp_set (record m { place = place }) sp)

-- a return from the innermost frame
abbrev pub returned_from : State → List Frame32 → Option Frame32 → Acts
returned_from m outer None = Err bad_code
returned_from m outer (Some f) = back_to (taken_back m outer f) f.sp f.back

unfoldable pub returned : State → Acts
returned m = returned_from m (take (length m.frames - 1) m.frames) (slice_get m.frames (length m.frames - 1))

-- the service `putchar`: it takes its argument off the stack and writes the low byte
unfoldable pub putchar : State → ℕ → Acts
putchar m count =
    if count == 1 then
    (read m m.sp Long >>= λ (v : ℕ). sp_set m (add32 m.sp 4) >>= λ (n : State). Ok (Some (v % 2 ^ 8), with_reg n 0 (v % 2 ^ 8)))
    else Err bad_code

-- a0 is the next byte of the input, or -1 at its end
abbrev pub got : State → List ℕ → State
got m [] = with_reg m 0 (2 ^ 32 - 1)
got m (b ∷ rest) = with_reg (record m { input = rest }) 0 b

-- the service `getchar`
unfoldable pub getchar : State → ℕ → Acts
getchar m count = if count == 0 then Ok (None, got m m.input) else Err bad_code

-- a call of a service, or of the code at a label
unfoldable pub called_by_name : State → ℕ → Option (List ℕ) → Acts
called_by_name m count None = Err bad_code
called_by_name m count (Some name) =
    if bytes_eq name putchar_name then putchar m count
    else if bytes_eq name getchar_name then getchar m count
    else silent (called m count (label_place m.items name))
