-- Calls, returns and the two services.
use Rattle.std.specs.Prelude.{ℕ, zero, suc, ◌+◌, ◌-◌, ◌/◌, ◌%◌, ◌^◌, ◌==◌, nat_le, List, [], ◌∷◌, ◌++◌, length, take}
use Rattle.std.specs.Prelude.{slice_index, slice_set, slice_get, Option, Some, None, Result, Ok, Err, if◌then◌else◌}
use Rattle.std.specs.Str.{bytes_eq}
use Rattle.std.specs.Int.RustNames.{count_ones}
use Rattle.gg_base.specs.declared.limits.TheConstants.{FRAME_LIMIT}
use Rattle.gg_base.specs.declared.size.Size.TheVariants.{Byte, Long}
use Rattle.gg_base.specs.Arithmetic.{add32, sub32, mul32}
use Rattle.vax_core.specs.declared.register.Reg.TheVariants.{R0, Fp, Sp}
use Rattle.vax_core.specs.declared.code.CodeItem.{CodeItem}
use Rattle.vax_core.specs.declared.code.CodeItem.TheVariants as item_kind
use Rattle.vax_core.specs.First.{putchar_name}
use Rattle.vax_machine.specs.declared.turn.Stop.{Stop}
use Rattle.vax_machine.specs.declared.turn.Stop.TheVariants.{Ended}
use Rattle.vax_machine_live.specs.declared.frame.Frame.{Frame}
use Rattle.vax_machine.specs.declared.memory.Region.{Region}
use Rattle.vax_machine.specs.State.{State, reg, with_reg, cleared, with_conditions, frame, bad_code, stack_full, ◌>>=◌}
use Rattle.vax_machine.specs.Memory.{touched, read, written, register_set}
use Rattle.vax_machine.specs.Labels.{getchar_name, next_item, label_place}

-- what an instruction wrote, if anything, and the state after it; or how the run is over
abbrev pub Acts : Type 0
Acts = Result (Option ℕ × State) Stop

-- a longword on the stack
unfoldable pub pushed : State → ℕ → Result State Stop
pushed m v =
    let sp = sub32 (reg m Sp) 4 in
    register_set m Sp sp >>= λ (n : State). written n sp Long v

-- room for a control word on the stack: tested as a push is, but nothing is written
unfoldable pub reserved : State → Result State Stop
reserved m =
    let sp = sub32 (reg m Sp) 4 in
    register_set m Sp sp >>= λ (n : State). touched n sp Long >>= λ (r : Region). Ok n

abbrev pub all_reserved : ℕ → State → Result State Stop
all_reserved zero m = Ok m
all_reserved (suc k) m = reserved m >>= λ (n : State). all_reserved k n

-- the entry mask of an item, where it is one
abbrev pub entry_mask : Option CodeItem → Option ℕ
entry_mask None = None
entry_mask (Some (item_kind.Label n)) = None
entry_mask (Some (item_kind.Globl n)) = None
entry_mask (Some (item_kind.Mask mask)) = Some mask
entry_mask (Some (item_kind.Instr i)) = None

-- one more frame is live, and execution goes on behind the mask
abbrev pub entered : State → ℕ → ℕ → ℕ → ℕ → Option ℕ → Result State Stop
entered m ap top mask behind back =
    if nat_le FRAME_LIMIT (length m.frames) then Err stack_full
    else Ok (record m {
      frames = m.frames ++ record { fp = reg m Sp; top = top; ap = ap; mask = mask; saved = m.registers; back = back } ∷ [];
      registers = slice_set (slice_set m.registers 13 (reg m Sp)) 12 ap;
      conditions = cleared;
      place = behind;
    })

-- the stack is aligned, and the saved registers and five further control words take their room
abbrev pub framed : State → ℕ → Option ℕ → ℕ → Option ℕ → Result State Stop
framed m ap None entry back = Err bad_code
framed m ap (Some mask) entry back =
    register_set m Sp (ap - ap % 4)
    >>= λ (n : State). all_reserved (count_ones mask + 5) n
    >>= λ (k : State). entered k ap (ap - ap % 4) mask (entry + 1) back

-- a call with so many arguments of the code at a place
unfoldable pub called : State → ℕ → ℕ → Option ℕ → Result State Stop
called m count place back =
    pushed m count
    >>= λ (n : State). framed n (reg n Sp) (entry_mask (slice_get n.items (next_item n.items place))) (next_item n.items place) back

-- a register after a return: restored where the mask has it
abbrev pub restored : State → Frame → ℕ → ℕ
restored m f r = if (f.mask / 2 ^ r) % 2 == 1 then slice_index f.saved r else slice_index m.registers r

-- r0 to r11, ap, fp and sp after a return that pops so many arguments
abbrev pub returned_registers : State → Frame → ℕ → List ℕ
returned_registers m f count =
    restored m f 0 ∷ (restored m f 1 ∷ (restored m f 2 ∷ (restored m f 3 ∷ (restored m f 4 ∷ (restored m f 5 ∷
    (restored m f 6 ∷ (restored m f 7 ∷ (restored m f 8 ∷ (restored m f 9 ∷ (restored m f 10 ∷ (restored m f 11 ∷
    (slice_index f.saved 12 ∷ (slice_index f.saved 13 ∷ (add32 f.ap (add32 4 (mul32 4 count)) ∷ []))))))))))))))

-- the caller goes on, or the run ends with r0
abbrev pub back_to : State → Option ℕ → Acts
back_to m None = Err (Ended (reg m R0))
back_to m (Some place) = Ok (None, record m { place = place })

abbrev pub left : State → Frame → ℕ → State
left m f count = record m { registers = returned_registers m f count; conditions = cleared }

-- a return from the innermost frame; the number of arguments is the low byte of the longword at the frame's ap
abbrev pub returned_from : State → List Frame → Option Frame → Acts
returned_from m outer None = Err bad_code
returned_from m outer (Some f) =
    if reg m Fp == f.fp then
    (read (record m { frames = outer }) f.ap Byte
    >>= λ (count : ℕ). back_to (left (record m { frames = outer }) f count) f.back)
    else Err frame

unfoldable pub returned : State → Acts
returned m = returned_from m (take (length m.frames - 1) m.frames) (slice_get m.frames (length m.frames - 1))

-- the service `putchar`: it takes its argument off the stack and writes the low byte
unfoldable pub putchar : State → ℕ → Acts
putchar m count =
    if count == 1 then
    (read m (reg m Sp) Long
    >>= λ (v : ℕ). register_set m Sp (add32 (reg m Sp) 4)
    >>= λ (n : State). Ok (Some (v % 2 ^ 8), with_conditions (with_reg n R0 (v % 2 ^ 8)) cleared))
    else Err bad_code

-- r0 is the next byte of the input, or -1 at its end
abbrev pub got : State → List ℕ → State
got m [] = with_conditions (with_reg m R0 (2 ^ 32 - 1)) cleared
got m (b ∷ rest) = with_conditions (with_reg (record m { input = rest }) R0 b) cleared

-- the service `getchar`
unfoldable pub getchar : State → ℕ → Acts
getchar m count = if count == 0 then Ok (None, got m m.input) else Err bad_code

abbrev pub silent : Result State Stop → Acts
silent did = did >>= λ (n : State). Ok (None, n)

-- a call of a service, or of the code at a label
unfoldable pub called_by_name : State → ℕ → Option (List ℕ) → Acts
called_by_name m count None = Err bad_code
called_by_name m count (Some name) =
    if bytes_eq name putchar_name then putchar m count
    else if bytes_eq name getchar_name then getchar m count
    else silent (called m count (label_place m.items name) (Some m.place))
