-- What a return undoes, whatever code ran since the call.
use Rattle.std.specs.Prelude.{◌≡◌, ℕ, ◌*◌, ◌^◌, ◌<◌, List, [], ◌∷◌, ◌++◌, length, slice_index, Option, Some, Ok}
use Rattle.gg_base.specs.declared.size.Size.TheVariants.{Byte}
use Rattle.gg_base.specs.Arithmetic.{add32, sub32}
use Rattle.vax_core.specs.declared.register.Reg.TheVariants.{Ap, Fp, Sp}
use Rattle.vax_machine_live.specs.declared.frame.Frame.{Frame}
use Rattle.vax_machine.specs.State.{State, reg}
use Rattle.vax_machine.specs.Memory.{read}
use Rattle.vax_machine.specs.Calls.{called, returned}

-- What a call notes in its frame: where the number of arguments was pushed, fp and ap as they were, and where to go on.
pub record Notes (m n : State) (back : Option ℕ) : Type 0 where
  pub f : Frame
  pub frames : n.frames ≡ m.frames ++ f ∷ []
  pub number : f.ap ≡ sub32 (reg m Sp) 4
  pub old_fp : slice_index f.saved 13 ≡ reg m Fp
  pub old_ap : slice_index f.saved 12 ≡ reg m Ap
  pub back_is : f.back ≡ back
  pub fp : reg n Fp ≡ f.fp
  pub ap : reg n Ap ≡ f.ap

abbrev pub CallsNote : Type 0
CallsNote = (m n : State) (count place : ℕ) (back : Option ℕ) → length m.registers ≡ 15 → called m count place back ≡ Ok n → Notes m n back

-- The call is undone: its frame is gone, fp and ap are what they were, its arguments are off the stack, and the run goes on behind it.
pub record IsUndone (m r : State) (count : ℕ) (back : Option ℕ) : Type 0 where
  pub frames : r.frames ≡ m.frames
  pub fp : reg r Fp ≡ reg m Fp
  pub ap : reg r Ap ≡ reg m Ap
  pub sp : reg r Sp ≡ add32 (reg m Sp) (4 * count)
  pub goes_on : back ≡ Some r.place

-- Where the frame of a call is the innermost again and the number of arguments is found as it was pushed, a return undoes the call.
abbrev pub ReturnsUndo : Type 0
ReturnsUndo =
    (m n q r : State) (count place : ℕ) (back o : Option ℕ) → length m.registers ≡ 15 → reg m Sp < 2 ^ 32 → count < 256
    → called m count place back ≡ Ok n
    → q.frames ≡ n.frames → read (record q { frames = m.frames }) (sub32 (reg m Sp) 4) Byte ≡ Ok count → returned q ≡ Ok (o, r)
    → IsUndone m r count back
