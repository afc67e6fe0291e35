-- Instructions keep the registers that they don't name, and the live frames.
use Rattle.std.proofs.Common.{◌≡◌, ℕ, zero, suc, ◌*◌, ◌<◌, ◌≤◌, Bool, false, List, [], ◌∷◌, ap, arith}
use Rattle.std.specs.Prelude.{nat_lt, ◌&&◌, ◌||◌}
use Rattle.std.proofs.lemmas.Bool.{ne_eqb}
use Rattle.vax_states.specs.vax_machine_lists.specs.vax_core.specs.declared.register.Reg.TheVariants.{Sp}
use Rattle.vax_states.specs.vax_machine_lists.specs.vax_core.specs.declared.op.Op.TheVariants.{Subl2}
use Rattle.vax_states.specs.vax_machine_lists.specs.vax_core.specs.declared.code.Instr.{Instr}
use Rattle.vax_states.specs.vax_machine_lists.specs.vax_core.specs.Registers.{operands_name}
use Rattle.vax_states.specs.vax_machine_lists.specs.vax_core.specs.First.{imm, in_reg}
use Rattle.vax_states.specs.vax_machine.specs.State.{State}
use Rattle.vax_states.specs.vax_machine_lists.specs.Kept.{Same, KeptAt}
use Rattle.vax_states.specs.vax_machine_lists.specs.Instructions.{Ending, Comes, Goes, Calls, Returns, Stops, behind, performed, exec}
use Rattle.vax_states.specs.vax_machine_lists.proofs.Registers.{same, trans, register_kept, frames_kept}
use Rattle.vax_frames_law.specs.vax_frames.specs.Frames.{instr, room_code}
use Rattle.vax_frames_law.specs.Guarding.{has}
use Rattle.vax_homes_frames.specs.Trees.{NamesOnly}

module _ (r : ℕ) where
  onward : (m n : State) (e : Ending) → Same r m n → KeptAt r n e → KeptAt r m e
  onward m n (Comes k) h g = trans r m n k h g
  onward m n (Goes label k) h g = trans r m n k h g
  onward m n (Calls name count k rest) h g = trans r m n k h g
  onward m n (Returns k) h g = trans r m n k h g
  onward m n (Stops e) h g = tt

  kept_behind : (m : State) (e : Ending) (is : List Instr) → KeptAt r m e → ((n : State) → KeptAt r n (exec is n).ending) → KeptAt r m (behind e is (exec is)).ending
  kept_behind m (Comes n) is h rest = onward m n (exec is n).ending h (rest n)
  kept_behind m (Goes label n) is h rest = h
  kept_behind m (Calls name count n more) is h rest = h
  kept_behind m (Returns n) is h rest = h
  kept_behind m (Stops e) is h rest = tt

-- a register that isn't in the mask
pub names_keep : (mask r : ℕ) (is : List Instr) (m : State) → NamesOnly mask is → 2 ≤ r → r < 12 → has mask r ≡ false → KeptAt r m (exec is m).ending
names_keep mask r [] m h low high e = same r m
names_keep mask r (i ∷ is) m h low high e =
    kept_behind r m (performed i m).ending is (register_kept r (omega (arith, low)) high i m (h.0 r low high e)) (λ n. names_keep mask r is n h.1 low high e)

-- the live frames
pub frames_keep : (is : List Instr) (m : State) → KeptAt 15 m (exec is m).ending
frames_keep [] m = same 15 m
frames_keep (i ∷ is) m = kept_behind 15 m (performed i m).ending is (frames_kept i m) (λ n. frames_keep is n)

-- `subl2 $n,sp` names none of r2 to r11
sp_unnamed : (k r : ℕ) → r < 12 → operands_name (imm k ∷ (in_reg Sp ∷ [])) r ≡ false
sp_unnamed k r lt = ap (λ (b : Bool). ((b && nat_lt r 12) || false) || false) (ne_eqb 14 r (λ e. omega (arith, e, lt)))

pub room_keeps : (words r : ℕ) (m : State) → 1 ≤ r → r < 12 → KeptAt r m (exec (room_code words) m).ending
room_keeps zero r m low high = same r m
room_keeps (suc w) r m low high =
    let i = instr Subl2 (imm (4 * suc w) ∷ (in_reg Sp ∷ [])) in
    kept_behind r m (performed i m).ending [] (register_kept r low high i m (sp_unnamed (4 * suc w) r high)) (λ n. same r n)
