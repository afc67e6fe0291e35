-- What the instructions of a frame do: `subl2 $n,sp`, and `clrl r0` with `ret`.
use Rattle.std.proofs.Common.{◌≡◌, ℕ, zero, suc, ◌+◌, ◌-◌, ◌*◌, ◌≤◌, Bool, false, cond, List, [], ◌∷◌, None, Ok, Err, refl, ap, arith, get_or-set_same, get_or-set_other}
use Rattle.std.specs.Prelude.{nat_lt}
use Rattle.std.proofs.lemmas.Bool.{le-ltb}
use Rattle.gg_base.specs.declared.size.Size.TheVariants.{Long}
use Rattle.gg_base.specs.Arithmetic.{sub32}
use Rattle.vax_core.specs.declared.register.Reg.TheVariants.{R0, Ap, Fp, Sp}
use Rattle.vax_core.specs.declared.op.Op.TheVariants.{Subl2}
use Rattle.vax_core.specs.First.{imm, in_reg}
use Rattle.vax_machine.specs.declared.function.Conditions.{Conditions}
use Rattle.vax_machine.specs.State.{State, reg, with_reg, with_conditions, stack_full, ◌>>=◌}
use Rattle.vax_machine.specs.Memory.{register_set}
use Rattle.vax_machine.specs.Operands.{evaluated, located, taken, stored}
use Rattle.vax_machine.specs.Functions.{valued}
use Rattle.tree_core.specs.declared.program.Object.{Object}
use Rattle.tree_meaning.specs.State.{State as Trees, Extent}
use Rattle.vax_states.specs.vax_machine_lists.specs.Sound.{IsSound}
use Rattle.vax_states.specs.Agreeing.{Agrees}
use Rattle.vax_states.specs.vax_machine_lists.specs.Instructions.{ends, comes, Returns, course_of, followed, performed, exec}
use Rattle.vax_states.specs.vax_machine_lists.proofs.Soundness.{conditions_sound}
use Rattle.vax_frames.specs.Frames.{instr, room_code, end_code}
use Rattle.vax_states.proofs.Keeping.{sound_register}
use Rattle.vax_states.proofs.Standing.{kept}
use Rattle.vax_frames_law.proofs.Entering.{SameMemory}

-- sp is lower by so many longwords, and all else is the same
pub record Lowers (m n : State) (words : ℕ) : Type 0 where
  pub sound : IsSound n
  pub memory : SameMemory m n
  pub fp : reg n Fp ≡ reg m Fp
  pub ap : reg n Ap ≡ reg m Ap
  pub sp : reg n Sp + 4 * words ≡ reg m Sp

same_memory : (m : State) → SameMemory m m
same_memory m = record { layout = refl; area = refl; stack = refl; frames = refl; input = refl }

module _ (m : State) (sound : IsSound m) (low : 2139095040 ≤ reg m Sp) (high : reg m Sp ≤ 2147483648) where
  lowered_codes : ℕ → Conditions
  lowered_codes k = (valued Long (sub32 (reg m Sp) k) (nat_lt (reg m Sp) k)).conditions

  subtract_is : (k : ℕ) → 2139095040 + k ≤ reg m Sp → exec (instr Subl2 (imm k ∷ (in_reg Sp ∷ [])) ∷ []) m ≡ comes (with_conditions (with_reg m Sp (sub32 (reg m Sp) k)) (lowered_codes k))
  unfolding performed evaluated located taken stored register_set lowered_codes
  subtract_is k room =
      let v : sub32 (reg m Sp) k ≡ reg m Sp - k = omega (arith, room, high) in
      let fits : nat_lt (sub32 (reg m Sp) k) 2139095040 ≡ false = le-ltb (sub32 (reg m Sp) k) 2139095040 (omega (arith, v, room)) in
      ap (λ (b : Bool). followed (course_of
      (cond b (Err stack_full) (Ok (with_reg m Sp (sub32 (reg m Sp) k))) >>= λ (n : State). Ok (None, with_conditions n (valued Long (sub32 (reg m Sp) k) (nat_lt (reg m Sp) k)).conditions))) []
      (λ (n : State). comes n)) fits

  pub room_made : (words : ℕ) → 2139095040 + 4 * words ≤ reg m Sp → (n : State) × (exec (room_code words) m ≡ comes n) × Lowers m n words
  room_made zero room = (m, refl, record { sound = sound; memory = same_memory m; fp = refl; ap = refl; sp = omega arith })
  room_made (suc w) room =
      let k = 4 * suc w in
      let v : sub32 (reg m Sp) k ≡ reg m Sp - k = omega (arith, room, high) in
      let n = with_conditions (with_reg m Sp (sub32 (reg m Sp) k)) (lowered_codes k) in
      let at : reg n Sp ≡ sub32 (reg m Sp) k = get_or-set_same m.registers 14 (sub32 (reg m Sp) k) 0 (omega (arith, sound.registers)) in (
        n,
        subtract_is k room,
        record {
          sound = conditions_sound (with_reg m Sp (sub32 (reg m Sp) k)) (lowered_codes k) (sound_register m 14 (sub32 (reg m Sp) k) sound (omega (arith, v, high)));
          memory = record { layout = refl; area = refl; stack = refl; frames = refl; input = refl };
          fp = get_or-set_other m.registers 14 13 (sub32 (reg m Sp) k) 0 (λ q. omega (arith, q));
          ap = get_or-set_other m.registers 14 12 (sub32 (reg m Sp) k) 0 (λ q. omega (arith, q));
          sp = omega (arith, at, v, room);
        },
      )

-- r0 is 0, and the function returns
module _ (objects : List Object) (e : Extent) (es : List Extent) (t : Trees) (m : State) (h : Agrees objects e es t m) where
  abbrev pub zero_codes : Conditions
  zero_codes = (valued Long 0 m.conditions.carry).conditions

  abbrev pub ended : State
  ended = with_conditions (with_reg m R0 0) zero_codes

  pub end_is : exec end_code m ≡ ends (Returns ended)
  unfolding performed evaluated located taken stored register_set
  end_is = refl

  pub end_agrees : Agrees objects e es t ended
  end_agrees =
      kept objects e es t m h ended (conditions_sound (with_reg m R0 0) zero_codes (sound_register m 0 0 h.sound (omega arith))) refl refl refl refl
      (get_or-set_other m.registers 0 13 0 0 (λ q. omega (arith, q)))
      (get_or-set_other m.registers 0 12 0 0 (λ q. omega (arith, q)))
      (get_or-set_other m.registers 0 14 0 0 (λ q. omega (arith, q)))
      (λ a from. refl)

  pub end_result : reg ended R0 ≡ 0
  end_result = get_or-set_same m.registers 0 0 0 (omega (arith, h.sound.registers))
