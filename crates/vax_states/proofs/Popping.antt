-- What a call that leaves a state standing takes off the stack, and the last call's result.
use Rattle.std.proofs.Common.{◌≡◌, ℕ, zero, suc, ◌+◌, ◌*◌, ◌%◌, ◌^◌, ◌≤◌, Bool, cond, List, [], ◌∷◌, length, Some, Result, Ok, Err, refl, sym, ap, subst, ◌∙◌, arith, drop}
use Rattle.std.proofs.Common.{get_or-set_same, get_or-set_other}
use Rattle.std.specs.Prelude.{slice_get, slice_set, nat_lt}
use Rattle.std.proofs.lemmas.Bool.{le-ltb}
use Rattle.std.proofs.lemmas.List.{length-drop}
use Rattle.std.proofs.lemmas.Option.{slice_get_within}
use Rattle.gg_base.specs.declared.size.Size.TheVariants.{Long}
use Rattle.gg_base.specs.Arithmetic.{add32}
use Rattle.tree_core.specs.declared.program.Object.{Object}
use Rattle.tree_meaning.specs.State.{State as Trees, Activation, Extent}
use Rattle.tree_meaning.specs.Steps.{without_pushed, with_result}
use Rattle.vax_machine_lists.specs.vax_core.specs.declared.register.Reg.TheVariants.{R0, Sp}
use Rattle.vax_machine_lists.specs.vax_machine_live.specs.declared.frame.Frame.{Frame}
use Rattle.vax_machine_lists.specs.vax_machine.specs.declared.turn.Stop.{Stop}
use Rattle.vax_machine_lists.specs.vax_machine.specs.State.{State, reg, with_reg, with_conditions, cleared, stack_full, ◌>>=◌}
use Rattle.vax_machine_lists.specs.vax_machine.specs.Memory.{read, register_set}
use Rattle.vax_machine_lists.specs.vax_machine.specs.Calls.{putchar}
use Rattle.vax_states.specs.Stack.{long_at, Holds}
use Rattle.vax_states.specs.Agreeing.{Agrees}
use Rattle.vax_states.proofs.Touching.{stack_read}
use Rattle.vax_states.proofs.Keeping.{sound_register}
use Rattle.vax_states.proofs.Standing.{rebuilt, high_top, free_below, fp_low, fp_high_is}

get_drop : {A : Type 0} (xs : List A) (n i : ℕ) (v : A) → slice_get (drop n xs) i ≡ Some v → slice_get xs (n + i) ≡ Some v
get_drop xs zero i v e = let z : 0 + i ≡ i = omega arith in ap (λ (k : ℕ). slice_get xs k) z ∙ e
get_drop [] (suc n) zero v e = absurd cc
get_drop [] (suc n) (suc i) v e = absurd cc
get_drop (x ∷ xs) (suc n) i v e = let z : suc n + i ≡ suc (n + i) = omega arith in ap (λ (k : ℕ). slice_get (x ∷ xs) k) z ∙ get_drop xs n i v e

-- arguments that are taken off the stack
pub dropped : (stack : List ℕ) (f : Frame) (e : Extent) (a : Activation) (low high count : ℕ) → Holds stack f e a low high → count ≤ length a.pushed
    → Holds stack f e (record a { pushed = drop count a.pushed }) (low + 4 * count) high
dropped stack f e a low high count h le =
    let size = length-drop count a.pushed in
    record {
      words = omega (arith, h.words, size, le);
      control = h.control;
      saved = h.saved;
      top = h.top;
      end = h.end;
      aligned = h.aligned;
      locals = h.locals;
      few = h.few;
      mask = h.mask;
      count = h.count;
      argument = h.argument;
      is_local = h.is_local;
      local = h.local;
      pushed = λ i v is. let z : low + 4 * count + 4 * i ≡ low + 4 * (count + i) = omega arith in ap (λ (x : ℕ). long_at stack x) z ∙ h.pushed (count + i) v (get_drop a.pushed count i v is);
    }

pub put_acts : (m : State) (v : ℕ) → read m (reg m Sp) Long ≡ Ok v → register_set m Sp (add32 (reg m Sp) 4) ≡ Ok (with_reg m Sp (reg m Sp + 4))
    → putchar m 1 ≡ Ok (Some (v % 2 ^ 8), with_conditions (with_reg (with_reg m Sp (reg m Sp + 4)) R0 (v % 2 ^ 8)) cleared)
unfolding putchar
put_acts m v e f =
    ap (λ (r : Result ℕ Stop). r >>= λ (v : ℕ). register_set m Sp (add32 (reg m Sp) 4) >>= λ (n : State). Ok (Some (v % 2 ^ 8), with_conditions (with_reg n R0 (v % 2 ^ 8)) cleared)) e
    ∙ ap (λ (r : Result State Stop). r >>= λ (n : State). Ok (Some (v % 2 ^ 8), with_conditions (with_reg n R0 (v % 2 ^ 8)) cleared)) f

pub set_up : (m : State) → 2139095040 ≤ reg m Sp → reg m Sp + 24 ≤ 2147483648 → register_set m Sp (add32 (reg m Sp) 4) ≡ Ok (with_reg m Sp (reg m Sp + 4))
unfolding register_set
set_up m low high =
    let x : add32 (reg m Sp) 4 ≡ reg m Sp + 4 = omega (arith, high) in
    ap (λ (sp : ℕ). cond (nat_lt sp 2139095040) (Err stack_full) (Ok (with_reg m Sp sp))) x
    ∙ ap (λ (b : Bool). cond b (Err stack_full) (Ok (with_reg m Sp (reg m Sp + 4)))) (le-ltb (reg m Sp + 4) 2139095040 (omega (arith, low)))

module _ (objects : List Object) (e : Extent) (es : List Extent) (t : Trees) (m : State) (h : Agrees objects e es t m) where
  -- the last call's result doesn't matter
  pub agrees_result : (v : ℕ) → Agrees objects e es (with_result t v) m
  agrees_result v = record {
    sound = h.sound;
    labelled = h.labelled;
    area = h.area;
    input = h.input;
    innermost = h.innermost;
    outer = h.outer;
    high = h.high;
    frames = h.frames;
    fp = h.fp;
    ap = h.ap;
    running = record {
      words = h.running.words;
      control = h.running.control;
      saved = h.running.saved;
      top = h.running.top;
      end = h.running.end;
      aligned = h.running.aligned;
      locals = h.running.locals;
      few = h.running.few;
      mask = h.running.mask;
      count = h.running.count;
      argument = h.running.argument;
      is_local = h.running.is_local;
      local = h.running.local;
      pushed = h.running.pushed;
    };
    callers = h.callers;
    bottom = h.bottom;
  }

  pub sp_high : reg m Sp + 24 ≤ 2147483648
  sp_high = omega (arith, fp_low objects e es t m h, fp_high_is objects e es t m h, high_top objects e es t m h)

  -- arguments are taken off the stack
  pub agrees_popped : (count : ℕ) → count ≤ length t.running.pushed → Agrees objects e es (without_pushed t count) (record m { registers = slice_set m.registers 14 (reg m Sp + 4 * count) })
  agrees_popped count le =
      let sp = reg m Sp + 4 * count in
      let at : reg (record m { registers = slice_set m.registers 14 sp }) Sp ≡ sp = get_or-set_same m.registers 14 sp 0 (omega (arith, h.sound.registers)) in
      let top : sp ≤ 2147483648 = omega (arith, h.running.words, le, fp_high_is objects e es t m h, high_top objects e es t m h) in
      rebuilt objects e es t m h (record m { registers = slice_set m.registers 14 sp }) (without_pushed t count) (sound_register m 14 sp h.sound (omega (arith, top))) refl h.area h.input refl
      (get_or-set_other m.registers 14 13 sp 0 (λ q. omega (arith, q)))
      (get_or-set_other m.registers 14 12 sp 0 (λ q. omega (arith, q)))
      (subst (λ (low : ℕ). Holds m.stack h.innermost e (without_pushed t count).running low h.high) (sym at) (dropped m.stack h.innermost e t.running (reg m Sp) h.high count h.running le))
      refl (λ a from. refl) (omega (arith, at, h.bottom))

  -- the last pushed argument is read at sp
  pub top_read : (v : ℕ) → slice_get t.running.pushed 0 ≡ Some v → read m (reg m Sp) Long ≡ Ok v
  top_read v is =
      let some = slice_get_within t.running.pushed 0 v is in
      let z : reg m Sp + 4 * 0 ≡ reg m Sp = omega arith in
      stack_read m (reg m Sp) h.sound.area h.bottom (omega (arith, sp_high)) (free_below objects e es t m h (reg m Sp) 4 (omega (arith, h.running.words, some)))
      ∙ ap (λ (x : ℕ). Ok x) (sym (ap (λ (a : ℕ). long_at m.stack a) z) ∙ h.running.pushed 0 v is)
