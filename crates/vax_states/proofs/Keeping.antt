-- What leaves a state standing for a state of a tree program.
use Rattle.std.proofs.Common.{◌≡◌, ◌⊎◌, inl, inr, ⊎_elim, ℕ, zero, suc, ◌+◌, ◌-◌, ◌*◌, ◌^◌, ◌<◌, ◌≤◌, Bool, true, false, cond, List, [], ◌∷◌, length, Some, refl, sym, ap}
use Rattle.std.proofs.Common.{◌∙◌, arith, length-set}
use Rattle.std.specs.Prelude.{slice_get, slice_set, ◌==◌}
use Rattle.std.proofs.lemmas.Bool.{eqb-true, eqb-false, cases_lt}
use Rattle.std.proofs.lemmas.Option.{slice_get_within, same_Some}
use Rattle.gg_base.specs.declared.size.Size.{Size}
use Rattle.gg_base.specs.declared.size.Size.TheVariants.{Long}
use Rattle.gg_base.specs.Sizes.{bytes_of}
use Rattle.gg_base.specs.LittleEndian.{with_number}
use Rattle.vax_machine_lists.specs.vax_core.specs.declared.register.Reg.{Reg}
use Rattle.vax_machine_lists.specs.vax_core.specs.Registers.{reg_number}
use Rattle.vax_machine_lists.specs.vax_machine_live.specs.declared.frame.Frame.{Frame}
use Rattle.vax_machine_lists.specs.vax_machine.specs.State.{State, reg}
use Rattle.tree_meaning.specs.State.{Activation, with_local, Extent}
use Rattle.vax_states.specs.Stack.{long_at, word_of, argument_of, Holds, SameFrom}
use Rattle.vax_machine_lists.specs.Sound.{IsSound}
use Rattle.vax_machine_lists.proofs.Longwords.{length-with, length-with_any, with_below, below_set, below_get}
use Rattle.vax_states.proofs.Pieces.{stored_other, stored_there, stored_below, low_fp, fp_high, word_low, word_high, words_apart, local_word, argument_high, holds_kept}

-- ---- sound states

pub sound_register : (m : State) (n v : ℕ) → IsSound m → v < 2 ^ 32 → IsSound (record m { registers = slice_set m.registers n v })
sound_register m n v h lt = record {
  going = h.going;
  registers = length-set m.registers n v ∙ h.registers;
  longwords = below_set (2 ^ 32) n v m.registers lt h.longwords;
  stack = h.stack;
  stack_bytes = h.stack_bytes;
  area = h.area;
  area_bytes = h.area_bytes;
  input_bytes = h.input_bytes;
}

pub sound_stack : (m : State) (at v : ℕ) → IsSound m → at + 4 ≤ 8388608 → IsSound (record m { stack = with_number Long m.stack at v })
sound_stack m at v h le = record {
  going = h.going;
  registers = h.registers;
  longwords = h.longwords;
  stack = length-with m.stack at v (omega (arith, h.stack)) ∙ h.stack;
  stack_bytes = with_below Long m.stack at v h.stack_bytes;
  area = h.area;
  area_bytes = h.area_bytes;
  input_bytes = h.input_bytes;
}

pub sound_area : (m : State) (size : Size) (at v : ℕ) → IsSound m → at + bytes_of size ≤ length m.area → IsSound (record m { area = with_number size m.area at v })
sound_area m size at v h le =
    let same = length-with_any size m.area at v le in
    record {
      going = h.going;
      registers = h.registers;
      longwords = h.longwords;
      stack = h.stack;
      stack_bytes = h.stack_bytes;
      area = omega (arith, same, h.area);
      area_bytes = with_below size m.area at v h.area_bytes;
      input_bytes = h.input_bytes;
    }

pub reg_small : (m : State) (r : Reg) → IsSound m → reg m r < 2 ^ 32
reg_small m r h = below_get (2 ^ 32) (reg_number r) m.registers (omega arith) h.longwords

-- ---- lists

-- what stands in a list with one element set
pub set_get : {A : Type 0} (xs : List A) (i j : ℕ) (v w : A) → slice_get (slice_set xs i v) j ≡ Some w → ((j ≡ i) × (v ≡ w)) ⊎ ((j ≡ i → ⊥) × (slice_get xs j ≡ Some w))
set_get [] i zero v w e = absurd cc
set_get [] i (suc j) v w e = absurd cc
set_get (x ∷ xs) zero zero v w e = inl (refl, same_Some v w e)
set_get (x ∷ xs) zero (suc j) v w e = inr ((λ q. omega (arith, q)), e)
set_get (x ∷ xs) (suc i) zero v w e = inr ((λ q. omega (arith, q)), e)
set_get (x ∷ xs) (suc i) (suc j) v w e = ⊎_elim (λ h. inl (ap suc h.0, h.1)) (λ h. inr ((λ q. h.0 (omega (arith, q))), h.1)) (set_get xs i j v w e)

differ : (j k : ℕ) → (j ≡ k → ⊥) → (j < k) ⊎ (k < j)
differ j k ne = ⊎_elim (λ lt. inl lt) (λ le. inr (omega (arith, ne))) (cases_lt j k)

-- ---- the innermost piece, with one longword stored

module _ (stack : List ℕ) (f : Frame) (e : Extent) (a : Activation) (low high : ℕ) (h : Holds stack f e a low high) (bottom : 2139095040 ≤ low) (top : high ≤ 2139095040 + length stack) where
  -- in a word that may be used freely
  pub word_holds : (k v : ℕ) → e.locals ≤ k → k < e.words → Holds (with_number Long stack (word_of f.fp k - 2139095040) v) f e a low high
  word_holds k v free lt =
      let x = word_of f.fp k in
      let over = word_low stack f e a low high h k lt in
      let under = word_high stack f e a low high h k lt in
      let end = fp_high stack f e a low high h in
      let other : (b : ℕ) → 2139095040 ≤ b → (x + 4 ≤ b) ⊎ (b + 4 ≤ x) → long_at (with_number Long stack (x - 2139095040) v) b ≡ long_at stack b =
      λ b from apart. stored_other stack x b v (omega (arith, over, bottom)) (omega (arith, under, end, top)) from apart in
      record {
        words = h.words;
        control = h.control;
        saved = h.saved;
        top = h.top;
        end = h.end;
        aligned = h.aligned;
        locals = h.locals;
        few = h.few;
        mask = h.mask;
        count = other f.ap (omega (arith, h.control, h.top, bottom, under)) (inl (omega (arith, under, h.control, h.top))) ∙ h.count;
        argument = λ i w is. other (argument_of f.ap (i + 1)) (omega (arith, h.control, h.top, bottom, under)) (inl (omega (arith, under, h.control, h.top))) ∙ h.argument i w is;
        is_local = h.is_local;
        local =
            λ j w is. let below =
            h.is_local j w is in
            other (word_of f.fp j) (omega (arith, bottom, word_low stack f e a low high h j (omega (arith, below, free, lt))))
            (inl (words_apart stack f e a low high h j k (omega (arith, below, free, lt)) lt (omega (arith, below, free)))) ∙ h.local j w is;
        pushed = λ i w is. let there = slice_get_within a.pushed i w is in other (low + 4 * i) (omega (arith, bottom)) (inr (omega (arith, there, over))) ∙ h.pushed i w is;
      }

  -- in a local
  pub local_holds : (k v : ℕ) → k < e.locals → v < 2 ^ 32 → Holds (with_number Long stack (word_of f.fp k - 2139095040) v) f e (record a { locals = with_local a.locals k v }) low high
  local_holds k v is fits =
      let x = word_of f.fp k in
      let lt : k < e.words = omega (arith, is, h.locals) in
      let over = word_low stack f e a low high h k lt in
      let under = word_high stack f e a low high h k lt in
      let end = fp_high stack f e a low high h in
      let other : (b : ℕ) → 2139095040 ≤ b → (x + 4 ≤ b) ⊎ (b + 4 ≤ x) → long_at (with_number Long stack (x - 2139095040) v) b ≡ long_at stack b =
      λ b from apart. stored_other stack x b v (omega (arith, over, bottom)) (omega (arith, under, end, top)) from apart in
      let there : long_at (with_number Long stack (x - 2139095040) v) x ≡ v = stored_there stack x v (omega (arith, over, bottom)) (omega (arith, under, end, top)) fits in
      record {
        words = h.words;
        control = h.control;
        saved = h.saved;
        top = h.top;
        end = h.end;
        aligned = h.aligned;
        locals = h.locals;
        few = h.few;
        mask = h.mask;
        count = other f.ap (omega (arith, h.control, h.top, bottom, under)) (inl (omega (arith, under, h.control, h.top))) ∙ h.count;
        argument = λ i w g. other (argument_of f.ap (i + 1)) (omega (arith, h.control, h.top, bottom, under)) (inl (omega (arith, under, h.control, h.top))) ∙ h.argument i w g;
        is_local = λ j w g. known j w (j == k) refl g;
        local = λ j w g. value j w other there (j == k) refl g;
        pushed = λ i w g. let at = slice_get_within a.pushed i w g in other (low + 4 * i) (omega (arith, bottom)) (inr (omega (arith, at, over))) ∙ h.pushed i w g;
      }
    where
      known : (j w : ℕ) (b : Bool) → (j == k) ≡ b → cond b (Some v) (a.locals j) ≡ Some w → j < e.locals
      known j w true eq g = let s : j ≡ k = eqb-true j k eq in omega (arith, s, is)
      known j w false eq g = h.is_local j w g

      apart : (j : ℕ) → j < e.words → k < e.words → (j < k) ⊎ (k < j) → (word_of f.fp k + 4 ≤ word_of f.fp j) ⊎ (word_of f.fp j + 4 ≤ word_of f.fp k)
      apart j lj lk (inl lt) = inl (words_apart stack f e a low high h j k lj lk lt)
      apart j lj lk (inr gt) = inr (words_apart stack f e a low high h k j lk lj gt)

      value : (j w : ℕ) → ((b : ℕ) → 2139095040 ≤ b → (word_of f.fp k + 4 ≤ b) ⊎ (b + 4 ≤ word_of f.fp k) → long_at (with_number Long stack (word_of f.fp k - 2139095040) v) b ≡ long_at stack b)
          → long_at (with_number Long stack (word_of f.fp k - 2139095040) v) (word_of f.fp k) ≡ v
          → (b : Bool) → (j == k) ≡ b → cond b (Some v) (a.locals j) ≡ Some w → long_at (with_number Long stack (word_of f.fp k - 2139095040) v) (word_of f.fp j) ≡ w
      value j w other there true eq g = ap (λ (i : ℕ). long_at (with_number Long stack (word_of f.fp k - 2139095040) v) (word_of f.fp i)) (eqb-true j k eq) ∙ there ∙ same_Some v w g
      value j w other there false eq g =
          let lj = local_word stack f e a low high h j w g in
          let lk : k < e.words = omega (arith, is, h.locals) in
          other (word_of f.fp j) (omega (arith, bottom, word_low stack f e a low high h j lj)) (apart j lj lk (differ j k (eqb-false j k eq))) ∙ h.local j w g

  -- in an argument
  pub argument_holds : (k v : ℕ) → k < length a.arguments → v < 2 ^ 32
      → Holds (with_number Long stack (argument_of f.ap (k + 1) - 2139095040) v) f e (record a { arguments = slice_set a.arguments k v }) low high
  argument_holds k v is fits =
      let x = argument_of f.ap (k + 1) in
      let down = low_fp stack f e a low high h in
      let under = argument_high stack f e a low high h k is in
      let other : (b : ℕ) → 2139095040 ≤ b → (x + 4 ≤ b) ⊎ (b + 4 ≤ x) → long_at (with_number Long stack (x - 2139095040) v) b ≡ long_at stack b =
      λ b from apart. stored_other stack x b v (omega (arith, down, h.control, h.top, bottom)) (omega (arith, under, top)) from apart in
      let there : long_at (with_number Long stack (x - 2139095040) v) x ≡ v = stored_there stack x v (omega (arith, down, h.control, h.top, bottom)) (omega (arith, under, top)) fits in
      let size : length (slice_set a.arguments k v) ≡ length a.arguments = length-set a.arguments k v in
      record {
        words = h.words;
        control = h.control;
        saved = h.saved;
        top = h.top;
        end = omega (arith, h.end, size);
        aligned = h.aligned;
        locals = h.locals;
        few = omega (arith, h.few, size);
        mask = h.mask;
        count = other f.ap (omega (arith, h.control, h.top, bottom, down)) (inr (omega arith)) ∙ h.count ∙ sym size;
        argument = λ i w g. value i w other there (set_get a.arguments k i v w g);
        is_local = h.is_local;
        local =
            λ j w g. let lj =
            local_word stack f e a low high h j w g in
            other (word_of f.fp j) (omega (arith, bottom, word_low stack f e a low high h j lj)) (inr (omega (arith, word_high stack f e a low high h j lj, h.control, h.top))) ∙ h.local j w g;
        pushed = λ i w g. let at = slice_get_within a.pushed i w g in other (low + 4 * i) (omega (arith, bottom)) (inr (omega (arith, at, h.words, h.control, h.top))) ∙ h.pushed i w g;
      }
    where
      apart : (i : ℕ) → (i < k) ⊎ (k < i) → (argument_of f.ap (k + 1) + 4 ≤ argument_of f.ap (i + 1)) ⊎ (argument_of f.ap (i + 1) + 4 ≤ argument_of f.ap (k + 1))
      apart i (inl lt) = inr (omega arith)
      apart i (inr gt) = inl (omega arith)

      value : (i w : ℕ)
          → ((b : ℕ) → 2139095040 ≤ b → (argument_of f.ap (k + 1) + 4 ≤ b) ⊎ (b + 4 ≤ argument_of f.ap (k + 1)) → long_at
          (with_number Long stack (argument_of f.ap (k + 1) - 2139095040) v) b ≡ long_at stack b)
          → long_at (with_number Long stack (argument_of f.ap (k + 1) - 2139095040) v) (argument_of f.ap (k + 1)) ≡ v
          → ((i ≡ k) × (v ≡ w)) ⊎ ((i ≡ k → ⊥) × (slice_get a.arguments i ≡ Some w)) → long_at (with_number Long stack (argument_of f.ap (k + 1) - 2139095040) v) (argument_of f.ap (i + 1)) ≡ w
      value i w other there (inl s) = ap (λ (j : ℕ). long_at (with_number Long stack (argument_of f.ap (k + 1) - 2139095040) v) (argument_of f.ap (j + 1))) s.0 ∙ there ∙ s.1
      value i w other there (inr g) = other (argument_of f.ap (i + 1)) (omega (arith, bottom, low_fp stack f e a low high h, h.control, h.top)) (apart i (differ i k g.0)) ∙ h.argument i w g.1

  -- one more longword is pushed
  pub push_holds : (v : ℕ) → 2139095044 ≤ low → v < 2 ^ 32 → Holds (with_number Long stack (low - 4 - 2139095040) v) f e (record a { pushed = v ∷ a.pushed }) (low - 4) high
  push_holds v room fits =
      let x = low - 4 in
      let down = low_fp stack f e a low high h in
      let end = fp_high stack f e a low high h in
      let same : SameFrom low stack (with_number Long stack (x - 2139095040) v) = stored_below stack x v low (omega arith) (omega (arith, down, end, top)) (omega arith) in
      let there : long_at (with_number Long stack (x - 2139095040) v) x ≡ v = stored_there stack x v (omega arith) (omega (arith, down, end, top)) fits in
      let kept = holds_kept stack f e a low high h (with_number Long stack (x - 2139095040) v) same in
      record {
        words = omega (arith, h.words);
        control = h.control;
        saved = h.saved;
        top = h.top;
        end = h.end;
        aligned = h.aligned;
        locals = h.locals;
        few = h.few;
        mask = h.mask;
        count = kept.count;
        argument = kept.argument;
        is_local = h.is_local;
        local = kept.local;
        pushed = λ i w g. value i w there kept g;
      }
    where
      value : (i w : ℕ) → long_at (with_number Long stack (low - 4 - 2139095040) v) (low - 4) ≡ v → Holds (with_number Long stack (low - 4 - 2139095040) v) f e a low high
          → slice_get (v ∷ a.pushed) i ≡ Some w
          → long_at (with_number Long stack (low - 4 - 2139095040) v) (low - 4 + 4 * i) ≡ w
      value zero w there kept g = let z : low - 4 + 4 * 0 ≡ low - 4 = omega arith in ap (λ (b : ℕ). long_at (with_number Long stack (low - 4 - 2139095040) v) b) z ∙ there ∙ same_Some v w g
      value (suc i) w there kept g =
          let z : low - 4 + 4 * suc i ≡ low + 4 * i = omega (arith, room) in ap (λ (b : ℕ). long_at (with_number Long stack (low - 4 - 2139095040) v) b) z ∙ kept.pushed i w g
