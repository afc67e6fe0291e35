-- What leaves a machine sound.
use Rattle.std.proofs.Common.{◌≡◌, ℕ, zero, suc, ◌+◌, ◌^◌, ◌<◌, ◌≤◌, List, [], ◌∷◌, Option, length, ap, ◌∙◌, arith, length-set}
use Rattle.std.specs.Prelude.{slice_get, unwrap_or}
use Rattle.gg_base.specs.declared.size.Size.{Size}
use Rattle.gg_base.specs.declared.size.Size.TheVariants.{Long}
use Rattle.gg_base.specs.Sizes.{bytes_of}
use Rattle.gg_base.specs.LittleEndian.{with_number}
use Rattle.gg_base.proofs.Facts.{slice_set_same, slice_set_other}
use Rattle.l32_machine.specs.State.{State, reg, with_reg}
use Rattle.call_pieces.specs.vax_machine_lists.proofs.Longwords.{length-with, length-with_any, with_below, below_set}
use Rattle.call_pieces.specs.vax_machine_lists.specs.Sound.{AllBelow}
use Rattle.l32_target_meaning.specs.Agreeing.{IsSound}

pub sound_register : (m : State) (n v : ℕ) → IsSound m → v < 2 ^ 32 → IsSound (with_reg m n v)
sound_register m n v h lt = record {
  going = h.going;
  registers = length-set m.general n v ∙ h.registers;
  longwords = below_set (2 ^ 32) n v m.general lt h.longwords;
  stack = h.stack;
  stack_bytes = h.stack_bytes;
  area = h.area;
  area_bytes = h.area_bytes;
  input_bytes = h.input_bytes;
}

pub sound_sp : (m : State) (v : ℕ) → IsSound m → IsSound (record m { sp = v })
sound_sp m v h = record {
  going = h.going;
  registers = h.registers;
  longwords = h.longwords;
  stack = h.stack;
  stack_bytes = h.stack_bytes;
  area = h.area;
  area_bytes = h.area_bytes;
  input_bytes = h.input_bytes;
}

pub sound_stack : (m : State) (at v : ℕ) → IsSound m → at + 4 ≤ 8388608 → IsSound (record m { stack = with_number Long m.stack at v })
sound_stack m at v h le = record {
  going = h.going;
  registers = h.registers;
  longwords = h.longwords;
  stack = length-with m.stack at v (omega (arith, h.stack)) ∙ h.stack;
  stack_bytes = with_below Long m.stack at v h.stack_bytes;
  area = h.area;
  area_bytes = h.area_bytes;
  input_bytes = h.input_bytes;
}

pub sound_area : (m : State) (size : Size) (at v : ℕ) → IsSound m → at + bytes_of size ≤ length m.area → IsSound (record m { area = with_number size m.area at v })
sound_area m size at v h le =
    let same = length-with_any size m.area at v le in
    record {
      going = h.going;
      registers = h.registers;
      longwords = h.longwords;
      stack = h.stack;
      stack_bytes = h.stack_bytes;
      area = omega (arith, same, h.area);
      area_bytes = with_below size m.area at v h.area_bytes;
      input_bytes = h.input_bytes;
    }

-- ---- registers

get_below : (k : ℕ) (xs : List ℕ) (n : ℕ) → 0 < k → AllBelow k xs → unwrap_or (slice_get xs n) 0 < k
get_below k [] n lt h = lt
get_below k (x ∷ xs) zero lt h = h.0
get_below k (x ∷ xs) (suc n) lt h = get_below k xs n lt h.1

pub reg_small : (m : State) (n : ℕ) → IsSound m → reg m n < 2 ^ 32
reg_small m n h = get_below (2 ^ 32) m.general n (omega arith) h.longwords

pub reg_same : (m : State) (n v : ℕ) → IsSound m → n < 12 → reg (with_reg m n v) n ≡ v
reg_same m n v h lt = ap (λ (o : Option ℕ). unwrap_or o 0) (slice_set_same m.general n v (omega (arith, h.registers)))

pub reg_other : (m : State) (n v i : ℕ) → (i ≡ n → ⊥) → reg (with_reg m n v) i ≡ reg m i
reg_other m n v i ne = ap (λ (o : Option ℕ). unwrap_or o 0) (slice_set_other m.general n v i ne)
