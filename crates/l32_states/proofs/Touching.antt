-- Reading and writing in the stack and in the data area.
use Rattle.std.proofs.Common.{◌≡◌, ℕ, ◌+◌, ◌-◌, ◌≤◌, true, false, Result, Ok, length, refl, ap, arith}
use Rattle.std.specs.Prelude.{nat_le}
use Rattle.std.proofs.lemmas.Bool.{le-leb, lt-leb}
use Rattle.gg_base.specs.declared.size.Size.{Size}
use Rattle.gg_base.specs.Sizes.{bytes_of}
use Rattle.gg_base.specs.LittleEndian.{number_in, with_number}
use Rattle.l32_machine.specs.declared.turn.Stop32.{Stop32}
use Rattle.l32_machine.specs.declared.memory.Region.{Region}
use Rattle.l32_machine.specs.declared.memory.Region.TheVariants.{Stack, Area}
use Rattle.l32_machine.specs.State.{State, ◌>>=◌}
use Rattle.l32_machine.specs.Memory.{touched, read, written, number_at, with_number_at}

module _ (m : State) where
  pub stack_touched : (a : ℕ) (size : Size) → length m.area ≤ 1048576 → 2139095040 ≤ a → a + bytes_of size ≤ 2147483648
      → touched m a size ≡ Ok (Stack (a - 2139095040))
  unfolding touched
  stack_touched a size small low high =
      let p : nat_le 65536 a ≡ true = le-leb 65536 a (omega arith) in
      let q : nat_le (a + bytes_of size) (65536 + length m.area) ≡ false = lt-leb (a + bytes_of size) (65536 + length m.area) (omega arith) in
      let r : nat_le 2139095040 a ≡ true = le-leb 2139095040 a low in
      let s : nat_le (a + bytes_of size) 2147483648 ≡ true = le-leb (a + bytes_of size) 2147483648 high in
      rw (p, q, r, s) refl

  pub stack_read : (a : ℕ) (size : Size) → length m.area ≤ 1048576 → 2139095040 ≤ a → a + bytes_of size ≤ 2147483648
      → read m a size ≡ Ok (number_in size m.stack (a - 2139095040))
  unfolding read
  stack_read a size small low high = ap (λ (x : Result Region Stop32). x >>= λ (r : Region). Ok (number_at m size r)) (stack_touched a size small low high)

  pub stack_written : (a : ℕ) (size : Size) (v : ℕ) → length m.area ≤ 1048576 → 2139095040 ≤ a → a + bytes_of size ≤ 2147483648
      → written m a size v ≡ Ok (record m { stack = with_number size m.stack (a - 2139095040) v })
  unfolding written
  stack_written a size v small low high = ap (λ (x : Result Region Stop32). x >>= λ (r : Region). Ok (with_number_at m size v r)) (stack_touched a size small low high)

  pub area_touched : (a : ℕ) (size : Size) → 65536 ≤ a → a + bytes_of size ≤ 65536 + length m.area → touched m a size ≡ Ok (Area (a - 65536))
  unfolding touched
  area_touched a size low high =
      let p : nat_le 65536 a ≡ true = le-leb 65536 a low in
      let q : nat_le (a + bytes_of size) (65536 + length m.area) ≡ true = le-leb (a + bytes_of size) (65536 + length m.area) high in
      rw (p, q) refl

  pub area_read : (a : ℕ) (size : Size) → 65536 ≤ a → a + bytes_of size ≤ 65536 + length m.area → read m a size ≡ Ok (number_in size m.area (a - 65536))
  unfolding read
  area_read a size low high = ap (λ (x : Result Region Stop32). x >>= λ (r : Region). Ok (number_at m size r)) (area_touched a size low high)

  pub area_written : (a : ℕ) (size : Size) (v : ℕ) → 65536 ≤ a → a + bytes_of size ≤ 65536 + length m.area
      → written m a size v ≡ Ok (record m { area = with_number size m.area (a - 65536) v })
  unfolding written
  area_written a size v low high = ap (λ (x : Result Region Stop32). x >>= λ (r : Region). Ok (with_number_at m size v r)) (area_touched a size low high)
