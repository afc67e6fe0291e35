-- Registers, and who holds them.
use Rattle.std.specs.Prelude.{◌≡◌, ◌⊎◌, ℕ, ◌<◌, ◌≤◌, ◌/◌, ◌%◌, ◌^◌, List, Option, Some, None, Bool, true, false}
use Rattle.std.specs.Prelude.{slice_get, nat_le, nat_eq, if◌then◌else◌}
use Rattle.sel_regs.specs.declared.pool.Register.{Register}
use Rattle.sel_regs.specs.declared.pool.Register.TheVariants.{Outside, Free, Taken}

-- 1 where the register is in the set, or else 0
abbrev pub bit : ℕ → ℕ → ℕ
bit set r = set / 2 ^ r % 2

-- what a register is in a new pool
abbrev pub start_of : ℕ → ℕ → Register
start_of set r = if nat_eq (bit set r) 1 then Free else Outside

-- a taken register outside the set, of the least holder, and of several such the lowest
pub record IsOldest (all : List Register) (set : ℕ) (r : ℕ) (holder : ℕ) : Type 0 where
  pub taken : slice_get all r ≡ Some (Taken holder)
  pub outside : bit set r ≡ 0
  pub least : (q h : ℕ) → slice_get all q ≡ Some (Taken h) → bit set q ≡ 0 → (holder < h) ⊎ ((holder ≡ h) × (r ≤ q))

-- the older of the best so far and the next register
abbrev pub next_best : Option (ℕ × ℕ) → ℕ → ℕ → Option (ℕ × ℕ)
next_best None r h = Some (r, h)
next_best (Some p) r h = if nat_le p.1 h then Some p else Some (r, h)

abbrev pub older_of : Option (ℕ × ℕ) → ℕ → Register → Bool → Option (ℕ × ℕ)
older_of best r Outside kept = best
older_of best r Free kept = best
older_of best r (Taken h) true = best
older_of best r (Taken h) false = next_best best r h
