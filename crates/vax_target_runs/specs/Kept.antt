-- What a change of registers and condition codes leaves as it was.
use Rattle.std.specs.Prelude.{◌≡◌, ℕ, ◌<◌, List, slice_index, [], ◌∷◌}
use Rattle.vax_target_lines.specs.sel_target.specs.Meaning.{RegAt}
use Rattle.vax_target_lines.specs.sel_target.specs.Outcomes.{Keeps}
use Rattle.vax_target_lines.specs.vax_machine.specs.declared.function.Conditions.{Conditions}
use Rattle.vax_target_lines.specs.vax_machine.specs.State.{State}
use Rattle.vax_target_lines.specs.vax_machine_lists.specs.Sound.{IsSound}
use Rattle.vax_target_lines.specs.vax_target_meaning.specs.Vax.{vax}

-- two states differ in condition codes and registers that may have changed
pub record Differs (changed : ℕ → Type 0) (m n : State) : Type 0 where
  pub registers : List ℕ
  pub conditions : Conditions
  pub is : n ≡ record m { registers = registers; conditions = conditions }
  pub others : (r : ℕ) → (changed r → ⊥) → slice_index registers r ≡ slice_index m.registers r
  pub sound : IsSound n

-- where one register of r0 to r11 has changed, all is kept that doesn't touch it
abbrev pub RegistersAreKept : Type 0
RegistersAreKept = (r : ℕ) (m n : State) → r < 12 → Differs (λ x. x ≡ r) m n → Keeps vax (RegAt r ∷ []) m n

-- where none has, all is kept
abbrev pub CodesAreKept : Type 0
CodesAreKept = (m n : State) → Differs (λ x. ⊥) m n → Keeps vax [] m n
