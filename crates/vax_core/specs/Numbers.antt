-- The register of a number.
use Rattle.std.specs.Prelude.{◌≡◌, ℕ, List, [], ◌∷◌, Option, Some, None}
use Rattle.vax_core.specs.declared.register.Reg.{Reg}
use Rattle.vax_core.specs.declared.register.Reg.TheVariants.{R0, R1, R2, R3, R4, R5, R6, R7, R8, R9, R10, R11, Ap, Fp, Sp}
use Rattle.vax_core.specs.Registers.{reg_number}

-- the registers in the order of their numbers
abbrev pub registers : List Reg
registers = R0 ∷ (R1 ∷ (R2 ∷ (R3 ∷ (R4 ∷ (R5 ∷ (R6 ∷ (R7 ∷ (R8 ∷ (R9 ∷ (R10 ∷ (R11 ∷ (Ap ∷ (Fp ∷ (Sp ∷ []))))))))))))))

-- it is the register of this number, or there is none
abbrev pub IsRegister : ℕ → Option Reg → Type 0
IsRegister n None = (r : Reg) → reg_number r ≡ n → ⊥
IsRegister n (Some r) = reg_number r ≡ n
