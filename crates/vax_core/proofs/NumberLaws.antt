-- The register of a number.
use Rattle.std.proofs.Common.{◌≡◌, ℕ, zero, suc, Option, Some, None, refl, sym, ap, ◌∙◌}
use Rattle.std.specs.Prelude.{slice_get}
use Rattle.std.proofs.lemmas.Option.{none-some, same_Some}
use Rattle.vax_core.specs.declared.register.Reg.{Reg}
use Rattle.vax_core.specs.declared.register.Reg.TheVariants.{R0, R1, R2, R3, R4, R5, R6, R7, R8, R9, R10, R11, Ap, Fp, Sp}
use Rattle.vax_core.specs.Registers.{reg_number}
use Rattle.vax_core.specs.Numbers.{registers, IsRegister}

pub register_again : (r : Reg) → slice_get registers (reg_number r) ≡ Some r
register_again R0 = refl
register_again R1 = refl
register_again R2 = refl
register_again R3 = refl
register_again R4 = refl
register_again R5 = refl
register_again R6 = refl
register_again R7 = refl
register_again R8 = refl
register_again R9 = refl
register_again R10 = refl
register_again R11 = refl
register_again Ap = refl
register_again Fp = refl
register_again Sp = refl

numbered : (n : ℕ) (r : Reg) → slice_get registers n ≡ Some r → reg_number r ≡ n
numbered zero r e = ap reg_number (sym (same_Some R0 r e))
numbered (suc zero) r e = ap reg_number (sym (same_Some R1 r e))
numbered (suc (suc zero)) r e = ap reg_number (sym (same_Some R2 r e))
numbered (suc (suc (suc zero))) r e = ap reg_number (sym (same_Some R3 r e))
numbered (suc (suc (suc (suc zero)))) r e = ap reg_number (sym (same_Some R4 r e))
numbered (suc (suc (suc (suc (suc zero))))) r e = ap reg_number (sym (same_Some R5 r e))
numbered (suc (suc (suc (suc (suc (suc zero)))))) r e = ap reg_number (sym (same_Some R6 r e))
numbered (suc (suc (suc (suc (suc (suc (suc zero))))))) r e = ap reg_number (sym (same_Some R7 r e))
numbered (suc (suc (suc (suc (suc (suc (suc (suc zero)))))))) r e = ap reg_number (sym (same_Some R8 r e))
numbered (suc (suc (suc (suc (suc (suc (suc (suc (suc zero))))))))) r e = ap reg_number (sym (same_Some R9 r e))
numbered (suc (suc (suc (suc (suc (suc (suc (suc (suc (suc zero)))))))))) r e = ap reg_number (sym (same_Some R10 r e))
numbered (suc (suc (suc (suc (suc (suc (suc (suc (suc (suc (suc zero))))))))))) r e = ap reg_number (sym (same_Some R11 r e))
numbered (suc (suc (suc (suc (suc (suc (suc (suc (suc (suc (suc (suc zero)))))))))))) r e = ap reg_number (sym (same_Some Ap r e))
numbered (suc (suc (suc (suc (suc (suc (suc (suc (suc (suc (suc (suc (suc zero))))))))))))) r e = ap reg_number (sym (same_Some Fp r e))
numbered (suc (suc (suc (suc (suc (suc (suc (suc (suc (suc (suc (suc (suc (suc zero)))))))))))))) r e = ap reg_number (sym (same_Some Sp r e))
numbered (suc (suc (suc (suc (suc (suc (suc (suc (suc (suc (suc (suc (suc (suc (suc n))))))))))))))) r e = absurd (none-some r e)

pub register_is : (n : ℕ) (found : Option Reg) → slice_get registers n ≡ found → IsRegister n found
register_is n None e = λ r w. none-some r (sym e ∙ (ap (λ (k : ℕ). slice_get registers k) (sym w) ∙ register_again r))
register_is n (Some r) e = numbered n r e

-- registers of one number are the same
pub same_number : (r s : Reg) → reg_number r ≡ reg_number s → r ≡ s
same_number r s e = same_Some r s (sym (register_again r) ∙ (ap (λ (k : ℕ). slice_get registers k) e ∙ register_again s))
