-- Each function of the machine computes what its row says of terms.
use Rattle.std.proofs.Common.{◌≡◌, ℕ, false, Some, refl, sym, ap}
use Rattle.std.specs.Prelude.{unwrap_or}
use Rattle.gg_base.specs.declared.size.Size.{Size}
use Rattle.gg_base.specs.declared.size.Size.TheVariants.{Byte, Word, Long}
use Rattle.gg_base.specs.Arithmetic.{div32, and32}
use Rattle.gg_base.proofs.Words.{some_quotient}
use Rattle.vax_target_meaning.specs.term_core.specs.declared.operator.BinaryOp.TheVariants.{And}
use Rattle.vax_target_meaning.specs.term_core.specs.Shape.{Shape, Binary}
use Rattle.vax_target_meaning.specs.term_core.proofs.Values.{small}
use Rattle.vax_target_meaning.specs.sel_target.specs.Values.{term_state}
use Rattle.vax_target_meaning.specs.vax_machine.specs.declared.function.Computed.{Computed}
use Rattle.vax_target_meaning.specs.vax_machine.specs.declared.function.Function.TheVariants as functions
use Rattle.vax_target_meaning.specs.vax_machine.specs.Functions.{valued, quotient, applied}
use Rattle.vax_target_meaning.specs.vax_machine.specs.Functions as machine
use Rattle.gg_base.specs.Sizes.{low}
use Rattle.vax_target_meaning.specs.vax_templates.specs.Giving.{given, extended, truncated}
use Rattle.vax_target_operands.specs.Scenes.{Scene, worth}
use Rattle.vax_target_operands.specs.Conditions.{Gets, Quotient, IsGiven, AreNarrow, FunctionsMean}
use Rattle.vax_target_operands.proofs.Codes.{compare_says, compare_zero_says, test_says}

got : (r : Computed) (P : Computed → Type 0) → P r → Gets (Some r) P
got r P h = record { result = r; is = refl; so = h }

extended_is : (c : Scene) (size : Size) (t : Shape) → worth c (extended size t) ≡ machine.extended size (worth c t)
extended_is c Byte t = refl
extended_is c Word t = refl
extended_is c Long t = refl

truncated_is : (c : Scene) (size : Size) (t : Shape) → low size (worth c t) ≡ worth c (truncated size t)
truncated_is c Byte t = refl
truncated_is c Word t = refl
truncated_is c Long t = refl

-- ---- division

quotient_is : (x y : ℕ) → Quotient (quotient (div32 x y)) y (unwrap_or (div32 x y) 0)
quotient_is x y = record {
  traps = λ e. ap (λ n. quotient (div32 x n)) e;
  divides = λ h. record { result = valued Long (unwrap_or (div32 x y) 0) false; is = ap quotient (some_quotient x y h); so = refl };
}

pub functions_mean : FunctionsMean
functions_mean c (functions.Copy size) s t k h = got _ _ refl
functions_mean c functions.Clear s t k h = got _ _ refl
functions_mean c functions.Negate s t k h = got _ _ refl
functions_mean c functions.Complement s t k h = got _ _ refl
functions_mean c (functions.SignExtend size) s t k h = got _ _ (sym (extended_is c size s))
functions_mean c (functions.Truncate size) s t k h = got _ _ (truncated_is c size s)
functions_mean c functions.Add s t k h = got _ _ refl
functions_mean c functions.Subtract s t k h = got _ _ refl
functions_mean c functions.Multiply s t k h = got _ _ refl
functions_mean c functions.Divide s t k h = quotient_is (worth c t) (worth c s)
functions_mean c functions.Increment s t k h = got _ _ refl
functions_mean c functions.Decrement s t k h = got _ _ refl
functions_mean c functions.BitSet s t k h = got _ _ refl
functions_mean c functions.BitClear s t k h = got _ _ refl
functions_mean c functions.ExclusiveOr s t k h = got _ _ refl
functions_mean c functions.BitTest s t k h = got _ _ (test_says (and32 (worth c s) (worth c t)) _ (small (term_state c.view) (Binary And s t)) refl refl)
functions_mean c functions.Shift s t k h = got _ _ refl
functions_mean c (functions.Compare size) s t k h = by size h where
  by : (size : Size) → AreNarrow (functions.Compare size) (worth c s) (worth c t) → IsGiven c (given (functions.Compare size) s t) (applied (functions.Compare size) (worth c s) (worth c t) k)
  by Byte h = got _ _ (compare_says Byte (worth c s) (worth c t) _ h.0 h.1 refl refl refl)
  by Word h = got _ _ (compare_says Word (worth c s) (worth c t) _ h.0 h.1 refl refl refl)
  by Long h = got _ _ (compare_says Long (worth c s) (worth c t) _ h.0 h.1 refl refl refl)
functions_mean c (functions.CompareWithZero size) s t k h = by size h where
  by : (size : Size) → AreNarrow (functions.CompareWithZero size) (worth c s) (worth c t)
      → IsGiven c (given (functions.CompareWithZero size) s t) (applied (functions.CompareWithZero size) (worth c s) (worth c t) k)
  by Byte h = got _ _ (compare_zero_says Byte (worth c s) _ h refl refl refl)
  by Word h = got _ _ (compare_zero_says Word (worth c s) _ h refl refl refl)
  by Long h = got _ _ (compare_zero_says Long (worth c s) _ h refl refl refl)
