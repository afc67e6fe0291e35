-- What an instruction computes, by its row of the table.
use Rattle.std.specs.Prelude.{◌≡◌, ℕ, Option, Some, None}
use Rattle.judging_laws.specs.term_core.specs.Shape.{Shape}
use Rattle.judging_laws.specs.vax_templates.specs.Giving.{Given, Computes, Divides, Compares, Tests}
use Rattle.l32_target_meaning.specs.l32_templates.specs.l32_machine.specs.declared.function.Function.{Function}
use Rattle.l32_target_meaning.specs.l32_templates.specs.l32_machine.specs.Functions.{applied}
use Rattle.l32_target_meaning.specs.l32_templates.specs.Giving.{given}
use Rattle.l32_target_operands.specs.Scenes.{Scene, worth}

-- a division by zero has no result
pub record Quotient (o : Option ℕ) (divisor quotient : ℕ) : Type 0 where
  pub traps : divisor ≡ 0 → o ≡ None
  pub divides : (divisor ≡ 0 → ⊥) → o ≡ Some quotient

-- what the machine computes is what the terms say; L32 has no instruction that only compares or tests
abbrev pub IsGiven : Scene → Given → Option ℕ → Type 0
IsGiven c (Computes t) o = o ≡ Some (worth c t)
IsGiven c (Divides t d) o = Quotient o (worth c d) (worth c t)
IsGiven c (Compares a b) o = Unit {0}
IsGiven c (Tests t) o = Unit {0}

-- Each function of the machine computes what its row says of the terms that are worth its operands.
abbrev pub FunctionsMean : Type 0
FunctionsMean = (c : Scene) (f : Function) (s t : Shape) → IsGiven c (given f s t) (applied f (worth c s) (worth c t))
