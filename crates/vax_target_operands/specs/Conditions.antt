-- What an instruction computes, and what the branches behind it find.
use Rattle.std.specs.Prelude.{◌≡◌, ℕ, ◌*◌, ◌^◌, ◌<◌, Bool, true, Option, Some, None}
use Rattle.gg_base.specs.declared.size.Size.{Size}
use Rattle.gg_base.specs.Sizes.{bytes_of}
use Rattle.gg_base.specs.declared.relation.Rel.{Rel}
use Rattle.gg_base.specs.declared.relation.Rel.TheVariants as relations
use Rattle.gg_base.specs.Relations.{holds, compares_signed}
use Rattle.vax_target_meaning.specs.term_core.specs.Shape.{Shape}
use Rattle.vax_target_meaning.specs.vax_machine.specs.declared.function.Computed.{Computed}
use Rattle.vax_target_meaning.specs.vax_machine.specs.declared.function.Conditions.{Conditions}
use Rattle.vax_target_meaning.specs.vax_machine.specs.declared.function.Function.{Function}
use Rattle.vax_target_meaning.specs.vax_machine.specs.declared.function.Function.TheVariants as functions
use Rattle.vax_target_meaning.specs.vax_machine.specs.declared.function.Test.{Test}
use Rattle.vax_target_meaning.specs.vax_machine.specs.declared.function.Test.TheVariants as test
use Rattle.vax_target_meaning.specs.vax_machine.specs.Functions.{passes, applied}
use Rattle.vax_target_meaning.specs.vax_templates.specs.Giving.{Given, Computes, Divides, Compares, Tests, given}
use Rattle.vax_target_operands.specs.Scenes.{Scene, worth}

-- the test by which the branch of a relation goes
abbrev pub test_of : Rel → Test
test_of relations.Eq = test.Equal
test_of relations.Ne = test.NotEqual
test_of relations.Lt = test.Less
test_of relations.Le = test.LessOrEqual
test_of relations.Gt = test.Greater
test_of relations.Ge = test.GreaterOrEqual
test_of relations.Ltu = test.LessUnsigned
test_of relations.Leu = test.LessOrEqualUnsigned
test_of relations.Gtu = test.GreaterUnsigned
test_of relations.Geu = test.GreaterOrEqualUnsigned

-- the codes say how two numbers compare
abbrev pub Compared : Conditions → ℕ → ℕ → Type 0
Compared k x y = (r : Rel) → passes (test_of r) k ≡ holds r x y

-- the codes say how a number compares with 0, with signs and for equality
abbrev pub Tested : Conditions → ℕ → Type 0
Tested k x = (r : Rel) → compares_signed r ≡ true → passes (test_of r) k ≡ holds r x 0

-- something is computed, of which this holds
pub record Gets (o : Option Computed) (P : Computed → Type 0) : Type 0 where
  pub result : Computed
  pub is : o ≡ Some result
  pub so : P result

-- a division by zero has no result
pub record Quotient (o : Option Computed) (divisor quotient : ℕ) : Type 0 where
  pub traps : divisor ≡ 0 → o ≡ None
  pub divides : (divisor ≡ 0 → ⊥) → Gets o (λ r. r.value ≡ quotient)

-- what the machine computes is what the terms say
abbrev pub IsGiven : Scene → Given → Option Computed → Type 0
IsGiven c (Computes t) o = Gets o (λ r. r.value ≡ worth c t)
IsGiven c (Divides t d) o = Quotient o (worth c d) (worth c t)
IsGiven c (Compares a b) o = Gets o (λ r. Compared r.conditions (worth c a) (worth c b))
IsGiven c (Tests t) o = Gets o (λ r. Tested r.conditions (worth c t))

abbrev pub IsNarrow : Size → ℕ → Type 0
IsNarrow size n = n < 2 ^ (8 * bytes_of size)

-- what is compared is of the compared size
abbrev pub AreNarrow : Function → ℕ → ℕ → Type 0
AreNarrow (functions.Compare size) a b = IsNarrow size a × IsNarrow size b
AreNarrow (functions.CompareWithZero size) a b = IsNarrow size a
AreNarrow f a b = Unit {0}

-- Each function of the machine computes what its row says of the terms that are worth its operands.
abbrev pub FunctionsMean : Type 0
FunctionsMean = (c : Scene) (f : Function) (s t : Shape) (carry : Bool) →
    AreNarrow f (worth c s) (worth c t) → IsGiven c (given f s t) (applied f (worth c s) (worth c t) carry)
