-- Laws of phrases, operators and what follows them.
use Rattle.std.proofs.Common.{◌≡◌, ◌≤◌, ℕ, ◌+◌, List, [], ◌∷◌, refl, arith}
use Rattle.std.specs.Prelude.{true}
use Rattle.std.proofs.lemmas.Bool.Decides.{nat_tests}
use Rattle.c_phrases.specs.declared.operator.BinaryOperator.{BinaryOperator}
use Rattle.c_phrases.specs.declared.operator.BinaryOperator.TheVariants as binaries
use Rattle.c_phrases.specs.Classes.{Placed}
use Rattle.c_phrases.specs.Phrases.{AnExp, name, number, str, paren, call, index, step_after, step_before, prefix}
use Rattle.c_phrases.specs.Phrases.{sizeof_exp, sizeof_type, cast, binary, choice, assign, comma, IsAt}
use Rattle.c_phrases.specs.Operators.{level_of, binary_mark}
use Rattle.c_phrases.specs.Levels.{limit}
use Rattle.c_phrases.specs.Fronts.{Quiet, mark_strength}

-- a phrase of a higher number stands where a lower one may
pub lower : (j k : ℕ) (e : AnExp) → j ≤ k → IsAt k e → IsAt j e
lower j k (name n at) le h = tt
lower j k (number v at) le h = tt
lower j k (str b at) le h = tt
lower j k (paren o e) le h = h
lower j k (call n at o es) le h = h
lower j k (index e o i) le h = (omega (arith, h.0), h.1)
lower j k (step_after e op at) le h = (omega (arith, h.0), h.1)
lower j k (step_before op at e) le h = (omega (arith, h.0), h.1)
lower j k (prefix op at e) le h = (omega (arith, h.0), h.1)
lower j k (sizeof_exp at e) le h = (omega (arith, h.0), h.1)
lower j k (sizeof_type at o t) le h = omega (arith, h)
lower j k (cast o t e) le h = (omega (arith, h.0), h.1)
lower j k (binary l op at r) le h = (omega (arith, h.0), h.1)
lower j k (choice c at e d) le h = (omega (arith, h.0), h.1)
lower j k (assign p op at v) le h = (omega (arith, h.0), h.1)
lower j k (comma l r) le h = (omega (arith, h.0), h.1)

pub binary_strength : (op : BinaryOperator) → mark_strength (binary_mark op) ≡ level_of op + 1
binary_strength binaries.OrOr = refl
binary_strength binaries.AndAnd = refl
binary_strength binaries.Or = refl
binary_strength binaries.Xor = refl
binary_strength binaries.And = refl
binary_strength binaries.Equal = refl
binary_strength binaries.NotEqual = refl
binary_strength binaries.Less = refl
binary_strength binaries.LessEqual = refl
binary_strength binaries.Greater = refl
binary_strength binaries.GreaterEqual = refl
binary_strength binaries.ShiftLeft = refl
binary_strength binaries.ShiftRight = refl
binary_strength binaries.Add = refl
binary_strength binaries.Subtract = refl
binary_strength binaries.Multiply = refl
binary_strength binaries.Divide = refl
binary_strength binaries.Remainder = refl

pub level_top : (op : BinaryOperator) → level_of op ≤ 12
level_top binaries.OrOr = omega arith
level_top binaries.AndAnd = omega arith
level_top binaries.Or = omega arith
level_top binaries.Xor = omega arith
level_top binaries.And = omega arith
level_top binaries.Equal = omega arith
level_top binaries.NotEqual = omega arith
level_top binaries.Less = omega arith
level_top binaries.LessEqual = omega arith
level_top binaries.Greater = omega arith
level_top binaries.GreaterEqual = omega arith
level_top binaries.ShiftLeft = omega arith
level_top binaries.ShiftRight = omega arith
level_top binaries.Add = omega arith
level_top binaries.Subtract = omega arith
level_top binaries.Multiply = omega arith
level_top binaries.Divide = omega arith
level_top binaries.Remainder = omega arith

pub quieter : (j k : ℕ) (ts : List Placed) → j ≤ k → Quiet j ts → Quiet k ts
quieter j k [] le q = tt
quieter j k (t ∷ ts) le q = omega (arith, q)

pub limit_low : (m : ℕ) → m ≤ 200 → limit m ≡ true
limit_low m le = grind (arith, nat_tests)
