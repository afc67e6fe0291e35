-- What a token says: its name, number, text or operator.
use Rattle.std.specs.Prelude.{ℕ, List, [], Option, Some, None}
use Rattle.c_tokens.specs.declared.token.Token.{Token}
use Rattle.c_tokens.specs.declared.token.Token.TheVariants as token
use Rattle.c_phrases.specs.declared.operator.BinaryOperator.{BinaryOperator}
use Rattle.c_phrases.specs.declared.operator.BinaryOperator.TheVariants as binaries
use Rattle.c_phrases.specs.declared.operator.PrefixOperator.{PrefixOperator}
use Rattle.c_phrases.specs.declared.operator.PrefixOperator.TheVariants as prefixes
use Rattle.c_phrases.specs.declared.operator.StepOperator.{StepOperator}
use Rattle.c_phrases.specs.declared.operator.StepOperator.TheVariants as steps
use Rattle.c_phrases.specs.declared.operator.AssignOperator.{AssignOperator}
use Rattle.c_phrases.specs.declared.operator.AssignOperator.TheVariants as assigns
use Rattle.c_phrases.specs.Takes.{binary_of, prefix_of, step_of, assign_of}

abbrev pub name_in : Token → List ℕ
name_in (token.Name n) = n
name_in k = []

abbrev pub number_in : Token → ℕ
number_in (token.Number v) = v
number_in k = 0

abbrev pub str_in : Token → List ℕ
str_in (token.Str b) = b
str_in k = []

abbrev pub or_else : {A : Type 0} → Option A → A → A
or_else None d = d
or_else (Some x) d = x

abbrev pub binary_in : Token → BinaryOperator
binary_in (token.Mark m) = or_else (binary_of m) binaries.Add
binary_in k = binaries.Add

abbrev pub prefix_in : Token → PrefixOperator
prefix_in (token.Mark m) = or_else (prefix_of m) prefixes.Plus
prefix_in k = prefixes.Plus

abbrev pub step_in : Token → StepOperator
step_in (token.Mark m) = or_else (step_of m) steps.Increment
step_in k = steps.Increment

abbrev pub assign_in : Token → AssignOperator
assign_in (token.Mark m) = or_else (assign_of m) assigns.Assign
assign_in k = assigns.Assign
