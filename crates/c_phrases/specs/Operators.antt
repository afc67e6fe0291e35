-- How operators are written, and how tightly they bind.
use Rattle.std.specs.Prelude.{ℕ}
use Rattle.c_tokens.specs.declared.marks.Mark.{Mark}
use Rattle.c_tokens.specs.declared.marks.Mark.TheVariants as marks
use Rattle.c_phrases.specs.declared.operator.BinaryOperator.{BinaryOperator}
use Rattle.c_phrases.specs.declared.operator.BinaryOperator.TheVariants as binaries
use Rattle.c_phrases.specs.declared.operator.PrefixOperator.{PrefixOperator}
use Rattle.c_phrases.specs.declared.operator.PrefixOperator.TheVariants as prefixes
use Rattle.c_phrases.specs.declared.operator.StepOperator.{StepOperator}
use Rattle.c_phrases.specs.declared.operator.StepOperator.TheVariants as steps
use Rattle.c_phrases.specs.declared.operator.AssignOperator.{AssignOperator}
use Rattle.c_phrases.specs.declared.operator.AssignOperator.TheVariants as assigns

abbrev pub binary_mark : BinaryOperator → Mark
binary_mark binaries.OrOr = marks.OrOr
binary_mark binaries.AndAnd = marks.AndAnd
binary_mark binaries.Or = marks.Or
binary_mark binaries.Xor = marks.Xor
binary_mark binaries.And = marks.And
binary_mark binaries.Equal = marks.Equal
binary_mark binaries.NotEqual = marks.NotEqual
binary_mark binaries.Less = marks.Less
binary_mark binaries.LessEqual = marks.LessEqual
binary_mark binaries.Greater = marks.Greater
binary_mark binaries.GreaterEqual = marks.GreaterEqual
binary_mark binaries.ShiftLeft = marks.ShiftLeft
binary_mark binaries.ShiftRight = marks.ShiftRight
binary_mark binaries.Add = marks.Plus
binary_mark binaries.Subtract = marks.Minus
binary_mark binaries.Multiply = marks.Star
binary_mark binaries.Divide = marks.Slash
binary_mark binaries.Remainder = marks.Percent

abbrev pub prefix_mark : PrefixOperator → Mark
prefix_mark prefixes.Plus = marks.Plus
prefix_mark prefixes.Minus = marks.Minus
prefix_mark prefixes.Complement = marks.Tilde
prefix_mark prefixes.Not = marks.Exclamation
prefix_mark prefixes.Indirection = marks.Star
prefix_mark prefixes.Address = marks.And

abbrev pub step_mark : StepOperator → Mark
step_mark steps.Increment = marks.Increment
step_mark steps.Decrement = marks.Decrement

abbrev pub assign_mark : AssignOperator → Mark
assign_mark assigns.Assign = marks.Assign
assign_mark assigns.Add = marks.AddAssign
assign_mark assigns.Subtract = marks.SubtractAssign
assign_mark assigns.Multiply = marks.MultiplyAssign
assign_mark assigns.Divide = marks.DivideAssign
assign_mark assigns.Remainder = marks.RemainderAssign
assign_mark assigns.And = marks.AndAssign
assign_mark assigns.Xor = marks.XorAssign
assign_mark assigns.Or = marks.OrAssign
assign_mark assigns.ShiftLeft = marks.ShiftLeftAssign
assign_mark assigns.ShiftRight = marks.ShiftRightAssign

-- the level of a binary operator, from 3 for || to 12 for * / %
abbrev pub level_of : BinaryOperator → ℕ
level_of binaries.OrOr = 3
level_of binaries.AndAnd = 4
level_of binaries.Or = 5
level_of binaries.Xor = 6
level_of binaries.And = 7
level_of binaries.Equal = 8
level_of binaries.NotEqual = 8
level_of binaries.Less = 9
level_of binaries.LessEqual = 9
level_of binaries.Greater = 9
level_of binaries.GreaterEqual = 9
level_of binaries.ShiftLeft = 10
level_of binaries.ShiftRight = 10
level_of binaries.Add = 11
level_of binaries.Subtract = 11
level_of binaries.Multiply = 12
level_of binaries.Divide = 12
level_of binaries.Remainder = 12
