-- Which operator a mark is, and what does not stand at the front.
use Rattle.std.specs.Prelude.{◌≡◌, List, [], ◌∷◌, Option, Some, None, Bool, true, false}
use Rattle.c_tokens.specs.declared.token.Token.{Token}
use Rattle.c_tokens.specs.declared.token.Token.TheVariants as token
use Rattle.c_tokens.specs.declared.words.Key.{Key}
use Rattle.c_tokens.specs.declared.words.Key.TheVariants as keys
use Rattle.c_tokens.specs.declared.marks.Mark.{Mark}
use Rattle.c_tokens.specs.declared.marks.Mark.TheVariants as marks
use Rattle.c_phrases.specs.declared.operator.BinaryOperator.{BinaryOperator}
use Rattle.c_phrases.specs.declared.operator.BinaryOperator.TheVariants as binaries
use Rattle.c_phrases.specs.declared.operator.PrefixOperator.{PrefixOperator}
use Rattle.c_phrases.specs.declared.operator.PrefixOperator.TheVariants as prefixes
use Rattle.c_phrases.specs.declared.operator.StepOperator.{StepOperator}
use Rattle.c_phrases.specs.declared.operator.StepOperator.TheVariants as steps
use Rattle.c_phrases.specs.declared.operator.AssignOperator.{AssignOperator}
use Rattle.c_phrases.specs.declared.operator.AssignOperator.TheVariants as assigns
use Rattle.c_phrases.specs.Classes.{Placed, Class, class_of}
use Rattle.c_phrases.specs.Classes as c

abbrev pub binary_of : Mark → Option BinaryOperator
binary_of marks.OrOr = Some binaries.OrOr
binary_of marks.AndAnd = Some binaries.AndAnd
binary_of marks.Or = Some binaries.Or
binary_of marks.Xor = Some binaries.Xor
binary_of marks.And = Some binaries.And
binary_of marks.Equal = Some binaries.Equal
binary_of marks.NotEqual = Some binaries.NotEqual
binary_of marks.Less = Some binaries.Less
binary_of marks.LessEqual = Some binaries.LessEqual
binary_of marks.Greater = Some binaries.Greater
binary_of marks.GreaterEqual = Some binaries.GreaterEqual
binary_of marks.ShiftLeft = Some binaries.ShiftLeft
binary_of marks.ShiftRight = Some binaries.ShiftRight
binary_of marks.Plus = Some binaries.Add
binary_of marks.Minus = Some binaries.Subtract
binary_of marks.Star = Some binaries.Multiply
binary_of marks.Slash = Some binaries.Divide
binary_of marks.Percent = Some binaries.Remainder
binary_of m = None

abbrev pub prefix_of : Mark → Option PrefixOperator
prefix_of marks.Plus = Some prefixes.Plus
prefix_of marks.Minus = Some prefixes.Minus
prefix_of marks.Tilde = Some prefixes.Complement
prefix_of marks.Exclamation = Some prefixes.Not
prefix_of marks.Star = Some prefixes.Indirection
prefix_of marks.And = Some prefixes.Address
prefix_of m = None

abbrev pub step_of : Mark → Option StepOperator
step_of marks.Increment = Some steps.Increment
step_of marks.Decrement = Some steps.Decrement
step_of m = None

abbrev pub assign_of : Mark → Option AssignOperator
assign_of marks.Assign = Some assigns.Assign
assign_of marks.AddAssign = Some assigns.Add
assign_of marks.SubtractAssign = Some assigns.Subtract
assign_of marks.MultiplyAssign = Some assigns.Multiply
assign_of marks.DivideAssign = Some assigns.Divide
assign_of marks.RemainderAssign = Some assigns.Remainder
assign_of marks.AndAssign = Some assigns.And
assign_of marks.XorAssign = Some assigns.Xor
assign_of marks.OrAssign = Some assigns.Or
assign_of marks.ShiftLeftAssign = Some assigns.ShiftLeft
assign_of marks.ShiftRightAssign = Some assigns.ShiftRight
assign_of m = None

abbrev pub is_type_word : Key → Bool
is_type_word keys.Int = true
is_type_word keys.Char = true
is_type_word keys.Short = true
is_type_word keys.Unsigned = true
is_type_word keys.Void = true
is_type_word k = false

-- the classes of the tokens that may stand there
abbrev pub TypeClass : Class → Type 0
TypeClass c.Int = Unit {0}
TypeClass c.Char = Unit {0}
TypeClass c.Short = Unit {0}
TypeClass c.Unsigned = Unit {0}
TypeClass c.Void = Unit {0}
TypeClass t = ⊥

abbrev pub NoTypeClass : Class → Type 0
NoTypeClass c.Int = ⊥
NoTypeClass c.Char = ⊥
NoTypeClass c.Short = ⊥
NoTypeClass c.Unsigned = ⊥
NoTypeClass c.Void = ⊥
NoTypeClass t = Unit {0}

abbrev pub IsTypeWord : List Placed → Type 0
IsTypeWord [] = ⊥
IsTypeWord (t ∷ ts) = TypeClass (class_of t.kind)

abbrev pub NoTypeWord : List Placed → Type 0
NoTypeWord [] = Unit {0}
NoTypeWord (t ∷ ts) = NoTypeClass (class_of t.kind)

-- no mark stands there
abbrev pub NoMark : List Placed → Type 0
NoMark [] = Unit {0}
NoMark (t ∷ ts) = (m : Mark) → t.kind ≡ token.Mark m → ⊥

-- no binary operator stands there
abbrev pub NoBinaryMark : Token → Type 0
NoBinaryMark (token.Mark m) = binary_of m ≡ None
NoBinaryMark t = Unit {0}

abbrev pub NoBinary : List Placed → Type 0
NoBinary [] = Unit {0}
NoBinary (t ∷ ts) = NoBinaryMark t.kind

-- no operator in front of an operand stands there
abbrev pub NoPrefixMark : Token → Type 0
NoPrefixMark (token.Mark m) = prefix_of m ≡ None
NoPrefixMark t = Unit {0}

abbrev pub NoPrefix : List Placed → Type 0
NoPrefix [] = Unit {0}
NoPrefix (t ∷ ts) = NoPrefixMark t.kind

-- no ++ or -- stands there
abbrev pub NoStepMark : Token → Type 0
NoStepMark (token.Mark m) = step_of m ≡ None
NoStepMark t = Unit {0}

abbrev pub NoStep : List Placed → Type 0
NoStep [] = Unit {0}
NoStep (t ∷ ts) = NoStepMark t.kind

-- no assignment operator stands there
abbrev pub NoAssignMark : Token → Type 0
NoAssignMark (token.Mark m) = assign_of m ≡ None
NoAssignMark t = Unit {0}

abbrev pub NoAssign : List Placed → Type 0
NoAssign [] = Unit {0}
NoAssign (t ∷ ts) = NoAssignMark t.kind
