-- How each mark is written, and which mark stands at the front of a text.
use Rattle.std.specs.Prelude.{ℕ, List, [], ◌∷◌, codes, nat_eq, Option, Some, None, if◌then◌else◌}
use Rattle.std.specs.List.{starts_with}
use Rattle.c_tokens.specs.declared.marks.TheConstants.{MARKS}
use Rattle.c_tokens.specs.declared.marks.Mark.{Mark}
use Rattle.c_tokens.specs.declared.marks.Mark.TheVariants as marks

abbrev pub mark_text : Mark → List ℕ
mark_text marks.ShiftLeftAssign = codes "<<="
mark_text marks.ShiftRightAssign = codes ">>="
mark_text marks.AddAssign = codes "+="
mark_text marks.SubtractAssign = codes "-="
mark_text marks.MultiplyAssign = codes "*="
mark_text marks.DivideAssign = codes "/="
mark_text marks.RemainderAssign = codes "%="
mark_text marks.AndAssign = codes "&="
mark_text marks.XorAssign = codes "^="
mark_text marks.OrAssign = codes "|="
mark_text marks.OrOr = codes "||"
mark_text marks.AndAnd = codes "&&"
mark_text marks.Equal = codes "=="
mark_text marks.NotEqual = codes "!="
mark_text marks.LessEqual = codes "<="
mark_text marks.GreaterEqual = codes ">="
mark_text marks.ShiftLeft = codes "<<"
mark_text marks.ShiftRight = codes ">>"
mark_text marks.Increment = codes "++"
mark_text marks.Decrement = codes "--"
mark_text marks.OpenBrace = codes "{"
mark_text marks.CloseBrace = codes "}"
mark_text marks.OpenParenthesis = codes "("
mark_text marks.CloseParenthesis = codes ")"
mark_text marks.OpenBracket = codes "["
mark_text marks.CloseBracket = codes "]"
mark_text marks.Semicolon = codes ";"
mark_text marks.Comma = codes ","
mark_text marks.Question = codes "?"
mark_text marks.Colon = codes ":"
mark_text marks.Assign = codes "="
mark_text marks.Or = codes "|"
mark_text marks.Xor = codes "^"
mark_text marks.And = codes "&"
mark_text marks.Less = codes "<"
mark_text marks.Greater = codes ">"
mark_text marks.Plus = codes "+"
mark_text marks.Minus = codes "-"
mark_text marks.Star = codes "*"
mark_text marks.Slash = codes "/"
mark_text marks.Percent = codes "%"
mark_text marks.Tilde = codes "~"
mark_text marks.Exclamation = codes "!"

-- the first of these marks with which the text begins
abbrev pub mark_among : List Mark → List ℕ → Option Mark
mark_among [] text = None
mark_among (m ∷ ms) text = if starts_with nat_eq text (mark_text m) then Some m else mark_among ms text

-- the longest mark with which the text begins
unfoldable pub mark_of : List ℕ → Option Mark
mark_of text = mark_among MARKS text
