-- Tokens as the phrases see them: what class a token has, and which of its offsets a phrase keeps.
use Rattle.std.specs.Prelude.{ℕ, List, map, Bool, true, false, if◌then◌else◌}
use Rattle.c_tokens.specs.declared.token.Token.{Token}
use Rattle.c_tokens.specs.declared.token.Token.TheVariants as token
use Rattle.c_tokens.specs.declared.token.Spanned.{Spanned}
use Rattle.c_tokens.specs.declared.words.Key.{Key}
use Rattle.c_tokens.specs.declared.words.Key.TheVariants as keys
use Rattle.c_tokens.specs.declared.marks.Mark.{Mark}
use Rattle.c_tokens.specs.declared.marks.Mark.TheVariants as marks

-- A class of tokens that every phrase treats alike. `Infix` stands for the operators that are binary alone, `Lone` for
-- ~ and !, `Sign` for + - and &, `Unused` for the keywords of no phrase.
pub data Class : Type 0 where
  Name : Class
  Number : Class
  Str : Class
  Int : Class
  Char : Class
  Short : Class
  Unsigned : Class
  Void : Class
  Static : Class
  Register : Class
  If : Class
  Else : Class
  While : Class
  Do : Class
  For : Class
  Break : Class
  Continue : Class
  Return : Class
  Sizeof : Class
  Unused : Class
  OpenBrace : Class
  CloseBrace : Class
  OpenParen : Class
  CloseParen : Class
  OpenBracket : Class
  CloseBracket : Class
  Semicolon : Class
  Comma : Class
  Question : Class
  Colon : Class
  Equals : Class
  Compound : Class
  Infix : Class
  Sign : Class
  Star : Class
  Lone : Class
  Step : Class
  End : Class

abbrev pub key_class : Key → Class
key_class keys.Int = Int
key_class keys.Char = Char
key_class keys.Short = Short
key_class keys.Unsigned = Unsigned
key_class keys.Void = Void
key_class keys.Static = Static
key_class keys.Register = Register
key_class keys.If = If
key_class keys.Else = Else
key_class keys.While = While
key_class keys.Do = Do
key_class keys.For = For
key_class keys.Break = Break
key_class keys.Continue = Continue
key_class keys.Return = Return
key_class keys.Sizeof = Sizeof
key_class k = Unused

abbrev pub mark_class : Mark → Class
mark_class marks.OpenBrace = OpenBrace
mark_class marks.CloseBrace = CloseBrace
mark_class marks.OpenParenthesis = OpenParen
mark_class marks.CloseParenthesis = CloseParen
mark_class marks.OpenBracket = OpenBracket
mark_class marks.CloseBracket = CloseBracket
mark_class marks.Semicolon = Semicolon
mark_class marks.Comma = Comma
mark_class marks.Question = Question
mark_class marks.Colon = Colon
mark_class marks.Assign = Equals
mark_class marks.AddAssign = Compound
mark_class marks.SubtractAssign = Compound
mark_class marks.MultiplyAssign = Compound
mark_class marks.DivideAssign = Compound
mark_class marks.RemainderAssign = Compound
mark_class marks.AndAssign = Compound
mark_class marks.XorAssign = Compound
mark_class marks.OrAssign = Compound
mark_class marks.ShiftLeftAssign = Compound
mark_class marks.ShiftRightAssign = Compound
mark_class marks.Plus = Sign
mark_class marks.Minus = Sign
mark_class marks.And = Sign
mark_class marks.Star = Star
mark_class marks.Tilde = Lone
mark_class marks.Exclamation = Lone
mark_class marks.Increment = Step
mark_class marks.Decrement = Step
mark_class m = Infix

abbrev pub class_of : Token → Class
class_of (token.Name n) = Name
class_of (token.Number v) = Number
class_of (token.Str s) = Str
class_of (token.Key k) = key_class k
class_of (token.Mark m) = mark_class m
class_of token.End = End

-- a token with its offset, or 0 where phrases do not keep it
pub record Placed : Type 0 where
  pub kind : Token
  pub at : ℕ

-- the offsets of ) ] { } , ; : are not kept
abbrev pub is_kept : Class → Bool
is_kept CloseParen = false
is_kept CloseBracket = false
is_kept OpenBrace = false
is_kept CloseBrace = false
is_kept Comma = false
is_kept Semicolon = false
is_kept Colon = false
is_kept c = true

abbrev pub placed : Spanned → Placed
placed t = record { kind = t.kind; at = if is_kept (class_of t.kind) then t.start else 0 }

abbrev pub seen : List Spanned → List Placed
seen ts = map placed ts

abbrev pub word : Key → ℕ → Placed
word k at = record { kind = token.Key k; at = at }

abbrev pub sign : Mark → ℕ → Placed
sign m at = record { kind = token.Mark m; at = at }
