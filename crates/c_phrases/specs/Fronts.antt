-- What stands at the front of a text.
use Rattle.std.specs.Prelude.{◌≡◌, ◌≢◌, ◌≤◌, ◌⊎◌, ℕ, List, [], ◌∷◌}
use Rattle.c_tokens.specs.declared.token.Token.{Token}
use Rattle.c_tokens.specs.declared.token.Token.TheVariants as token
use Rattle.c_tokens.specs.declared.words.Key.TheVariants as keys
use Rattle.c_tokens.specs.declared.marks.Mark.{Mark}
use Rattle.c_tokens.specs.declared.marks.Mark.TheVariants as marks
use Rattle.c_phrases.specs.Classes.{Placed, Class, class_of}
use Rattle.c_phrases.specs.Classes as c
use Rattle.c_phrases.specs.Takes.{NoTypeClass}
use Rattle.c_phrases.specs.Units.{AStatement}
use Rattle.c_phrases.specs.Fits.{IsShut}

-- how strongly a token goes on with the expression before it: one more than the number of the loosest phrase that ends there
abbrev pub mark_strength : Mark → ℕ
mark_strength marks.OpenParenthesis = 17
mark_strength marks.OpenBracket = 16
mark_strength marks.Increment = 16
mark_strength marks.Decrement = 16
mark_strength marks.Star = 13
mark_strength marks.Slash = 13
mark_strength marks.Percent = 13
mark_strength marks.Plus = 12
mark_strength marks.Minus = 12
mark_strength marks.ShiftLeft = 11
mark_strength marks.ShiftRight = 11
mark_strength marks.Less = 10
mark_strength marks.LessEqual = 10
mark_strength marks.Greater = 10
mark_strength marks.GreaterEqual = 10
mark_strength marks.Equal = 9
mark_strength marks.NotEqual = 9
mark_strength marks.And = 8
mark_strength marks.Xor = 7
mark_strength marks.Or = 6
mark_strength marks.AndAnd = 5
mark_strength marks.OrOr = 4
mark_strength marks.Question = 3
mark_strength marks.Assign = 2
mark_strength marks.AddAssign = 2
mark_strength marks.SubtractAssign = 2
mark_strength marks.MultiplyAssign = 2
mark_strength marks.DivideAssign = 2
mark_strength marks.RemainderAssign = 2
mark_strength marks.AndAssign = 2
mark_strength marks.XorAssign = 2
mark_strength marks.OrAssign = 2
mark_strength marks.ShiftLeftAssign = 2
mark_strength marks.ShiftRightAssign = 2
mark_strength marks.Comma = 1
mark_strength m = 0

abbrev pub strength : Token → ℕ
strength (token.Mark m) = mark_strength m
strength t = 0

-- what stands there goes on with no phrase of this number
abbrev pub Quiet : ℕ → List Placed → Type 0
Quiet k [] = Unit {0}
Quiet k (t ∷ ts) = strength t.kind ≤ k

abbrev pub IsNot : Token → List Placed → Type 0
IsNot w [] = Unit {0}
IsNot w (t ∷ ts) = t.kind ≢ w

-- no bracket in front of a type stands there
abbrev pub NoCast : List Placed → Type 0
NoCast [] = Unit {0}
NoCast (t ∷ []) = Unit {0}
NoCast (t ∷ u ∷ ts) = t.kind ≡ token.Mark marks.OpenParenthesis → NoTypeClass (class_of u.kind)

-- it ends as it may where this follows
abbrev pub StandsBefore : AStatement → List Placed → Type 0
StandsBefore s rest = IsShut s ⊎ IsNot (token.Key keys.Else) rest

-- a local declaration begins there, or none does
abbrev pub LocalClass : Class → Type 0
LocalClass c.Static = Unit {0}
LocalClass c.Register = Unit {0}
LocalClass c.Int = Unit {0}
LocalClass c.Char = Unit {0}
LocalClass c.Void = Unit {0}
LocalClass c.Short = Unit {0}
LocalClass c.Unsigned = Unit {0}
LocalClass k = ⊥

abbrev pub BeginsLocal : List Placed → Type 0
BeginsLocal [] = ⊥
BeginsLocal (t ∷ ts) = LocalClass (class_of t.kind)

abbrev pub NoLocal : List Placed → Type 0
NoLocal [] = Unit {0}
NoLocal (t ∷ ts) = LocalClass (class_of t.kind) → ⊥
