-- A class of one token tells the token.
use Rattle.std.proofs.Common.{◌≡◌, ◌≢◌, Option, Some, None, ◌∙◌, ap}
use Rattle.std.proofs.lemmas.Option.{none-some, same_Some}
use Rattle.c_tokens.specs.declared.token.Token.{Token}
use Rattle.c_tokens.specs.declared.token.Token.TheVariants as token
use Rattle.c_tokens.specs.declared.words.Key.{Key}
use Rattle.c_tokens.specs.declared.words.Key.TheVariants as keys
use Rattle.c_tokens.specs.declared.marks.Mark.{Mark}
use Rattle.c_tokens.specs.declared.marks.Mark.TheVariants as marks
use Rattle.c_phrases.specs.Classes.{Class, class_of, key_class, mark_class}
use Rattle.c_phrases.specs.Classes as c

-- the token of a class that has one alone
abbrev pub token_of : Class → Option Token
token_of c.Int = Some (token.Key keys.Int)
token_of c.Char = Some (token.Key keys.Char)
token_of c.Short = Some (token.Key keys.Short)
token_of c.Unsigned = Some (token.Key keys.Unsigned)
token_of c.Void = Some (token.Key keys.Void)
token_of c.Static = Some (token.Key keys.Static)
token_of c.Register = Some (token.Key keys.Register)
token_of c.If = Some (token.Key keys.If)
token_of c.Else = Some (token.Key keys.Else)
token_of c.While = Some (token.Key keys.While)
token_of c.Do = Some (token.Key keys.Do)
token_of c.For = Some (token.Key keys.For)
token_of c.Break = Some (token.Key keys.Break)
token_of c.Continue = Some (token.Key keys.Continue)
token_of c.Return = Some (token.Key keys.Return)
token_of c.Sizeof = Some (token.Key keys.Sizeof)
token_of c.OpenBrace = Some (token.Mark marks.OpenBrace)
token_of c.CloseBrace = Some (token.Mark marks.CloseBrace)
token_of c.OpenParen = Some (token.Mark marks.OpenParenthesis)
token_of c.CloseParen = Some (token.Mark marks.CloseParenthesis)
token_of c.OpenBracket = Some (token.Mark marks.OpenBracket)
token_of c.CloseBracket = Some (token.Mark marks.CloseBracket)
token_of c.Semicolon = Some (token.Mark marks.Semicolon)
token_of c.Comma = Some (token.Mark marks.Comma)
token_of c.Question = Some (token.Mark marks.Question)
token_of c.Colon = Some (token.Mark marks.Colon)
token_of c.Equals = Some (token.Mark marks.Assign)
token_of c.Star = Some (token.Mark marks.Star)
token_of c.End = Some token.End
token_of k = None

key_single : (k : Key) (t : Token) → token_of (key_class k) ≡ Some t → token.Key k ≡ t
key_single keys.Int t e = same_Some _ t e
key_single keys.Char t e = same_Some _ t e
key_single keys.Short t e = same_Some _ t e
key_single keys.Unsigned t e = same_Some _ t e
key_single keys.Void t e = same_Some _ t e
key_single keys.Static t e = same_Some _ t e
key_single keys.Register t e = same_Some _ t e
key_single keys.If t e = same_Some _ t e
key_single keys.Else t e = same_Some _ t e
key_single keys.While t e = same_Some _ t e
key_single keys.Do t e = same_Some _ t e
key_single keys.For t e = same_Some _ t e
key_single keys.Break t e = same_Some _ t e
key_single keys.Continue t e = same_Some _ t e
key_single keys.Return t e = same_Some _ t e
key_single keys.Sizeof t e = same_Some _ t e
key_single k t e = absurd (none-some t e)

mark_single : (m : Mark) (t : Token) → token_of (mark_class m) ≡ Some t → token.Mark m ≡ t
mark_single marks.OpenBrace t e = same_Some _ t e
mark_single marks.CloseBrace t e = same_Some _ t e
mark_single marks.OpenParenthesis t e = same_Some _ t e
mark_single marks.CloseParenthesis t e = same_Some _ t e
mark_single marks.OpenBracket t e = same_Some _ t e
mark_single marks.CloseBracket t e = same_Some _ t e
mark_single marks.Semicolon t e = same_Some _ t e
mark_single marks.Comma t e = same_Some _ t e
mark_single marks.Question t e = same_Some _ t e
mark_single marks.Colon t e = same_Some _ t e
mark_single marks.Assign t e = same_Some _ t e
mark_single marks.Star t e = same_Some _ t e
mark_single m t e = absurd (none-some t e)

pub single : (k t : Token) → token_of (class_of k) ≡ Some t → k ≡ t
single (token.Key k) t e = key_single k t e
single (token.Mark m) t e = mark_single m t e
single token.End t e = same_Some _ t e
single _ t e = absurd (none-some t e)

pub not_class : (k w : Token) → token_of (class_of w) ≡ Some w → k ≢ w → class_of k ≢ class_of w
not_class k w e h f = h (single k w (ap token_of f ∙ e))
