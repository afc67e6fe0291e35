-- How a token of a class is spelled.
use Rattle.std.proofs.Common.{◌≡◌, ℕ, List, [], ◌∷◌, refl, sym, subst}
use Rattle.std.specs.Prelude.{if◌then◌else◌}
use Rattle.c_tokens.specs.declared.token.Token.{Token}
use Rattle.c_tokens.specs.declared.token.Token.TheVariants as token
use Rattle.c_tokens.specs.declared.token.Spanned.{Spanned}
use Rattle.c_tokens.specs.declared.words.Key.{Key}
use Rattle.c_tokens.specs.declared.words.Key.TheVariants as keys
use Rattle.c_tokens.specs.declared.marks.Mark.{Mark}
use Rattle.c_tokens.specs.declared.marks.Mark.TheVariants as marks
use Rattle.c_phrases.specs.Classes.{Placed, Class, class_of, key_class, mark_class, is_kept, placed, seen, word, sign}
use Rattle.c_phrases.specs.Classes as c
use Rattle.c_phrases.specs.Operators.{binary_mark, prefix_mark, step_mark, assign_mark}
use Rattle.c_syntax_goals.specs.Contents.{name_in, number_in, str_in, binary_in, prefix_in, step_in, assign_in}

-- the token itself, without an offset that phrases do not keep
abbrev pub spelled : Class → Placed → Placed
spelled c.Name t = record { kind = token.Name (name_in t.kind); at = t.at }
spelled c.Number t = record { kind = token.Number (number_in t.kind); at = t.at }
spelled c.Str t = record { kind = token.Str (str_in t.kind); at = t.at }
spelled c.Int t = word keys.Int t.at
spelled c.Char t = word keys.Char t.at
spelled c.Short t = word keys.Short t.at
spelled c.Unsigned t = word keys.Unsigned t.at
spelled c.Void t = word keys.Void t.at
spelled c.Static t = word keys.Static t.at
spelled c.Register t = word keys.Register t.at
spelled c.If t = word keys.If t.at
spelled c.Else t = word keys.Else t.at
spelled c.While t = word keys.While t.at
spelled c.Do t = word keys.Do t.at
spelled c.For t = word keys.For t.at
spelled c.Break t = word keys.Break t.at
spelled c.Continue t = word keys.Continue t.at
spelled c.Return t = word keys.Return t.at
spelled c.Sizeof t = word keys.Sizeof t.at
spelled c.OpenBrace t = sign marks.OpenBrace 0
spelled c.CloseBrace t = sign marks.CloseBrace 0
spelled c.OpenParen t = sign marks.OpenParenthesis t.at
spelled c.CloseParen t = sign marks.CloseParenthesis 0
spelled c.OpenBracket t = sign marks.OpenBracket t.at
spelled c.CloseBracket t = sign marks.CloseBracket 0
spelled c.Semicolon t = sign marks.Semicolon 0
spelled c.Comma t = sign marks.Comma 0
spelled c.Question t = sign marks.Question t.at
spelled c.Colon t = sign marks.Colon 0
spelled c.Equals t = sign marks.Assign t.at
spelled c.Star t = sign marks.Star t.at
spelled c.End t = record { kind = token.End; at = t.at }
spelled k t = t

-- a token as the phrases see it is so spelled
key_spelled : (k : Key) (a : ℕ) → spelled (key_class k) (record { kind = token.Key k; at = if is_kept (key_class k) then a else 0 })
    ≡ record { kind = token.Key k; at = if is_kept (key_class k) then a else 0 }
key_spelled keys.Int a = refl
key_spelled k a = refl

mark_spelled : (m : Mark) (a : ℕ) → spelled (mark_class m) (record { kind = token.Mark m; at = if is_kept (mark_class m) then a else 0 })
    ≡ record { kind = token.Mark m; at = if is_kept (mark_class m) then a else 0 }
mark_spelled marks.OpenBrace a = refl
mark_spelled m a = refl

token_spelled : (k : Token) (a : ℕ) → spelled (class_of k) (record { kind = k; at = if is_kept (class_of k) then a else 0 }) ≡ record { kind = k; at = if is_kept (class_of k) then a else 0 }
token_spelled (token.Key k) a = key_spelled k a
token_spelled (token.Mark m) a = mark_spelled m a
token_spelled (token.Name n) a = refl
token_spelled (token.Number v) a = refl
token_spelled (token.Str b) a = refl
token_spelled token.End a = refl

abbrev pub respelled : List Placed → List Placed
respelled [] = []
respelled (t ∷ ts) = spelled (class_of t.kind) t ∷ respelled ts

pub seen_respelled : (ts : List Spanned) → respelled (seen ts) ≡ seen ts
seen_respelled [] = refl
seen_respelled (t ∷ ts) = rw (token_spelled t.kind t.start, seen_respelled ts) refl

-- the classes of operators
abbrev pub PrefixClass : Class → Type 0
PrefixClass c.Sign = Unit {0}
PrefixClass c.Star = Unit {0}
PrefixClass c.Lone = Unit {0}
PrefixClass k = ⊥

abbrev pub StepClass : Class → Type 0
StepClass c.Step = Unit {0}
StepClass k = ⊥

abbrev pub InfixClass : Class → Type 0
InfixClass c.Infix = Unit {0}
InfixClass c.Sign = Unit {0}
InfixClass c.Star = Unit {0}
InfixClass k = ⊥

abbrev pub AssignClass : Class → Type 0
AssignClass c.Equals = Unit {0}
AssignClass c.Compound = Unit {0}
AssignClass k = ⊥

key_prefix : (k : Key) → PrefixClass (key_class k) → ⊥
key_prefix keys.Int h = h
key_prefix k h = h

key_step : (k : Key) → StepClass (key_class k) → ⊥
key_step keys.Int h = h
key_step k h = h

key_infix : (k : Key) → InfixClass (key_class k) → ⊥
key_infix keys.Int h = h
key_infix k h = h

key_assign : (k : Key) → AssignClass (key_class k) → ⊥
key_assign keys.Int h = h
key_assign k h = h

prefix_by : (k : Token) (a : ℕ) → PrefixClass (class_of k) → spelled (class_of k) (record { kind = k; at = a }) ≡ sign (prefix_mark (prefix_in k)) a
prefix_by (token.Mark m) a h = by m h
  where
    by : (m : Mark) → PrefixClass (mark_class m) → spelled (mark_class m) (sign m a) ≡ sign (prefix_mark (prefix_in (token.Mark m))) a
    by marks.Plus h = refl
    by marks.Minus h = refl
    by marks.And h = refl
    by marks.Star h = refl
    by marks.Tilde h = refl
    by marks.Exclamation h = refl
    by m h = absurd h
prefix_by (token.Key k) a h = absurd (key_prefix k h)
prefix_by k a h = absurd h

step_by : (k : Token) (a : ℕ) → StepClass (class_of k) → spelled (class_of k) (record { kind = k; at = a }) ≡ sign (step_mark (step_in k)) a
step_by (token.Mark m) a h = by m h
  where
    by : (m : Mark) → StepClass (mark_class m) → spelled (mark_class m) (sign m a) ≡ sign (step_mark (step_in (token.Mark m))) a
    by marks.Increment h = refl
    by marks.Decrement h = refl
    by m h = absurd h
step_by (token.Key k) a h = absurd (key_step k h)
step_by k a h = absurd h

infix_by : (k : Token) (a : ℕ) → InfixClass (class_of k) → spelled (class_of k) (record { kind = k; at = a }) ≡ sign (binary_mark (binary_in k)) a
infix_by (token.Mark m) a h = by m h
  where
    by : (m : Mark) → InfixClass (mark_class m) → spelled (mark_class m) (sign m a) ≡ sign (binary_mark (binary_in (token.Mark m))) a
    by marks.OrOr h = refl
    by marks.AndAnd h = refl
    by marks.Or h = refl
    by marks.Xor h = refl
    by marks.And h = refl
    by marks.Equal h = refl
    by marks.NotEqual h = refl
    by marks.Less h = refl
    by marks.LessEqual h = refl
    by marks.Greater h = refl
    by marks.GreaterEqual h = refl
    by marks.ShiftLeft h = refl
    by marks.ShiftRight h = refl
    by marks.Plus h = refl
    by marks.Minus h = refl
    by marks.Star h = refl
    by marks.Slash h = refl
    by marks.Percent h = refl
    by m h = absurd h
infix_by (token.Key k) a h = absurd (key_infix k h)
infix_by k a h = absurd h

assign_by : (k : Token) (a : ℕ) → AssignClass (class_of k) → spelled (class_of k) (record { kind = k; at = a }) ≡ sign (assign_mark (assign_in k)) a
assign_by (token.Mark m) a h = by m h
  where
    by : (m : Mark) → AssignClass (mark_class m) → spelled (mark_class m) (sign m a) ≡ sign (assign_mark (assign_in (token.Mark m))) a
    by marks.Assign h = refl
    by marks.AddAssign h = refl
    by marks.SubtractAssign h = refl
    by marks.MultiplyAssign h = refl
    by marks.DivideAssign h = refl
    by marks.RemainderAssign h = refl
    by marks.AndAssign h = refl
    by marks.XorAssign h = refl
    by marks.OrAssign h = refl
    by marks.ShiftLeftAssign h = refl
    by marks.ShiftRightAssign h = refl
    by m h = absurd h
assign_by (token.Key k) a h = absurd (key_assign k h)
assign_by k a h = absurd h

pub prefix_is : (t : Placed) (k : Class) → class_of t.kind ≡ k → PrefixClass k → spelled k t ≡ sign (prefix_mark (prefix_in t.kind)) t.at
prefix_is t k e h = subst (λ (x : Class). spelled x t ≡ sign (prefix_mark (prefix_in t.kind)) t.at) e (prefix_by t.kind t.at (subst PrefixClass (sym e) h))

pub step_is : (t : Placed) (k : Class) → class_of t.kind ≡ k → StepClass k → spelled k t ≡ sign (step_mark (step_in t.kind)) t.at
step_is t k e h = subst (λ (x : Class). spelled x t ≡ sign (step_mark (step_in t.kind)) t.at) e (step_by t.kind t.at (subst StepClass (sym e) h))

pub infix_is : (t : Placed) (k : Class) → class_of t.kind ≡ k → InfixClass k → spelled k t ≡ sign (binary_mark (binary_in t.kind)) t.at
infix_is t k e h = subst (λ (x : Class). spelled x t ≡ sign (binary_mark (binary_in t.kind)) t.at) e (infix_by t.kind t.at (subst InfixClass (sym e) h))

pub assign_is : (t : Placed) (k : Class) → class_of t.kind ≡ k → AssignClass k → spelled k t ≡ sign (assign_mark (assign_in t.kind)) t.at
assign_is t k e h = subst (λ (x : Class). spelled x t ≡ sign (assign_mark (assign_in t.kind)) t.at) e (assign_by t.kind t.at (subst AssignClass (sym e) h))
