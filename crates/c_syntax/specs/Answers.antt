-- What the parser answers.
use Rattle.std.specs.Prelude.{◌≡◌, List, Result, Ok, Err}
use Rattle.c_tokens.specs.declared.token.Spanned.{Spanned}
use Rattle.c_phrases.specs.declared.tree.Ast.{Ast}
use Rattle.c_phrases.specs.UnitShapes.{unit_of}
use Rattle.c_phrases.specs.Units.{AUnit}
use Rattle.c_tokens.specs.Grammar.{IsEnded}
use Rattle.c_syntax_goals.specs.Refusals.{NotHereAt, TooDeepAt}
use Rattle.c_syntax.specs.declared.fault.SyntaxFault.{SyntaxFault}
use Rattle.c_syntax.specs.declared.fault.SyntaxFault.TheVariants.{NoMemory, NotHere, TooDeep}

-- The fault that is answered is that of these tokens: where the last is the end of the text, as it is of each text's
-- tokens, a token that may not stand there, or else the first that is too deep.
abbrev pub Refused : List Spanned → SyntaxFault → Type 0
Refused ts NoMemory = Unit {0}
Refused ts (NotHere place) = IsEnded ts → NotHereAt ts place
Refused ts (TooDeep place) = TooDeepAt ts place

-- this unit is answered, or memory ran out
abbrev pub IsThat : Result Ast SyntaxFault → AUnit → Type 0
IsThat (Ok x) u = unit_of x ≡ u
IsThat (Err NoMemory) u = Unit {0}
IsThat (Err f) u = ⊥

-- this fault stands in these tokens
abbrev pub HasFault : List Spanned → SyntaxFault → Type 0
HasFault ts NoMemory = ⊥
HasFault ts (NotHere place) = NotHereAt ts place
HasFault ts (TooDeep place) = TooDeepAt ts place

-- this fault is answered, or memory ran out
abbrev pub IsOnlyFault : Result Ast SyntaxFault → SyntaxFault → Type 0
IsOnlyFault (Ok x) f = ⊥
IsOnlyFault (Err NoMemory) f = Unit {0}
IsOnlyFault (Err (NotHere place)) f = NotHere place ≡ f
IsOnlyFault (Err (TooDeep place)) f = TooDeep place ≡ f
