-- What an answer of the reader says of the text.
use Rattle.std.specs.Prelude.{◌≡◌, ℕ, List, Result, Ok, Err}
use Rattle.std.specs.Global.{Vec}
use Rattle.c_tokens.specs.declared.token.Spanned.{Spanned}
use Rattle.c_tokens.specs.declared.token.TokenFault.{TokenFault}
use Rattle.c_tokens.specs.declared.token.TokenFault.TheVariants.{NoMemory, At}
use Rattle.c_tokens.specs.declared.token.TokenKind.{TokenKind}
use Rattle.c_tokens.specs.Wrong.{FirstFault}

-- the fault is the text's first from the left, or memory ran out
abbrev pub IsFirstFault : List ℕ → TokenFault → Type 0
IsFirstFault text NoMemory = Unit {0}
IsFirstFault text (At place kind) = FirstFault 0 text place kind

-- the answer is these tokens, or memory ran out
abbrev pub AreTokens : Result (Vec Spanned) TokenFault → List Spanned → Type 0
AreTokens (Ok v) ts = v.items ≡ ts
AreTokens (Err NoMemory) ts = Unit {0}
AreTokens (Err (At place kind)) ts = ⊥

-- the answer is this fault, or memory ran out
abbrev pub IsFault : Result (Vec Spanned) TokenFault → ℕ → TokenKind → Type 0
IsFault (Ok v) place kind = ⊥
IsFault (Err NoMemory) place kind = Unit {0}
IsFault (Err (At p k)) place kind = (p ≡ place) × (k ≡ kind)
