-- Tokens as the phrases see them.
use Rattle.std.proofs.Common.{◌≡◌, ◌<◌, List, [], ◌∷◌, length, refl, arith}
use Rattle.c_tokens.specs.declared.token.Token.{Token}
use Rattle.c_tokens.specs.declared.token.Token.TheVariants as token
use Rattle.c_tokens.specs.declared.token.Spanned.{Spanned}
use Rattle.c_tokens.specs.declared.marks.Mark.{Mark}
use Rattle.c_phrases.specs.Classes.{Placed, seen}
use Rattle.c_syntax.specs.StatementLeads.{HasToken}
use Rattle.c_phrases.specs.Takes.{NoMark, NoBinary, NoPrefix, NoStep, NoAssign, NoBinaryMark, NoPrefixMark, NoStepMark, NoAssignMark}

pub no_binary : (ts : List Placed) → NoMark ts → NoBinary ts
no_binary [] h = tt
no_binary (t ∷ ts) h = by t.kind h
  where
    by : (k : Token) → ((m : Mark) → k ≡ token.Mark m → ⊥) → NoBinaryMark k
    by (token.Mark m) h = absurd (h m refl)
    by k h = tt

pub no_prefix : (ts : List Placed) → NoMark ts → NoPrefix ts
no_prefix [] h = tt
no_prefix (t ∷ ts) h = by t.kind h
  where
    by : (k : Token) → ((m : Mark) → k ≡ token.Mark m → ⊥) → NoPrefixMark k
    by (token.Mark m) h = absurd (h m refl)
    by k h = tt

pub no_step : (ts : List Placed) → NoMark ts → NoStep ts
no_step [] h = tt
no_step (t ∷ ts) h = by t.kind h
  where
    by : (k : Token) → ((m : Mark) → k ≡ token.Mark m → ⊥) → NoStepMark k
    by (token.Mark m) h = absurd (h m refl)
    by k h = tt

pub no_assign : (ts : List Placed) → NoMark ts → NoAssign ts
no_assign [] h = tt
no_assign (t ∷ ts) h = by t.kind h
  where
    by : (k : Token) → ((m : Mark) → k ≡ token.Mark m → ⊥) → NoAssignMark k
    by (token.Mark m) h = absurd (h m refl)
    by k h = tt

pub has_token : (ts : List Spanned) → 0 < length ts → HasToken (seen ts)
has_token [] h = absurd (omega (arith, h))
has_token (t ∷ ts) h = tt
