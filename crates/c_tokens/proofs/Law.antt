-- The tokens of a text end with its end.
use Rattle.std.proofs.Common.{ℕ, List, [], ◌∷◌, ◌++◌, refl}
use Rattle.std.specs.Prelude.{Option, Some, None}
use Rattle.c_tokens.specs.declared.token.Token.{Token}
use Rattle.c_tokens.specs.declared.token.Spanned.{Spanned}
use Rattle.c_tokens.specs.Grammar.{Tokens, ended, piece, IsEnded}
use Rattle.c_tokens.specs.Reading.{spanned}

still_ended : (t : Option Token) (at end : ℕ) (ts : List Spanned) → IsEnded ts → IsEnded (spanned t at end ++ ts)
still_ended None at end ts h = h
still_ended (Some t) at end [] h = absurd h
still_ended (Some t) at end (u ∷ ts) h = h

pub tokens_ended : (at : ℕ) (text : List ℕ) (ts : List Spanned) → Tokens at text ts → IsEnded ts
tokens_ended at text ts (ended b) = refl
tokens_ended at text ts (piece b x t rest n vs p e h) = still_ended t b _ vs (tokens_ended _ rest vs h)
