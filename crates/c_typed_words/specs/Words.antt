-- The tokens that a unit is spelled with: names, numbers and strings as the token grammar has them, and no more than a source has.
use Rattle.std.specs.Prelude.{◌≡◌, ◌≢◌, ◌≤◌, ◌<◌, ◌^◌, ℕ, List, [], ◌∷◌, length, true}
use Rattle.std.specs.List.{AllByRecursion}
use Rattle.c_tokens.specs.declared.token.Token.{Token}
use Rattle.c_tokens.specs.declared.token.Token.TheVariants as token
use Rattle.c_tokens.specs.declared.words.Key.{Key}
use Rattle.c_tokens.specs.Letters.{is_letter, in_word}
use Rattle.c_tokens.specs.Words.{key_text}
use Rattle.c_tokens.specs.Grammar.{Pass}
use Rattle.c_phrases.specs.Classes.{Placed}
use Rattle.c_phrases.specs.Units.{AUnit}
use Rattle.c_phrases.specs.UnitSpelling.{unit_tokens}
use Rattle.c_sound.specs.Fits.{AreBytes}

abbrev pub BeginsWord : List ℕ → Type 0
BeginsWord [] = ⊥
BeginsWord (b ∷ bs) = is_letter b ≡ true

-- a name: a letter or _, and letters, digits and _ behind it; at most 63 bytes, and no keyword
pub record IsName (n : List ℕ) : Type 0 where
  pub begins : BeginsWord n
  pub letters : Pass in_word n
  pub short : length n ≤ 63
  pub no_keyword : (k : Key) → n ≢ key_text k

-- a token of the grammar: a name is one, a number is a longword, and a string holds bytes
abbrev pub IsToken : Token → Type 0
IsToken (token.Name n) = IsName n
IsToken (token.Number v) = v < 2 ^ 32
IsToken (token.Str bytes) = AreBytes bytes
IsToken (token.Key k) = Unit {0}
IsToken (token.Mark m) = Unit {0}
IsToken token.End = Unit {0}

abbrev pub EachIs : (Token → Type 0) → List Placed → Type 0
EachIs T ts = AllByRecursion (λ (t : Placed). T t.kind) ts

-- a unit of at most 1,048,577 tokens, each of which is one of the grammar
pub record HasTokens (u : AUnit) : Type 0 where
  pub each : EachIs IsToken (unit_tokens u)
  pub few : length (unit_tokens u) ≤ 1048577
