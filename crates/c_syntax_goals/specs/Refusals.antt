-- What a fault says of the tokens: how far they begin a unit, and where the levels are passed.
use Rattle.std.specs.Prelude.{◌≡◌, ℕ, zero, suc, List, [], ◌∷◌, ◌++◌, length, Err, true, false}
use Rattle.std.specs.List.{AllByRecursion}
use Rattle.c_tokens.specs.declared.token.Spanned.{Spanned}
use Rattle.c_phrases.specs.Classes.{Placed, placed, seen}
use Rattle.c_phrases.specs.Levels.{limit}
use Rattle.c_phrases.specs.Units.{AUnit}
use Rattle.c_phrases.specs.UnitSpelling.{unit_tokens}
use Rattle.c_phrases.specs.Fits.{ExternalsFit}
use Rattle.c_syntax_goals.specs.declared.fault.Fault.{Fault}
use Rattle.c_syntax_goals.specs.Goals.{Want, Done, Whole}
use Rattle.c_syntax_goals.specs.Machine.{run}
use Rattle.c_syntax_goals.specs.Openings.{Opening}
use Rattle.c_syntax_goals.specs.UnitOpenings.{levelled}

-- The run of a text stops with this fault.
abbrev pub Stops : List Spanned → Fault → Type 0
Stops ts f = run limit (Want Whole Done) 0 (seen ts) ≡ Err f

-- The offset of the token with which k tokens are left.
abbrev pub IsPlace : List Spanned → (k place : ℕ) → Type 0
IsPlace ts k place = (before : List Spanned) (t : Spanned) (behind : List Spanned) → ts ≡ before ++ t ∷ behind → k
    ≡ suc (length behind) → place ≡ t.start

-- No token opens a level past the limit.
abbrev pub NoneDeep : List Opening → Type 0
NoneDeep w = AllByRecursion (λ (o : Opening). limit o.level ≡ true) w

-- The first k tokens open no level past the limit.
abbrev pub FirstAreLow : ℕ → List Opening → Type 0
FirstAreLow zero w = Unit {0}
FirstAreLow (suc k) [] = ⊥
FirstAreLow (suc k) (o ∷ w) = (limit o.level ≡ true) × FirstAreLow k w

-- The token behind the first k is the first that opens a level past the limit.
abbrev pub FirstDeepIs : ℕ → List Opening → Type 0
FirstDeepIs k [] = ⊥
FirstDeepIs zero (o ∷ w) = limit o.level ≡ false
FirstDeepIs (suc k) (o ∷ w) = (limit o.level ≡ true) × FirstDeepIs k w

-- A unit that begins with these tokens.
pub record Begins (ts : List Placed) (u : AUnit) : Type 0 where
  pub fits : ExternalsFit u.externals
  pub word : List Placed
  pub text : unit_tokens u ≡ ts ++ word

-- some unit does
pub record BeginsUnit (ts : List Placed) : Type 0 where
  pub unit : AUnit
  pub begins : Begins ts unit

-- The fault stands at this offset: no unit, of whatever level, begins with the tokens up to it. Some unit begins with
-- those before it, and in each such unit they open no level past the limit.
pub record NotHereAt (ts : List Spanned) (place : ℕ) : Type 0 where
  pub before : List Spanned
  pub token : Spanned
  pub behind : List Spanned
  pub text : ts ≡ before ++ token ∷ behind
  pub stands : place ≡ token.start
  pub none : (u : AUnit) → Begins (seen before ++ placed token ∷ []) u → ⊥
  pub some : BeginsUnit (seen before)
  pub low : (u : AUnit) → Begins (seen before) u → FirstAreLow (length before) (levelled u)

-- The fault stands at this offset: some unit begins with the tokens up to it, and in each such unit its token is the
-- first that opens a level past the limit.
pub record TooDeepAt (ts : List Spanned) (place : ℕ) : Type 0 where
  pub before : List Spanned
  pub token : Spanned
  pub behind : List Spanned
  pub text : ts ≡ before ++ token ∷ behind
  pub stands : place ≡ token.start
  pub some : BeginsUnit (seen before ++ placed token ∷ [])
  pub deep : (u : AUnit) → Begins (seen before ++ placed token ∷ []) u → FirstDeepIs (length before) (levelled u)
