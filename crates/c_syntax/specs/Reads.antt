-- What a function of the parser answers.
use Rattle.std.specs.Prelude.{◌≡◌, ◌≢◌, ◌≤◌, ℕ, ◌+◌, List, [], ◌∷◌, ◌++◌, Option}
use Rattle.c_tokens.specs.declared.token.Token.TheVariants as token
use Rattle.c_tokens.specs.declared.words.Key.TheVariants as keys
use Rattle.c_tokens.specs.declared.marks.Mark.TheVariants as marks
use Rattle.c_phrases.specs.Classes.{Placed, Class, class_of, word}
use Rattle.c_phrases.specs.Classes as c
use Rattle.c_syntax_goals.specs.Goals.{Want, AfterShort, AfterUnsigned, TypeWords, Stars}
use Rattle.c_syntax_goals.specs.Types.{type_goals}
use Rattle.c_phrases.specs.declared.operator.Spec.{Spec as SpecWords}
use Rattle.c_phrases.specs.declared.tree.TypeName.{TypeName}
use Rattle.c_phrases.specs.Phrases.{AnExp, SomeExps, AllAt, IsAt, after_exp}
use Rattle.c_phrases.specs.Spelling.{onto_exp, onto_int, onto_spec, onto_stars, onto_type, onto_first}
use Rattle.c_phrases.specs.Takes.{IsTypeWord}
use Rattle.c_phrases.specs.Fits.{IsSome}
use Rattle.c_phrases.specs.Levels.{LowExp, LowExps, limit}
use Rattle.c_phrases.specs.Fronts.{Quiet}
use Rattle.c_syntax.specs.Leads.{Leads}

-- a primary is read, which begins at level n and ends at level m
pub record IsPart (n : ℕ) (ts : List Placed) (e : AnExp) (rest : List Placed) (m : ℕ) : Type 0 where
  pub text : ts ≡ onto_exp e rest
  pub at : IsAt 15 e
  pub low : LowExp limit e n
  pub level : m ≡ after_exp e n
  pub rises : n ≤ m

-- an expression of the phrase k is read, which begins at level n and ends at level m, and what follows goes on with no
-- phrase of the number q
pub record IsRead (k q n : ℕ) (ts : List Placed) (e : AnExp) (rest : List Placed) (m : ℕ) : Type 0 where
  pub text : ts ≡ onto_exp e rest
  pub at : IsAt k e
  pub low : LowExp limit e n
  pub level : m ≡ after_exp e n
  pub quiet : Quiet q rest
  pub rises : n ≤ m

-- an expression of the phrase k is read, which begins with this one in front of the text, behind which the level is n
pub record IsMore (k q n : ℕ) (ts : List Placed) (f e : AnExp) (rest : List Placed) (m : ℕ) : Type 0 where
  pub text : onto_exp f ts ≡ onto_exp e rest
  pub at : IsAt k e
  pub low : (b : ℕ) → LowExp limit f b → n ≡ after_exp f b → LowExp limit e b × (m ≡ after_exp e b)
  pub quiet : Quiet q rest
  pub rises : n ≤ m

-- the words of a type are read, and the run goes on behind them
pub record ReadsInt (ts : List Placed) (int : Option ℕ) (rest : List Placed) : Type 0 where
  pub text : ts ≡ onto_int int rest
  pub leads : (n : ℕ) → Leads (Want AfterShort) n ts int n rest

-- behind the word unsigned
pub record ReadsUnsigned (at : ℕ) (ts : List Placed) (s : SpecWords) (rest : List Placed) : Type 0 where
  pub text : word keys.Unsigned at ∷ ts ≡ onto_spec s rest
  pub leads : (n : ℕ) → Leads (Want (AfterUnsigned at)) n ts s n rest

pub record ReadsSpec (ts : List Placed) (s : SpecWords) (rest : List Placed) : Type 0 where
  pub text : ts ≡ onto_spec s rest
  pub leads : (n : ℕ) → Leads (Want TypeWords) n ts s n rest

pub record ReadsStars (ts : List Placed) (ats : List ℕ) (rest : List Placed) : Type 0 where
  pub text : ts ≡ onto_stars ats rest
  pub leads : (n : ℕ) → Leads (Want Stars) n ts ats n rest

-- the stars so far are read
pub record StarsSoFar (ts : List Placed) (ats : List ℕ) (rest : List Placed) : Type 0 where
  pub text : (w : List Placed) → (v : List ℕ) → rest ≡ onto_stars v w → ts ≡ onto_stars (ats ++ v) w

pub record ReadsType (ts : List Placed) (t : TypeName) (rest : List Placed) : Type 0 where
  pub text : ts ≡ onto_type t rest
  pub leads : (n : ℕ) → Leads type_goals n ts t n rest

-- the arguments up to their closing bracket are read
pub record ReadsArguments (n : ℕ) (ts : List Placed) (es : SomeExps) (rest : List Placed) : Type 0 where
  pub text : ts ≡ onto_first es (record { kind = token.Mark marks.CloseParenthesis; at = 0 } ∷ rest)
  pub at : AllAt es
  pub low : LowExps limit es n

-- a bracket in front of a type stands there
pub record BeginsCast (ts : List Placed) : Type 0 where
  pub opened : ℕ
  pub behind : List Placed
  pub text : ts ≡ record { kind = token.Mark marks.OpenParenthesis; at = opened } ∷ behind
  pub word : IsTypeWord behind

-- what may not stand directly behind an operand: ( [ ++ --
abbrev pub StopClass : Class → Type 0
StopClass c.OpenParen = Unit {0}
StopClass c.OpenBracket = Unit {0}
StopClass c.Step = Unit {0}
StopClass k = ⊥

abbrev pub IsStop : List Placed → Type 0
IsStop [] = ⊥
IsStop (t ∷ ts) = StopClass (class_of t.kind)

-- a binary operator that stands there takes this expression as its left operand
pub record Ready (lowest : ℕ) (e : AnExp) (ts : List Placed) : Type 0 where
  pub phrase : ℕ
  pub at : IsAt phrase e
  pub least : lowest ≤ phrase
  pub quiet : Quiet (phrase + 1) ts
  pub operators : Quiet 13 ts

-- behind the word sizeof, which opened the level
pub record ReadsSizeof (at level : ℕ) (ts : List Placed) (e : AnExp) (rest : List Placed) (m : ℕ) : Type 0 where
  pub text : word keys.Sizeof at ∷ ts ≡ onto_exp e rest
  pub phrase : IsAt 14 e
  pub low : (n : ℕ) → level ≡ n + 1 → LowExp limit e n × (m ≡ after_exp e n)
  pub quiet : Quiet 13 rest
  pub rises : level ≤ m

-- what is taken at the front is the name there, or there is none
abbrev pub NoName : List Placed → Type 0
NoName [] = Unit {0}
NoName (t ∷ ts) = (n : List ℕ) → t.kind ≢ token.Name n

abbrev pub NoNumber : List Placed → Type 0
NoNumber [] = Unit {0}
NoNumber (t ∷ ts) = (v : ℕ) → t.kind ≢ token.Number v

abbrev pub NoString : List Placed → Type 0
NoString [] = Unit {0}
NoString (t ∷ ts) = (b : List ℕ) → t.kind ≢ token.Str b

-- the arguments so far are read: what is spelled behind them is the whole list's
pub record ArgumentsSoFar (n : ℕ) (ts : List Placed) (es : SomeExps) (rest : List Placed) : Type 0 where
  pub text : ts ≡ onto_first es rest
  pub some : IsSome es
  pub at : AllAt es
  pub low : LowExps limit es n
  pub quiet : Quiet 1 rest
