-- What the functions that read declarations and statements answer.
use Rattle.std.specs.Prelude.{◌≡◌, ℕ, ◌+◌, List, [], ◌∷◌, Option, true}
use Rattle.c_tokens.specs.declared.marks.Mark.TheVariants as marks
use Rattle.c_phrases.specs.Classes.{Placed, sign}
use Rattle.c_phrases.specs.Phrases.{AnExp, IsAt}
use Rattle.c_phrases.specs.Levels.{limit}
use Rattle.c_phrases.specs.Fronts.{StandsBefore}
use Rattle.c_phrases.specs.Units.{ALength, AnInit, AnInitialised, ADeclarator, ALocal, AStatement, SomeItems, AParam}
use Rattle.c_phrases.specs.Units.{SomeParams, ADeclared, AnExternal}
use Rattle.c_phrases.specs.UnitSpelling.{onto_part, onto_length, onto_init, onto_initialised, onto_declarator}
use Rattle.c_phrases.specs.UnitSpelling.{onto_declarators, onto_local, onto_condition, onto_statement, onto_items}
use Rattle.c_phrases.specs.UnitSpelling.{onto_param, onto_param_list, onto_params, onto_body, onto_declared}
use Rattle.c_phrases.specs.UnitSpelling.{onto_external, onto_externals}
use Rattle.c_phrases.specs.Fits.{PartFits, LengthFits, InitFits, InitialisedFits, DeclaratorFits, DeclaratorsFit}
use Rattle.c_phrases.specs.Fits.{HasDeclarator, LocalFits, StatementFits, ItemsFit, ParamFits, ParamsFit}
use Rattle.c_phrases.specs.Fits.{SomeParamsFit, BodyFits, DeclaredFits, ExternalsFit}
use Rattle.c_phrases.specs.UnitLevels.{LowPart, LowLength, LowInit, LowInitialised, LowDeclarator, LowDeclarators}
use Rattle.c_phrases.specs.UnitLevels.{LowCondition, LowStatement, LowItems, LowParams, LowSomeParams, LowBody}
use Rattle.c_phrases.specs.UnitLevels.{LowDeclared, LowExternals}

-- a phrase is read: these tokens spell it in front of the rest, it fits the grammar, and its levels are allowed
pub record ReadsPart (n : ℕ) (ts : List Placed) (e : Option AnExp) (rest : List Placed) : Type 0 where
  pub text : ts ≡ onto_part e rest
  pub fits : PartFits 0 e
  pub low : LowPart limit e n

pub record ReadsLength (n : ℕ) (ts : List Placed) (l : Option ALength) (rest : List Placed) : Type 0 where
  pub text : ts ≡ onto_length l rest
  pub fits : LengthFits l
  pub low : LowLength limit l n

pub record ReadsInit (n : ℕ) (ts : List Placed) (i : AnInit) (rest : List Placed) : Type 0 where
  pub text : ts ≡ onto_init i rest
  pub fits : InitFits i
  pub low : LowInit limit i n

-- behind the brace, which opened level m
pub record ReadsElements (m : ℕ) (ts : List Placed) (i : AnInit) (rest : List Placed) : Type 0 where
  pub text : sign marks.OpenBrace 0 ∷ ts ≡ onto_init i rest
  pub fits : InitFits i
  pub low : (n : ℕ) → m ≡ n + 1 → limit (n + 1) ≡ true → LowInit limit i n

pub record ReadsInitialised (n : ℕ) (ts : List Placed) (i : Option AnInitialised) (rest : List Placed) : Type 0 where
  pub text : ts ≡ onto_initialised i rest
  pub fits : InitialisedFits i
  pub low : LowInitialised limit i n

pub record ReadsDeclarator (n : ℕ) (ts : List Placed) (d : ADeclarator) (rest : List Placed) : Type 0 where
  pub text : ts ≡ onto_declarator d rest
  pub fits : DeclaratorFits d
  pub low : LowDeclarator limit d n

pub record ReadsDeclarators (n : ℕ) (ts : List Placed) (ds : List ADeclarator) (rest : List Placed) : Type 0 where
  pub text : ts ≡ onto_declarators ds (sign marks.Semicolon 0 ∷ rest)
  pub some : HasDeclarator ds
  pub fits : DeclaratorsFit ds
  pub low : LowDeclarators limit ds n

-- the declarators so far
pub record DeclaratorsSoFar (n : ℕ) (ts : List Placed) (ds : List ADeclarator) (rest : List Placed) : Type 0 where
  pub text : ts ≡ onto_declarators ds rest
  pub some : HasDeclarator ds
  pub fits : DeclaratorsFit ds
  pub low : LowDeclarators limit ds n

pub record ReadsLocal (n : ℕ) (ts : List Placed) (l : ALocal) (rest : List Placed) : Type 0 where
  pub text : ts ≡ onto_local l rest
  pub fits : LocalFits l
  pub low : LowDeclarators limit l.declarators n

pub record ReadsCondition (n o : ℕ) (ts : List Placed) (e : AnExp) (rest : List Placed) : Type 0 where
  pub text : ts ≡ onto_condition o e rest
  pub fits : IsAt 0 e
  pub low : LowCondition limit e n

pub record ReadsStatement (n : ℕ) (ts : List Placed) (s : AStatement) (rest : List Placed) : Type 0 where
  pub text : ts ≡ onto_statement s rest
  pub fits : StatementFits s
  pub low : LowStatement limit s n
  pub stands : StandsBefore s rest

-- behind a word of the statement, which opened level m
pub record ReadsBehind (first : Placed) (m : ℕ) (ts : List Placed) (s : AStatement) (rest : List Placed) : Type 0 where
  pub text : first ∷ ts ≡ onto_statement s rest
  pub fits : StatementFits s
  pub low : (n : ℕ) → m ≡ n + 1 → limit (n + 1) ≡ true → LowStatement limit s n
  pub stands : StandsBefore s rest

-- behind a word that opens no level
pub record ReadsAfter (first : Placed) (n : ℕ) (ts : List Placed) (s : AStatement) (rest : List Placed) : Type 0 where
  pub text : first ∷ ts ≡ onto_statement s rest
  pub fits : StatementFits s
  pub low : LowStatement limit s n
  pub stands : StandsBefore s rest

-- items so far, or up to the brace that closes them
pub record ReadsItems (n : ℕ) (ts : List Placed) (is : SomeItems) (rest : List Placed) : Type 0 where
  pub text : ts ≡ onto_items is rest
  pub fits : ItemsFit is
  pub low : LowItems limit is n

pub record ReadsParam (n : ℕ) (ts : List Placed) (p : AParam) (rest : List Placed) : Type 0 where
  pub text : ts ≡ onto_param p rest
  pub fits : ParamFits p
  pub low : LowLength limit p.length n

abbrev pub HasParam : List AParam → Type 0
HasParam [] = ⊥
HasParam (p ∷ ps) = Unit {0}

pub record ParamsSoFar (n : ℕ) (ts : List Placed) (ps : List AParam) (rest : List Placed) : Type 0 where
  pub text : ts ≡ onto_param_list ps rest
  pub some : HasParam ps
  pub fits : ParamsFit ps
  pub low : LowParams limit ps n

pub record ReadsParams (n : ℕ) (ts : List Placed) (ps : SomeParams) (rest : List Placed) : Type 0 where
  pub text : ts ≡ onto_params ps (sign marks.CloseParenthesis 0 ∷ rest)
  pub fits : SomeParamsFit ps
  pub low : LowSomeParams limit ps n

pub record ReadsBody (ts : List Placed) (b : Option SomeItems) (rest : List Placed) : Type 0 where
  pub text : ts ≡ onto_body b rest
  pub fits : BodyFits b
  pub low : LowBody limit b

pub record ReadsDeclared (ts : List Placed) (d : ADeclared) (rest : List Placed) : Type 0 where
  pub text : ts ≡ onto_declared d rest
  pub fits : DeclaredFits d
  pub low : LowDeclared limit d

pub record ReadsExternal (ts : List Placed) (x : AnExternal) (rest : List Placed) : Type 0 where
  pub text : ts ≡ onto_external x rest
  pub fits : DeclaredFits x.declared
  pub low : LowDeclared limit x.declared

pub record ReadsExternals (ts : List Placed) (xs : List AnExternal) (rest : List Placed) : Type 0 where
  pub text : ts ≡ onto_externals xs rest
  pub fits : ExternalsFit xs
  pub low : LowExternals limit xs
