-- What is still to be read, and what a token can do to it.
use Rattle.std.specs.Prelude.{ℕ, List, Option, Bool}
use Rattle.c_phrases.specs.declared.operator.Spec.{Spec}
use Rattle.c_phrases.specs.declared.tree.Named.{Named}
use Rattle.c_phrases.specs.Phrases.{AnExp}
use Rattle.c_phrases.specs.Phrases.{SomeExps}
use Rattle.c_phrases.specs.Units.{ALength, AnInit, AnInitialised, ADeclarator, ALocal, AStatement}
use Rattle.c_phrases.specs.Units.{SomeItems, AParam, SomeParams}
use Rattle.c_phrases.specs.Units.{ADeclared, AnExternal, AUnit}

-- A part that is still to be read, with what was read in front of it where it goes on with that. `Back` puts a level
-- back; `Ended` stands behind an operand that nothing may follow directly but an operator.
pub data Goal : Type 0 where
  Expr : Goal
  Commas : (l : AnExp) → Goal
  Assign : Goal
  Cond : Goal
  Cast : Goal
  Unary : Goal
  Primary : Goal
  Parens : Goal
  CallTail : (n : List ℕ) (at : ℕ) → Goal
  PostTail : (l : AnExp) → Goal
  Ended : Goal
  Tail : (bare : Bool) (l : AnExp) → Goal
  First : (opened level : ℕ) → Goal
  Group : (opened level : ℕ) → Goal
  SizeofTail : (at : ℕ) → Goal
  SizeofGroup : (at opened level : ℕ) → Goal
  Arguments : Goal
  MoreArguments : Goal
  Back : (level : ℕ) → Goal
  WantParen : Goal
  WantBracket : Goal
  WantColon : Goal
  WantSemi : Goal
  WantWhile : Goal
  TypeWords : Goal
  AfterShort : Goal
  AfterUnsigned : (at : ℕ) → Goal
  Stars : Goal
  Condition : Goal
  Simple : Goal
  Statement : Goal
  Items : Goal
  PartSemi : Goal
  PartParen : Goal
  ForOpen : Goal
  ElsePart : (at opened : ℕ) (e : AnExp) (s : AStatement) → Goal
  Local : Goal
  DeclaratorName : (stars : List ℕ) → Goal
  ArrayPart : Goal
  Length : Goal
  InitPart : Goal
  Init : Goal
  Elements : Goal
  InitMore : Goal
  InitNext : Goal
  MoreDeclarators : Goal
  DeclaredName : (stars : List ℕ) → Goal
  AfterName : (stars n : List ℕ) (at : ℕ) → Goal
  Body : Goal
  Params : Goal
  OptName : Goal
  MoreParams : Goal
  External : Goal
  Whole : Goal

-- the phrase that a part yields
abbrev pub Val : Goal → Type 0
Val Ended = Unit {0}
Val (Back m) = Unit {0}
Val WantParen = Unit {0}
Val WantBracket = Unit {0}
Val WantColon = Unit {0}
Val WantSemi = Unit {0}
Val WantWhile = ℕ
Val Arguments = SomeExps
Val MoreArguments = SomeExps
Val TypeWords = Spec
Val AfterShort = Option ℕ
Val (AfterUnsigned at) = Spec
Val Stars = List ℕ
Val Condition = ℕ × AnExp
Val Simple = AStatement
Val Statement = AStatement
Val Items = SomeItems
Val PartSemi = Option AnExp
Val PartParen = Option AnExp
Val ForOpen = ℕ
Val (ElsePart at o e s) = AStatement
Val Local = ALocal
Val (DeclaratorName ats) = ADeclarator
Val ArrayPart = Option ALength
Val Length = Option AnExp
Val InitPart = Option AnInitialised
Val Init = AnInit
Val Elements = AnInit
Val InitMore = SomeExps × Bool
Val InitNext = SomeExps × Bool
Val MoreDeclarators = List ADeclarator
Val (DeclaredName ats) = ADeclared
Val (AfterName ats n at) = ADeclared
Val Body = Option SomeItems
Val Params = SomeParams
Val OptName = Option Named
Val MoreParams = List AParam
Val External = AnExternal
Val Whole = AUnit
Val g = AnExp

-- All that is still to be read: a part, and what is to be read behind it once its phrase is known.
pub data Stack : Type 0 where
  Done : (u : AUnit) → Stack
  Want : (g : Goal) (κ : Val g → Stack) → Stack

-- a token is taken, is taken and opens k levels, is taken as the text's last, or is refused
pub data Step : Type 0 where
  Takes : (s : Stack) → Step
  Opens : (k : ℕ) (s : Stack) → Step
  Finishes : (s : Stack) → Step
  Refuses : Step

-- what a part does with a token, or that it ends in front of it
pub data Turn (V : Type 0) : Type 0 where
  Steps : (x : Step) → Turn V
  Passes : (n : ℕ) (v : V) → Turn V
