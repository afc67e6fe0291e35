-- What the grammar asks of a phrase beyond its tokens.
use Rattle.std.specs.Prelude.{◌≡◌, ℕ, List, [], ◌∷◌, Option, Some, None}
use Rattle.std.specs.List.{AllByRecursion}
use Rattle.c_phrases.specs.declared.operator.Spec.{Spec}
use Rattle.c_phrases.specs.declared.operator.Spec.TheVariants as specs
use Rattle.c_phrases.specs.Phrases.{AnExp, SomeExps, no_exps, exps, IsAt, AllAt}
use Rattle.c_phrases.specs.Units.{ALength, AnInit, value, elements, AnInitialised, ADeclarator, ALocal, AStatement}
use Rattle.c_phrases.specs.Units.{block, empty, expression, break_off, continue_on, give_back, if_then, if_else}
use Rattle.c_phrases.specs.Units.{while_loop, do_loop, for_loop, SomeItems, no_items, local_item, statement_item}
use Rattle.c_phrases.specs.Units.{AParam, SomeParams, no_params, void_word, params, ADeclared, function, globals}
use Rattle.c_phrases.specs.Units.{AnExternal}

abbrev pub PartFits : (phrase : ℕ) → Option AnExp → Type 0
PartFits k None = Unit {0}
PartFits k (Some e) = IsAt k e

abbrev pub LengthFits : Option ALength → Type 0
LengthFits None = Unit {0}
LengthFits (Some l) = PartFits 2 l.value

abbrev pub IsSome : SomeExps → Type 0
IsSome no_exps = ⊥
IsSome (exps e es) = Unit {0}

abbrev pub InitFits : AnInit → Type 0
InitFits (value e) = IsAt 1 e
InitFits (elements es t) = IsSome es × AllAt es

abbrev pub InitialisedFits : Option AnInitialised → Type 0
InitialisedFits None = Unit {0}
InitialisedFits (Some i) = InitFits i.with_init

abbrev pub DeclaratorFits : ADeclarator → Type 0
DeclaratorFits d = LengthFits d.length × InitialisedFits d.init

abbrev pub DeclaratorsFit : List ADeclarator → Type 0
DeclaratorsFit ds = AllByRecursion DeclaratorFits ds

abbrev pub HasDeclarator : List ADeclarator → Type 0
HasDeclarator [] = ⊥
HasDeclarator (d ∷ ds) = Unit {0}

abbrev pub LocalFits : ALocal → Type 0
LocalFits l = HasDeclarator l.declarators × DeclaratorsFit l.declarators

-- an `else` can't follow: the statement does not end in an `if` without one
abbrev pub IsShut : AStatement → Type 0
IsShut (if_then at o e s) = ⊥
IsShut (if_else at o e s other t) = IsShut t
IsShut (while_loop at o e s) = IsShut s
IsShut (for_loop at o a b c s) = IsShut s
IsShut s = Unit {0}

-- each `else` belongs to the nearest `if`
abbrev mutual
  pub StatementFits : AStatement → Type 0
  StatementFits (block is) = ItemsFit is
  StatementFits empty = Unit {0}
  StatementFits (expression e) = IsAt 0 e
  StatementFits (break_off at) = Unit {0}
  StatementFits (continue_on at) = Unit {0}
  StatementFits (give_back at e) = PartFits 0 e
  StatementFits (if_then at o e s) = IsAt 0 e × StatementFits s
  StatementFits (if_else at o e s other t) = IsAt 0 e × (StatementFits s × (IsShut s × StatementFits t))
  StatementFits (while_loop at o e s) = IsAt 0 e × StatementFits s
  StatementFits (do_loop at s again o e) = IsAt 0 e × StatementFits s
  StatementFits (for_loop at o a b c s) = PartFits 0 a × (PartFits 0 b × (PartFits 0 c × StatementFits s))

  pub ItemsFit : SomeItems → Type 0
  ItemsFit no_items = Unit {0}
  ItemsFit (local_item l is) = LocalFits l × ItemsFit is
  ItemsFit (statement_item s is) = StatementFits s × ItemsFit is

abbrev pub ParamFits : AParam → Type 0
ParamFits p = LengthFits p.length

abbrev pub ParamsFit : List AParam → Type 0
ParamsFit ps = AllByRecursion ParamFits ps

-- the word void alone is no parameter
abbrev pub IsVoid : Spec → Type 0
IsVoid (specs.Void at) = Unit {0}
IsVoid s = ⊥

abbrev pub IsBare : AParam → Type 0
IsBare p = IsVoid p.spec × ((p.stars ≡ []) × ((p.name ≡ None) × (p.length ≡ None)))

abbrev pub SomeParamsFit : SomeParams → Type 0
SomeParamsFit no_params = Unit {0}
SomeParamsFit (void_word at) = Unit {0}
SomeParamsFit (params []) = ⊥
SomeParamsFit (params (p ∷ [])) = ParamFits p × (IsBare p → ⊥)
SomeParamsFit (params (p ∷ ps)) = ParamFits p × ParamsFit ps

abbrev pub BodyFits : Option SomeItems → Type 0
BodyFits None = Unit {0}
BodyFits (Some is) = ItemsFit is

abbrev pub DeclaredFits : ADeclared → Type 0
DeclaredFits (function f) = SomeParamsFit f.params × BodyFits f.body
DeclaredFits (globals ds) = HasDeclarator ds × DeclaratorsFit ds

abbrev pub ExternalsFit : List AnExternal → Type 0
ExternalsFit xs = AllByRecursion (λ (x : AnExternal). DeclaredFits x.declared) xs
