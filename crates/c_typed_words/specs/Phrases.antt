-- Phrases in which each name, number and string is a token of which something holds.
use Rattle.std.specs.Prelude.{ℕ, List, [], ◌∷◌, Option, Some, None}
use Rattle.c_tokens.specs.declared.token.Token.{Token}
use Rattle.c_tokens.specs.declared.token.Token.TheVariants as token
use Rattle.c_phrases.specs.declared.tree.Named.{Named}
use Rattle.c_phrases.specs.Phrases.{AnExp, name, number, str, paren, call, index, step_after, step_before, prefix}
use Rattle.c_phrases.specs.Phrases.{sizeof_exp, sizeof_type, cast, binary, choice, assign, comma}
use Rattle.c_phrases.specs.Phrases.{SomeExps, no_exps, exps}
use Rattle.c_phrases.specs.Units.{ALength, AnInit, value, elements, AnInitialised, ADeclarator, ALocal, AStatement}
use Rattle.c_phrases.specs.Units.{block, empty, expression, break_off, continue_on, give_back}
use Rattle.c_phrases.specs.Units.{if_then, if_else, while_loop, do_loop, for_loop, SomeItems, no_items, local_item}
use Rattle.c_phrases.specs.Units.{statement_item, AParam, AFunction, ADeclared, function, globals}
use Rattle.c_phrases.specs.Units.{AnExternal}
use Rattle.c_typed_expressions.specs.Phrases.{init_in, brackets_in, params_in}

module _ (T : Token → Type 0) where
  abbrev mutual
    pub ExpOf : AnExp → Type 0
    ExpOf (name n at) = T (token.Name n)
    ExpOf (number v at) = T (token.Number v)
    ExpOf (str b at) = T (token.Str b)
    ExpOf (paren o e) = ExpOf e
    ExpOf (call n at o es) = T (token.Name n) × ExpsOf es
    ExpOf (index e o i) = ExpOf e × ExpOf i
    ExpOf (step_after e op at) = ExpOf e
    ExpOf (step_before op at e) = ExpOf e
    ExpOf (prefix op at e) = ExpOf e
    ExpOf (sizeof_exp at e) = ExpOf e
    ExpOf (sizeof_type at o t) = Unit {0}
    ExpOf (cast o t e) = ExpOf e
    ExpOf (binary l op at r) = ExpOf l × ExpOf r
    ExpOf (choice c at e d) = ExpOf c × ExpOf e × ExpOf d
    ExpOf (assign p op at v) = ExpOf p × ExpOf v
    ExpOf (comma l r) = ExpOf l × ExpOf r

    pub ExpsOf : SomeExps → Type 0
    ExpsOf no_exps = Unit {0}
    ExpsOf (exps e es) = ExpOf e × ExpsOf es

  -- an expression that may be left out, and a length in brackets
  abbrev pub PartOf : Option AnExp → Type 0
  PartOf None = Unit {0}
  PartOf (Some e) = ExpOf e

  abbrev pub BracketsOf : Option (Option AnExp) → Type 0
  BracketsOf None = Unit {0}
  BracketsOf (Some e) = PartOf e

  abbrev pub InitOf : Option AnInit → Type 0
  InitOf None = Unit {0}
  InitOf (Some (value e)) = ExpOf e
  InitOf (Some (elements es trailing)) = ExpsOf es

  abbrev pub DeclaratorOf : ADeclarator → Type 0
  DeclaratorOf d = T (token.Name d.name) × BracketsOf (brackets_in d.length) × InitOf (init_in d.init)

  abbrev pub DeclaratorsOf : List ADeclarator → Type 0
  DeclaratorsOf [] = Unit {0}
  DeclaratorsOf (d ∷ ds) = DeclaratorOf d × DeclaratorsOf ds

  abbrev mutual
    pub StatementOf : AStatement → Type 0
    StatementOf (block is) = ItemsOf is
    StatementOf empty = Unit {0}
    StatementOf (expression e) = ExpOf e
    StatementOf (break_off at) = Unit {0}
    StatementOf (continue_on at) = Unit {0}
    StatementOf (give_back at e) = PartOf e
    StatementOf (if_then at o e s) = ExpOf e × StatementOf s
    StatementOf (if_else at o e s other t) = ExpOf e × StatementOf s × StatementOf t
    StatementOf (while_loop at o e s) = ExpOf e × StatementOf s
    StatementOf (do_loop at s again o e) = StatementOf s × ExpOf e
    StatementOf (for_loop at o a b c s) = PartOf a × PartOf b × PartOf c × StatementOf s

    pub ItemsOf : SomeItems → Type 0
    ItemsOf no_items = Unit {0}
    ItemsOf (local_item l is) = DeclaratorsOf l.declarators × ItemsOf is
    ItemsOf (statement_item s is) = StatementOf s × ItemsOf is

  abbrev pub NamedOf : Option Named → Type 0
  NamedOf None = Unit {0}
  NamedOf (Some n) = T (token.Name n.name)

  abbrev pub ParamOf : AParam → Type 0
  ParamOf p = NamedOf p.name × BracketsOf (brackets_in p.length)

  abbrev pub ParamsOf : List AParam → Type 0
  ParamsOf [] = Unit {0}
  ParamsOf (p ∷ ps) = ParamOf p × ParamsOf ps

  abbrev pub BodyOf : Option SomeItems → Type 0
  BodyOf None = Unit {0}
  BodyOf (Some is) = ItemsOf is

  abbrev pub DeclaredOf : ADeclared → Type 0
  DeclaredOf (function f) = T (token.Name f.name) × ParamsOf (params_in f.params) × BodyOf f.body
  DeclaredOf (globals ds) = DeclaratorsOf ds

  abbrev pub ExternalsOf : List AnExternal → Type 0
  ExternalsOf [] = Unit {0}
  ExternalsOf (x ∷ xs) = DeclaredOf x.declared × ExternalsOf xs
