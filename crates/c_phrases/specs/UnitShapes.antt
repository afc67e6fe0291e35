-- The plain declaration, statement or unit of a tree.
use Rattle.std.specs.Prelude.{List, [], ◌∷◌, map, Option, Some, None}
use Rattle.std.specs.Global.{Vec}
use Rattle.c_phrases.specs.declared.tree.Expr.{Expr}
use Rattle.c_phrases.specs.declared.tree.Length.{Length}
use Rattle.c_phrases.specs.declared.tree.Initialiser.{Initialiser}
use Rattle.c_phrases.specs.declared.tree.Initialiser.TheVariants as inits
use Rattle.c_phrases.specs.declared.tree.Initialised.{Initialised}
use Rattle.c_phrases.specs.declared.tree.Declarator.{Declarator}
use Rattle.c_phrases.specs.declared.tree.Local.{Local}
use Rattle.c_phrases.specs.declared.tree.Item.{Item}
use Rattle.c_phrases.specs.declared.tree.Item.TheVariants as item
use Rattle.c_phrases.specs.declared.tree.Statement.{Statement, Row_of-Item, end_of-Item, more_of-Item}
use Rattle.c_phrases.specs.declared.tree.Statement.TheVariants as statement
use Rattle.c_phrases.specs.declared.tree.Param.{Param}
use Rattle.c_phrases.specs.declared.tree.Params.{Params}
use Rattle.c_phrases.specs.declared.tree.Params.TheVariants as parameters
use Rattle.c_phrases.specs.declared.tree.Declared.{Declared}
use Rattle.c_phrases.specs.declared.tree.Declared.TheVariants as declareds
use Rattle.c_phrases.specs.declared.tree.External.{External}
use Rattle.c_phrases.specs.declared.tree.Ast.{Ast}
use Rattle.c_phrases.specs.Phrases.{AnExp}
use Rattle.c_phrases.specs.Shapes.{exp, exp_list}
use Rattle.c_phrases.specs.Units.{ALength, AnInit, value, elements, AnInitialised, ADeclarator, ALocal, AStatement}
use Rattle.c_phrases.specs.Units.{block, empty, expression, break_off, continue_on, give_back, if_then, if_else}
use Rattle.c_phrases.specs.Units.{while_loop, do_loop, for_loop, SomeItems, no_items, local_item, statement_item}
use Rattle.c_phrases.specs.Units.{AParam, SomeParams, no_params, void_word, params, ADeclared, function, globals}
use Rattle.c_phrases.specs.Units.{AnExternal, AUnit}

abbrev pub part : Option Expr → Option AnExp
part None = None
part (Some e) = Some (exp e)

abbrev pub length_of : Option Length → Option ALength
length_of None = None
length_of (Some l) = Some (record { opened = l.«open»; value = part l.value })

abbrev pub init_of : Initialiser → AnInit
init_of (inits.Value e) = value (exp e)
init_of (inits.List items trailing) = elements (exp_list items.items) trailing

abbrev pub initialised_of : Option Initialised → Option AnInitialised
initialised_of None = None
initialised_of (Some i) = Some (record { at = i.at; with_init = init_of i.with })

abbrev pub declarator_of : Declarator → ADeclarator
declarator_of d = record { stars = d.stars; name = d.name; at = d.at; length = length_of d.length; init = initialised_of d.initialiser }

abbrev pub declarators_of : List Declarator → List ADeclarator
declarators_of ds = map declarator_of ds

abbrev pub local_of : Local → ALocal
local_of l = record { storage = l.storage; spec = l.spec; declarators = declarators_of l.declarators.items }

abbrev mutual
  pub statement_of : Statement → AStatement
  statement_of (statement.Block' shape row) = block (items_row row)
  statement_of statement.Empty = empty
  statement_of (statement.Expr e) = expression (exp e)
  statement_of (statement.Break at) = break_off at
  statement_of (statement.Continue at) = continue_on at
  statement_of (statement.Return at e) = give_back at (part e)
  statement_of (statement.If' at o e p s) = if_then at o (exp e) (statement_of s)
  statement_of (statement.IfElse' at o e p s other q t) = if_else at o (exp e) (statement_of s) other (statement_of t)
  statement_of (statement.While' at o e p s) = while_loop at o (exp e) (statement_of s)
  statement_of (statement.Do' at p s again o e) = do_loop at (statement_of s) again o (exp e)
  statement_of (statement.For' at o a b c p s) = for_loop at o (part a) (part b) (part c) (statement_of s)

  pub item_onto : Item → SomeItems → SomeItems
  item_onto (item.Local l) is = local_item (local_of l) is
  item_onto (item.Statement s) is = statement_item (statement_of s) is

  pub items_row : {m : _} → Row_of-Item m → SomeItems
  items_row end_of-Item = no_items
  items_row (more_of-Item i rest) = item_onto i (items_row rest)

abbrev pub items_of : List Item → SomeItems
items_of [] = no_items
items_of (i ∷ is) = item_onto i (items_of is)

abbrev pub param_of : Param → AParam
param_of p = record { spec = p.spec; stars = p.stars; name = p.name; length = length_of p.length }

abbrev pub param_list : List Param → List AParam
param_list ps = map param_of ps

abbrev pub params_of : Params → SomeParams
params_of parameters.None = no_params
params_of (parameters.Void at) = void_word at
params_of (parameters.List ps) = params (param_list ps.items)

abbrev pub body_of : Option (Vec Item) → Option SomeItems
body_of None = None
body_of (Some is) = Some (items_of is.items)

abbrev pub declared_of : Declared → ADeclared
declared_of (declareds.Function f) = function (record {
  stars = f.stars;
  name = f.name;
  at = f.at;
  opened = f.«open»;
  params =
      params_of f.params;
  body = body_of f.body;
})
declared_of (declareds.Globals ds) = globals (declarators_of ds.items)

abbrev pub external_of : External → AnExternal
external_of x = record { static_at = x.static_at; spec = x.spec; declared = declared_of x.declared }

abbrev pub externals_of : List External → List AnExternal
externals_of xs = map external_of xs

abbrev pub unit_of : Ast → AUnit
unit_of a = record { externals = externals_of a.externals.items; end = a.end }
