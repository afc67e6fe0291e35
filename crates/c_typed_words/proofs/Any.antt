-- What holds of every token holds of each phrase.
use Rattle.std.proofs.Common.{List, [], ◌∷◌, Option, Some, None}
use Rattle.c_tokens.specs.declared.token.Token.{Token}
use Rattle.c_tokens.specs.declared.token.Token.TheVariants as token
use Rattle.c_phrases.specs.Phrases.{AnExp, name, number, str, paren, call, index, step_after, step_before, prefix}
use Rattle.c_phrases.specs.Phrases.{sizeof_exp, sizeof_type, cast, binary, choice, assign, comma, SomeExps, no_exps}
use Rattle.c_phrases.specs.Phrases.{exps}
use Rattle.c_phrases.specs.Units.{AnInit, value, elements, ADeclarator, AStatement, block, empty, expression}
use Rattle.c_phrases.specs.Units.{break_off, continue_on, give_back, if_then, if_else, while_loop, do_loop, for_loop}
use Rattle.c_phrases.specs.Units.{SomeItems, no_items, local_item, statement_item}
use Rattle.c_typed_expressions.specs.Phrases.{init_in, brackets_in}
use Rattle.c_typed_words.specs.Phrases.{ExpOf, ExpsOf, PartOf, BracketsOf, InitOf, DeclaratorOf, DeclaratorsOf, StatementOf, ItemsOf}

abbrev pub AnyToken : Token → Type 0
AnyToken t = Unit {0}

mutual
  pub any_exp : (e : AnExp) → ExpOf AnyToken e
  any_exp (name n at) = tt
  any_exp (number v at) = tt
  any_exp (str b at) = tt
  any_exp (paren o e) = any_exp e
  any_exp (call n at o es) = (tt, any_exps es)
  any_exp (index e o i) = (any_exp e, any_exp i)
  any_exp (step_after e op at) = any_exp e
  any_exp (step_before op at e) = any_exp e
  any_exp (prefix op at e) = any_exp e
  any_exp (sizeof_exp at e) = any_exp e
  any_exp (sizeof_type at o t) = tt
  any_exp (cast o t e) = any_exp e
  any_exp (binary l op at r) = (any_exp l, any_exp r)
  any_exp (choice c at e d) = (any_exp c, any_exp e, any_exp d)
  any_exp (assign p op at v) = (any_exp p, any_exp v)
  any_exp (comma l r) = (any_exp l, any_exp r)

  pub any_exps : (es : SomeExps) → ExpsOf AnyToken es
  any_exps no_exps = tt
  any_exps (exps e es) = (any_exp e, any_exps es)

pub any_part : (e : Option AnExp) → PartOf AnyToken e
any_part None = tt
any_part (Some e) = any_exp e

pub any_brackets : (l : Option (Option AnExp)) → BracketsOf AnyToken l
any_brackets None = tt
any_brackets (Some e) = any_part e

pub any_init : (i : Option AnInit) → InitOf AnyToken i
any_init None = tt
any_init (Some (value e)) = any_exp e
any_init (Some (elements es trailing)) = any_exps es

pub any_declarator : (d : ADeclarator) → DeclaratorOf AnyToken d
any_declarator d = (tt, any_brackets (brackets_in d.length), any_init (init_in d.init))

pub any_declarators : (ds : List ADeclarator) → DeclaratorsOf AnyToken ds
any_declarators [] = tt
any_declarators (d ∷ ds) = (any_declarator d, any_declarators ds)

mutual
  pub any_statement : (a : AStatement) → StatementOf AnyToken a
  any_statement (block is) = any_items is
  any_statement empty = tt
  any_statement (expression e) = any_exp e
  any_statement (break_off at) = tt
  any_statement (continue_on at) = tt
  any_statement (give_back at e) = any_part e
  any_statement (if_then at o e s) = (any_exp e, any_statement s)
  any_statement (if_else at o e s other t) = (any_exp e, any_statement s, any_statement t)
  any_statement (while_loop at o e s) = (any_exp e, any_statement s)
  any_statement (do_loop at s again o e) = (any_statement s, any_exp e)
  any_statement (for_loop at o a b c s) = (any_part a, any_part b, any_part c, any_statement s)

  pub any_items : (row : SomeItems) → ItemsOf AnyToken row
  any_items no_items = tt
  any_items (local_item l is) = (any_declarators l.declarators, any_items is)
  any_items (statement_item s is) = (any_statement s, any_items is)
