-- The tokens of declarations and statements, each with the level that it opens.
use Rattle.std.specs.Prelude.{ℕ, ◌+◌, List, [], ◌∷◌, Option, Some, None, Bool, true, false}
use Rattle.c_tokens.specs.declared.words.Key.TheVariants as keys
use Rattle.c_tokens.specs.declared.marks.Mark.TheVariants as marks
use Rattle.c_phrases.specs.declared.operator.Storage.{Storage}
use Rattle.c_phrases.specs.declared.operator.Storage.TheVariants as storages
use Rattle.c_phrases.specs.Classes.{word, sign}
use Rattle.c_phrases.specs.Phrases.{AnExp}
use Rattle.c_phrases.specs.Units.{ALength, AnInit, value, elements, AnInitialised, ADeclarator, ALocal, AStatement}
use Rattle.c_phrases.specs.Units.{block, empty, expression, break_off, continue_on, give_back, if_then, if_else}
use Rattle.c_phrases.specs.Units.{while_loop, do_loop, for_loop}
use Rattle.c_phrases.specs.Units.{SomeItems, no_items, local_item, statement_item}
use Rattle.c_syntax_goals.specs.Openings.{Opening, opens, plain, levelled_spec, levelled_stars, levelled_name}
use Rattle.c_syntax_goals.specs.Openings.{levelled_exp, levelled_first, levelled_part}

abbrev pub levelled_length : Option ALength → ℕ → List Opening → List Opening
levelled_length None n w = w
levelled_length (Some l) n w = opens (n + 1) (sign marks.OpenBracket l.opened) ∷ levelled_part l.value (n + 1)
    (plain (sign marks.CloseBracket 0) ∷ w)

abbrev pub levelled_trailing : Bool → List Opening → List Opening
levelled_trailing true w = plain (sign marks.Comma 0) ∷ w
levelled_trailing false w = w

abbrev pub levelled_init : AnInit → ℕ → List Opening → List Opening
levelled_init (value e) n w = levelled_exp e n w
levelled_init (elements es t) n w = opens (n + 1) (sign marks.OpenBrace 0) ∷ levelled_first es (n + 1)
    (levelled_trailing t (plain (sign marks.CloseBrace 0) ∷ w))

abbrev pub levelled_initialised : Option AnInitialised → ℕ → List Opening → List Opening
levelled_initialised None n w = w
levelled_initialised (Some i) n w = plain (sign marks.Assign i.at) ∷ levelled_init i.with_init n w

abbrev pub levelled_declarator : ADeclarator → ℕ → List Opening → List Opening
levelled_declarator d n w = levelled_stars d.stars (levelled_name d.name d.at
    (levelled_length d.length n (levelled_initialised d.init n w)))

abbrev pub levelled_more_declarators : List ADeclarator → ℕ → List Opening → List Opening
levelled_more_declarators [] n w = w
levelled_more_declarators (d ∷ ds) n w = plain (sign marks.Comma 0) ∷ levelled_declarator d n (levelled_more_declarators ds n w)

abbrev pub levelled_declarators : List ADeclarator → ℕ → List Opening → List Opening
levelled_declarators [] n w = w
levelled_declarators (d ∷ ds) n w = levelled_declarator d n (levelled_more_declarators ds n w)

abbrev pub levelled_storage : Storage → List Opening → List Opening
levelled_storage storages.Automatic w = w
levelled_storage (storages.Static at) w = plain (word keys.Static at) ∷ w
levelled_storage (storages.Register at) w = plain (word keys.Register at) ∷ w

abbrev pub levelled_local : ALocal → ℕ → List Opening → List Opening
levelled_local l n w = levelled_storage l.storage (levelled_spec l.spec
    (levelled_declarators l.declarators n (plain (sign marks.Semicolon 0) ∷ w)))

-- statements: the words if, while, do and for open a level until the statement ends
abbrev pub levelled_condition : ℕ → AnExp → ℕ → List Opening → List Opening
levelled_condition o e n w = opens (n + 1) (sign marks.OpenParenthesis o) ∷ levelled_exp e (n + 1)
    (plain (sign marks.CloseParenthesis 0) ∷ w)

abbrev mutual
  pub levelled_statement : AStatement → ℕ → List Opening → List Opening
  levelled_statement (block is) n w = opens (n + 1) (sign marks.OpenBrace 0) ∷ levelled_items is (n + 1)
      (plain (sign marks.CloseBrace 0) ∷ w)
  levelled_statement empty n w = plain (sign marks.Semicolon 0) ∷ w
  levelled_statement (expression e) n w = levelled_exp e n (plain (sign marks.Semicolon 0) ∷ w)
  levelled_statement (break_off at) n w = plain (word keys.Break at) ∷ plain (sign marks.Semicolon 0) ∷ w
  levelled_statement (continue_on at) n w = plain (word keys.Continue at) ∷ plain (sign marks.Semicolon 0) ∷ w
  levelled_statement (give_back at e) n w = plain (word keys.Return at) ∷ levelled_part e n (plain (sign marks.Semicolon 0) ∷ w)
  levelled_statement (if_then at o e s) n w = opens (n + 1) (word keys.If at) ∷ levelled_condition o e (n + 1)
      (levelled_statement s (n + 1) w)
  levelled_statement (if_else at o e s other t) n w = opens (n + 1) (word keys.If at) ∷ levelled_condition o e (n + 1)
      (levelled_statement s (n + 1) (plain (word keys.Else other) ∷ levelled_statement t (n + 1) w))
  levelled_statement (while_loop at o e s) n w = opens (n + 1) (word keys.While at) ∷ levelled_condition o e (n + 1)
      (levelled_statement s (n + 1) w)
  levelled_statement (do_loop at s again o e) n w = opens (n + 1) (word keys.Do at) ∷ levelled_statement s (n + 1)
      (plain (word keys.While again) ∷ levelled_condition o e (n + 1) (plain (sign marks.Semicolon 0) ∷ w))
  levelled_statement (for_loop at o a b c s) n w = opens (n + 1) (word keys.For at) ∷ opens (n + 1 + 1)
      (sign marks.OpenParenthesis o) ∷ levelled_part a (n + 1 + 1) (plain (sign marks.Semicolon 0) ∷ levelled_part b (n + 1 + 1)
      (plain (sign marks.Semicolon 0) ∷ levelled_part c (n + 1 + 1) (plain (sign marks.CloseParenthesis 0) ∷ levelled_statement
      s (n + 1) w)))

  pub levelled_items : SomeItems → ℕ → List Opening → List Opening
  levelled_items no_items n w = w
  levelled_items (local_item l is) n w = levelled_local l n (levelled_items is n w)
  levelled_items (statement_item s is) n w = levelled_statement s n (levelled_items is n w)
