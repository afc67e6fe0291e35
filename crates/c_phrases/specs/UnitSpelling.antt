-- The tokens of declarations, statements and units, onto what follows.
use Rattle.std.specs.Prelude.{ℕ, List, [], ◌∷◌, Option, Some, None, Bool, true, false}
use Rattle.c_tokens.specs.declared.token.Token.TheVariants as token
use Rattle.c_tokens.specs.declared.words.Key.TheVariants as keys
use Rattle.c_tokens.specs.declared.marks.Mark.TheVariants as marks
use Rattle.c_phrases.specs.declared.operator.Storage.{Storage}
use Rattle.c_phrases.specs.declared.operator.Storage.TheVariants as storages
use Rattle.c_phrases.specs.declared.tree.Named.{Named}
use Rattle.c_phrases.specs.Classes.{Placed, word, sign}
use Rattle.c_phrases.specs.Phrases.{AnExp}
use Rattle.c_phrases.specs.Spelling.{onto_exp, onto_first, onto_spec, onto_stars, onto_name}
use Rattle.c_phrases.specs.Units.{ALength, AnInit, value, elements, AnInitialised, ADeclarator, ALocal, AStatement}
use Rattle.c_phrases.specs.Units.{block, empty, expression, break_off, continue_on, give_back, if_then, if_else}
use Rattle.c_phrases.specs.Units.{while_loop, do_loop, for_loop, SomeItems, no_items, local_item, statement_item}
use Rattle.c_phrases.specs.Units.{AParam, SomeParams, no_params, void_word, params, ADeclared, function, globals}
use Rattle.c_phrases.specs.Units.{AnExternal, AUnit}

abbrev pub onto_part : Option AnExp → List Placed → List Placed
onto_part None w = w
onto_part (Some e) w = onto_exp e w

abbrev pub onto_length : Option ALength → List Placed → List Placed
onto_length None w = w
onto_length (Some l) w = sign marks.OpenBracket l.opened ∷ onto_part l.value (sign marks.CloseBracket 0 ∷ w)

abbrev pub onto_trailing : Bool → List Placed → List Placed
onto_trailing true w = sign marks.Comma 0 ∷ w
onto_trailing false w = w

abbrev pub onto_init : AnInit → List Placed → List Placed
onto_init (value e) w = onto_exp e w
onto_init (elements es t) w = sign marks.OpenBrace 0 ∷ onto_first es (onto_trailing t (sign marks.CloseBrace 0 ∷ w))

abbrev pub onto_initialised : Option AnInitialised → List Placed → List Placed
onto_initialised None w = w
onto_initialised (Some i) w = sign marks.Assign i.at ∷ onto_init i.with_init w

abbrev pub onto_declarator : ADeclarator → List Placed → List Placed
onto_declarator d w = onto_stars d.stars (onto_name d.name d.at (onto_length d.length (onto_initialised d.init w)))

-- declarators with commas between them
abbrev pub onto_more_declarators : List ADeclarator → List Placed → List Placed
onto_more_declarators [] w = w
onto_more_declarators (d ∷ ds) w = sign marks.Comma 0 ∷ onto_declarator d (onto_more_declarators ds w)

abbrev pub onto_declarators : List ADeclarator → List Placed → List Placed
onto_declarators [] w = w
onto_declarators (d ∷ ds) w = onto_declarator d (onto_more_declarators ds w)

abbrev pub onto_storage : Storage → List Placed → List Placed
onto_storage storages.Automatic w = w
onto_storage (storages.Static at) w = word keys.Static at ∷ w
onto_storage (storages.Register at) w = word keys.Register at ∷ w

abbrev pub onto_local : ALocal → List Placed → List Placed
onto_local l w = onto_storage l.storage (onto_spec l.spec (onto_declarators l.declarators (sign marks.Semicolon 0 ∷ w)))

abbrev pub onto_condition : ℕ → AnExp → List Placed → List Placed
onto_condition o e w = sign marks.OpenParenthesis o ∷ onto_exp e (sign marks.CloseParenthesis 0 ∷ w)

abbrev mutual
  pub onto_statement : AStatement → List Placed → List Placed
  onto_statement (block is) w = sign marks.OpenBrace 0 ∷ onto_items is (sign marks.CloseBrace 0 ∷ w)
  onto_statement empty w = sign marks.Semicolon 0 ∷ w
  onto_statement (expression e) w = onto_exp e (sign marks.Semicolon 0 ∷ w)
  onto_statement (break_off at) w = word keys.Break at ∷ sign marks.Semicolon 0 ∷ w
  onto_statement (continue_on at) w = word keys.Continue at ∷ sign marks.Semicolon 0 ∷ w
  onto_statement (give_back at e) w = word keys.Return at ∷ onto_part e (sign marks.Semicolon 0 ∷ w)
  onto_statement (if_then at o e s) w = word keys.If at ∷ onto_condition o e (onto_statement s w)
  onto_statement (if_else at o e s other t) w = word keys.If at ∷ onto_condition o e
      (onto_statement s (word keys.Else other ∷ onto_statement t w))
  onto_statement (while_loop at o e s) w = word keys.While at ∷ onto_condition o e (onto_statement s w)
  onto_statement (do_loop at s again o e) w = word keys.Do at ∷ onto_statement s
      (word keys.While again ∷ onto_condition o e (sign marks.Semicolon 0 ∷ w))
  onto_statement (for_loop at o a b c s) w = word keys.For at ∷ sign marks.OpenParenthesis o ∷ onto_part a
      (sign marks.Semicolon 0 ∷ onto_part b (sign marks.Semicolon 0 ∷ onto_part c (sign marks.CloseParenthesis 0 ∷ onto_statement s w)))

  pub onto_items : SomeItems → List Placed → List Placed
  onto_items no_items w = w
  onto_items (local_item l is) w = onto_local l (onto_items is w)
  onto_items (statement_item s is) w = onto_statement s (onto_items is w)

abbrev pub onto_named : Option Named → List Placed → List Placed
onto_named None w = w
onto_named (Some n) w = onto_name n.name n.at w

abbrev pub onto_param : AParam → List Placed → List Placed
onto_param p w = onto_spec p.spec (onto_stars p.stars (onto_named p.name (onto_length p.length w)))

abbrev pub onto_more_params : List AParam → List Placed → List Placed
onto_more_params [] w = w
onto_more_params (p ∷ ps) w = sign marks.Comma 0 ∷ onto_param p (onto_more_params ps w)

abbrev pub onto_param_list : List AParam → List Placed → List Placed
onto_param_list [] w = w
onto_param_list (p ∷ ps) w = onto_param p (onto_more_params ps w)

abbrev pub onto_params : SomeParams → List Placed → List Placed
onto_params no_params w = w
onto_params (void_word at) w = word keys.Void at ∷ w
onto_params (params ps) w = onto_param_list ps w

abbrev pub onto_body : Option SomeItems → List Placed → List Placed
onto_body None w = sign marks.Semicolon 0 ∷ w
onto_body (Some is) w = sign marks.OpenBrace 0 ∷ onto_items is (sign marks.CloseBrace 0 ∷ w)

abbrev pub onto_declared : ADeclared → List Placed → List Placed
onto_declared (function f) w = onto_stars f.stars (onto_name f.name f.at
    (sign marks.OpenParenthesis f.opened ∷ onto_params f.params (sign marks.CloseParenthesis 0 ∷ onto_body f.body w)))
onto_declared (globals ds) w = onto_declarators ds (sign marks.Semicolon 0 ∷ w)

abbrev pub onto_static : Option ℕ → List Placed → List Placed
onto_static None w = w
onto_static (Some at) w = word keys.Static at ∷ w

abbrev pub onto_external : AnExternal → List Placed → List Placed
onto_external x w = onto_static x.static_at (onto_spec x.spec (onto_declared x.declared w))

abbrev pub onto_externals : List AnExternal → List Placed → List Placed
onto_externals [] w = w
onto_externals (x ∷ xs) w = onto_external x (onto_externals xs w)

abbrev pub unit_tokens : AUnit → List Placed
unit_tokens u = onto_externals u.externals (record { kind = token.End; at = u.end } ∷ [])
