-- The tokens of a phrase with their levels are its tokens.
use Rattle.std.proofs.Common.{◌≡◌, ℕ, ◌+◌, List, [], ◌∷◌, refl, ap, ◌∙◌}
use Rattle.std.specs.Prelude.{Option, Some, None, Bool, true, false}
use Rattle.c_tokens.specs.declared.words.Key.TheVariants as keys
use Rattle.c_tokens.specs.declared.marks.Mark.TheVariants as marks
use Rattle.c_phrases.specs.declared.operator.Spec.{Spec}
use Rattle.c_phrases.specs.declared.operator.Spec.TheVariants as specs
use Rattle.c_phrases.specs.declared.operator.Storage.{Storage}
use Rattle.c_phrases.specs.declared.operator.Storage.TheVariants as storages
use Rattle.c_phrases.specs.declared.tree.TypeName.{TypeName}
use Rattle.c_phrases.specs.declared.tree.Named.{Named}
use Rattle.c_phrases.specs.Classes.{Placed, word, sign}
use Rattle.c_phrases.specs.Phrases.{AnExp, name, number, str, paren, call, index, step_after, step_before, prefix}
use Rattle.c_phrases.specs.Phrases.{sizeof_exp, sizeof_type, cast, binary, choice, assign, comma, SomeExps, no_exps}
use Rattle.c_phrases.specs.Phrases.{exps, after_exp}
use Rattle.c_phrases.specs.Operators.{binary_mark, prefix_mark, step_mark, assign_mark}
use Rattle.c_phrases.specs.Spelling.{onto_int, onto_spec, onto_stars, onto_type, onto_name, onto_exp, onto_first}
use Rattle.c_phrases.specs.Spelling.{onto_others}
use Rattle.c_phrases.specs.Units.{ALength, AnInit, value, elements, AnInitialised, ADeclarator, ALocal, AStatement}
use Rattle.c_phrases.specs.Units.{block, empty, expression, break_off, continue_on, give_back, if_then, if_else}
use Rattle.c_phrases.specs.Units.{while_loop, do_loop, for_loop, SomeItems, no_items, local_item, statement_item}
use Rattle.c_phrases.specs.Units.{AParam, SomeParams, no_params, void_word, params, ADeclared, function, globals}
use Rattle.c_phrases.specs.Units.{AnExternal, AUnit}
use Rattle.c_phrases.specs.UnitSpelling.{unit_tokens, onto_part, onto_length, onto_trailing, onto_init}
use Rattle.c_phrases.specs.UnitSpelling.{onto_initialised, onto_declarator, onto_more_declarators, onto_declarators}
use Rattle.c_phrases.specs.UnitSpelling.{onto_storage, onto_local, onto_condition, onto_statement, onto_items}
use Rattle.c_phrases.specs.UnitSpelling.{onto_named, onto_param, onto_more_params, onto_params, onto_body}
use Rattle.c_phrases.specs.UnitSpelling.{onto_declared, onto_static, onto_external, onto_externals}
use Rattle.c_syntax_goals.specs.Openings.{Opening, plain, levelled_int, levelled_spec, levelled_stars, levelled_type}
use Rattle.c_syntax_goals.specs.Openings.{levelled_exp, levelled_first, levelled_others, levelled_part}
use Rattle.c_syntax_goals.specs.UnitOpenings.{tokens_of, levelled, levelled_named, levelled_param}
use Rattle.c_syntax_goals.specs.UnitOpenings.{levelled_more_params, levelled_params, levelled_body, levelled_declared}
use Rattle.c_syntax_goals.specs.UnitOpenings.{levelled_static, levelled_external, levelled_externals}
use Rattle.c_syntax_goals.specs.StatementOpenings.{levelled_length, levelled_trailing, levelled_init}
use Rattle.c_syntax_goals.specs.StatementOpenings.{levelled_initialised, levelled_declarator}
use Rattle.c_syntax_goals.specs.StatementOpenings.{levelled_more_declarators, levelled_declarators, levelled_storage}
use Rattle.c_syntax_goals.specs.StatementOpenings.{levelled_local, levelled_condition, levelled_statement}
use Rattle.c_syntax_goals.specs.StatementOpenings.{levelled_items}

abbrev cons : Placed → List Placed → List Placed
cons t w = t ∷ w

forget_int : (i : Option ℕ) (w : List Opening) → tokens_of (levelled_int i w) ≡ onto_int i (tokens_of w)
forget_int None w = refl
forget_int (Some at) w = refl

forget_spec : (s : Spec) (w : List Opening) → tokens_of (levelled_spec s w) ≡ onto_spec s (tokens_of w)
forget_spec (specs.Int at) w = refl
forget_spec (specs.Char at) w = refl
forget_spec (specs.Short at i) w = ap (cons (word keys.Short at)) (forget_int i w)
forget_spec (specs.UnsignedChar at char) w = refl
forget_spec (specs.UnsignedShort at short i) w = ap (λ (x : List Placed). word keys.Unsigned at ∷ word keys.Short short ∷ x) (forget_int i w)
forget_spec (specs.Void at) w = refl

forget_stars : (ats : List ℕ) (w : List Opening) → tokens_of (levelled_stars ats w) ≡ onto_stars ats (tokens_of w)
forget_stars [] w = refl
forget_stars (at ∷ ats) w = ap (cons (sign marks.Star at)) (forget_stars ats w)

forget_type : (t : TypeName) (w : List Opening) → tokens_of (levelled_type t w) ≡ onto_type t (tokens_of w)
forget_type t w = forget_spec t.spec (levelled_stars t.stars w) ∙ ap (onto_spec t.spec) (forget_stars t.stars w)

abbrev close : Placed
close = sign marks.CloseParenthesis 0

mutual
  forget_exp : (e : AnExp) (n : ℕ) (w : List Opening) → tokens_of (levelled_exp e n w) ≡ onto_exp e (tokens_of w)
  forget_exp (name x at) n w = refl
  forget_exp (number v at) n w = refl
  forget_exp (str b at) n w = refl
  forget_exp (paren o e) n w = ap (cons (sign marks.OpenParenthesis o)) (forget_exp e (n + 1) (plain close ∷ w))
  forget_exp (call x at o es) n w = ap (λ (v : List Placed). onto_name x at (sign marks.OpenParenthesis o ∷ v)) (forget_first es (n + 2) (plain close ∷ w))
  forget_exp (index e o i) n w = forget_exp e n _ ∙ ap (λ (v : List Placed). onto_exp e (sign marks.OpenBracket o ∷ v)) (forget_exp i (after_exp e n + 2) (plain (sign marks.CloseBracket 0) ∷ w))
  forget_exp (step_after e op at) n w = forget_exp e n _
  forget_exp (step_before op at e) n w = ap (cons (sign (step_mark op) at)) (forget_exp e (n + 1) w)
  forget_exp (prefix op at e) n w = ap (cons (sign (prefix_mark op) at)) (forget_exp e (n + 1) w)
  forget_exp (sizeof_exp at e) n w = ap (cons (word keys.Sizeof at)) (forget_exp e (n + 1) w)
  forget_exp (sizeof_type at o t) n w = ap (λ (v : List Placed). word keys.Sizeof at ∷ sign marks.OpenParenthesis o ∷ v) (forget_type t (plain close ∷ w))
  forget_exp (cast o t e) n w = ap (cons (sign marks.OpenParenthesis o)) (forget_type t _ ∙ ap (λ (v : List Placed). onto_type t (close ∷ v)) (forget_exp e (n + 1) w))
  forget_exp (binary l op at r) n w = forget_exp l n _ ∙ ap (λ (v : List Placed). onto_exp l (sign (binary_mark op) at ∷ v)) (forget_exp r (after_exp l n + 1) w)
  forget_exp (choice d at e f) n w = forget_exp d n _ ∙ ap (λ (v : List Placed). onto_exp d (sign marks.Question at ∷ v))
      (forget_exp e (after_exp d n + 1) _ ∙ ap (λ (v : List Placed). onto_exp e (sign marks.Colon 0 ∷ v)) (forget_exp f (after_exp e (after_exp d n + 1)) w))
  forget_exp (assign p op at v) n w = forget_exp p n _ ∙ ap (λ (x : List Placed). onto_exp p (sign (assign_mark op) at ∷ x)) (forget_exp v (after_exp p n + 1) w)
  forget_exp (comma l r) n w = forget_exp l n _ ∙ ap (λ (v : List Placed). onto_exp l (sign marks.Comma 0 ∷ v)) (forget_exp r (after_exp l n + 1) w)

  forget_first : (es : SomeExps) (n : ℕ) (w : List Opening) → tokens_of (levelled_first es n w) ≡ onto_first es (tokens_of w)
  forget_first no_exps n w = refl
  forget_first (exps e es) n w = forget_exp e n _ ∙ ap (onto_exp e) (forget_others es n w)

  forget_others : (es : SomeExps) (n : ℕ) (w : List Opening) → tokens_of (levelled_others es n w) ≡ onto_others es (tokens_of w)
  forget_others no_exps n w = refl
  forget_others (exps e es) n w = ap (cons (sign marks.Comma 0)) (forget_exp e n _ ∙ ap (onto_exp e) (forget_others es n w))

forget_part : (e : Option AnExp) (n : ℕ) (w : List Opening) → tokens_of (levelled_part e n w) ≡ onto_part e (tokens_of w)
forget_part None n w = refl
forget_part (Some e) n w = forget_exp e n w

forget_length : (l : Option ALength) (n : ℕ) (w : List Opening) → tokens_of (levelled_length l n w) ≡ onto_length l (tokens_of w)
forget_length None n w = refl
forget_length (Some l) n w = ap (cons (sign marks.OpenBracket l.opened)) (forget_part l.value (n + 1) (plain (sign marks.CloseBracket 0) ∷ w))

forget_trailing : (t : Bool) (w : List Opening) → tokens_of (levelled_trailing t w) ≡ onto_trailing t (tokens_of w)
forget_trailing true w = refl
forget_trailing false w = refl

forget_init : (i : AnInit) (n : ℕ) (w : List Opening) → tokens_of (levelled_init i n w) ≡ onto_init i (tokens_of w)
forget_init (value e) n w = forget_exp e n w
forget_init (elements es t) n w = ap (cons (sign marks.OpenBrace 0)) (forget_first es (n + 1) _ ∙ ap (onto_first es) (forget_trailing t (plain (sign marks.CloseBrace 0) ∷ w)))

forget_initialised : (i : Option AnInitialised) (n : ℕ) (w : List Opening) → tokens_of (levelled_initialised i n w) ≡ onto_initialised i (tokens_of w)
forget_initialised None n w = refl
forget_initialised (Some i) n w = ap (cons (sign marks.Assign i.at)) (forget_init i.with_init n w)

forget_declarator : (d : ADeclarator) (n : ℕ) (w : List Opening) → tokens_of (levelled_declarator d n w) ≡ onto_declarator d (tokens_of w)
forget_declarator d n w = forget_stars d.stars _ ∙ ap (λ (v : List Placed). onto_stars d.stars (onto_name d.name d.at v))
    (forget_length d.length n _ ∙ ap (onto_length d.length) (forget_initialised d.init n w))

forget_more_declarators : (ds : List ADeclarator) (n : ℕ) (w : List Opening) → tokens_of (levelled_more_declarators ds n w) ≡ onto_more_declarators ds (tokens_of w)
forget_more_declarators [] n w = refl
forget_more_declarators (d ∷ ds) n w = ap (cons (sign marks.Comma 0)) (forget_declarator d n _ ∙ ap (onto_declarator d) (forget_more_declarators ds n w))

forget_declarators : (ds : List ADeclarator) (n : ℕ) (w : List Opening) → tokens_of (levelled_declarators ds n w) ≡ onto_declarators ds (tokens_of w)
forget_declarators [] n w = refl
forget_declarators (d ∷ ds) n w = forget_declarator d n _ ∙ ap (onto_declarator d) (forget_more_declarators ds n w)

forget_storage : (s : Storage) (w : List Opening) → tokens_of (levelled_storage s w) ≡ onto_storage s (tokens_of w)
forget_storage storages.Automatic w = refl
forget_storage (storages.Static at) w = refl
forget_storage (storages.Register at) w = refl

forget_local : (l : ALocal) (n : ℕ) (w : List Opening) → tokens_of (levelled_local l n w) ≡ onto_local l (tokens_of w)
forget_local l n w = forget_storage l.storage _ ∙ ap (onto_storage l.storage) (forget_spec l.spec _ ∙ ap (onto_spec l.spec) (forget_declarators l.declarators n _))

forget_condition : (o : ℕ) (e : AnExp) (n : ℕ) (w : List Opening) → tokens_of (levelled_condition o e n w) ≡ onto_condition o e (tokens_of w)
forget_condition o e n w = ap (cons (sign marks.OpenParenthesis o)) (forget_exp e (n + 1) (plain close ∷ w))

mutual
  forget_statement : (s : AStatement) (n : ℕ) (w : List Opening) → tokens_of (levelled_statement s n w) ≡ onto_statement s (tokens_of w)
  forget_statement (block is) n w = ap (cons (sign marks.OpenBrace 0)) (forget_items is (n + 1) _)
  forget_statement empty n w = refl
  forget_statement (expression e) n w = forget_exp e n _
  forget_statement (break_off at) n w = refl
  forget_statement (continue_on at) n w = refl
  forget_statement (give_back at e) n w = ap (cons (word keys.Return at)) (forget_part e n _)
  forget_statement (if_then at o e s) n w = ap (cons (word keys.If at)) (forget_condition o e (n + 1) _ ∙ ap (onto_condition o e) (forget_statement s (n + 1) w))
  forget_statement (if_else at o e s other t) n w = ap (cons (word keys.If at))
      (forget_condition o e (n + 1) _ ∙ ap (onto_condition o e) (forget_statement s (n + 1) _ ∙ ap (λ (v : List Placed). onto_statement s (word keys.Else other ∷ v)) (forget_statement t (n + 1) w)))
  forget_statement (while_loop at o e s) n w = ap (cons (word keys.While at)) (forget_condition o e (n + 1) _ ∙ ap (onto_condition o e) (forget_statement s (n + 1) w))
  forget_statement (do_loop at s again o e) n w = ap (cons (word keys.Do at))
      (forget_statement s (n + 1) _ ∙ ap (λ (v : List Placed). onto_statement s (word keys.While again ∷ v)) (forget_condition o e (n + 1) _))
  forget_statement (for_loop at o a b d s) n w = ap (λ (v : List Placed). word keys.For at ∷ sign marks.OpenParenthesis o ∷ v)
      (forget_part a (n + 1 + 1) _ ∙ ap (λ (v : List Placed). onto_part a (sign marks.Semicolon 0 ∷ v))
      (forget_part b (n + 1 + 1) _ ∙ ap (λ (v : List Placed). onto_part b (sign marks.Semicolon 0 ∷ v))
      (forget_part d (n + 1 + 1) _ ∙ ap (λ (v : List Placed). onto_part d (close ∷ v)) (forget_statement s (n + 1) w))))

  forget_items : (is : SomeItems) (n : ℕ) (w : List Opening) → tokens_of (levelled_items is n w) ≡ onto_items is (tokens_of w)
  forget_items no_items n w = refl
  forget_items (local_item l is) n w = forget_local l n _ ∙ ap (onto_local l) (forget_items is n w)
  forget_items (statement_item s is) n w = forget_statement s n _ ∙ ap (onto_statement s) (forget_items is n w)

forget_named : (m : Option Named) (w : List Opening) → tokens_of (levelled_named m w) ≡ onto_named m (tokens_of w)
forget_named None w = refl
forget_named (Some m) w = refl

forget_param : (p : AParam) (n : ℕ) (w : List Opening) → tokens_of (levelled_param p n w) ≡ onto_param p (tokens_of w)
forget_param p n w = forget_spec p.spec _ ∙ ap (onto_spec p.spec) (forget_stars p.stars _ ∙ ap (onto_stars p.stars) (forget_named p.name _ ∙ ap (onto_named p.name) (forget_length p.length n w)))

forget_more_params : (ps : List AParam) (n : ℕ) (w : List Opening) → tokens_of (levelled_more_params ps n w) ≡ onto_more_params ps (tokens_of w)
forget_more_params [] n w = refl
forget_more_params (p ∷ ps) n w = ap (cons (sign marks.Comma 0)) (forget_param p n _ ∙ ap (onto_param p) (forget_more_params ps n w))

forget_params : (ps : SomeParams) (n : ℕ) (w : List Opening) → tokens_of (levelled_params ps n w) ≡ onto_params ps (tokens_of w)
forget_params no_params n w = refl
forget_params (void_word at) n w = refl
forget_params (params []) n w = refl
forget_params (params (p ∷ ps)) n w = forget_param p n _ ∙ ap (onto_param p) (forget_more_params ps n w)

forget_body : (b : Option SomeItems) (n : ℕ) (w : List Opening) → tokens_of (levelled_body b n w) ≡ onto_body b (tokens_of w)
forget_body None n w = refl
forget_body (Some is) n w = ap (cons (sign marks.OpenBrace 0)) (forget_items is (n + 1) _)

forget_declared : (d : ADeclared) (n : ℕ) (w : List Opening) → tokens_of (levelled_declared d n w) ≡ onto_declared d (tokens_of w)
forget_declared (function f) n w = forget_stars f.stars _ ∙ ap (λ (v : List Placed). onto_stars f.stars (onto_name f.name f.at (sign marks.OpenParenthesis f.opened ∷ v)))
    (forget_params f.params (n + 1) _ ∙ ap (λ (v : List Placed). onto_params f.params (close ∷ v)) (forget_body f.body n w))
forget_declared (globals ds) n w = forget_declarators ds n _

forget_static : (s : Option ℕ) (w : List Opening) → tokens_of (levelled_static s w) ≡ onto_static s (tokens_of w)
forget_static None w = refl
forget_static (Some at) w = refl

forget_external : (x : AnExternal) (n : ℕ) (w : List Opening) → tokens_of (levelled_external x n w) ≡ onto_external x (tokens_of w)
forget_external x n w = forget_static x.static_at _ ∙ ap (onto_static x.static_at) (forget_spec x.spec _ ∙ ap (onto_spec x.spec) (forget_declared x.declared n w))

forget_externals : (xs : List AnExternal) (n : ℕ) (w : List Opening) → tokens_of (levelled_externals xs n w) ≡ onto_externals xs (tokens_of w)
forget_externals [] n w = refl
forget_externals (x ∷ xs) n w = forget_external x n _ ∙ ap (onto_external x) (forget_externals xs n w)

-- the tokens of a unit with their levels are its tokens
pub forget : (u : AUnit) → tokens_of (levelled u) ≡ unit_tokens u
forget u = forget_externals u.externals 0 _
