-- What holds of each token of a unit holds of each phrase's names, numbers and strings.
use Rattle.std.proofs.Common.{ℕ, List, [], ◌∷◌, Bool, true, false, Option, Some, None}
use Rattle.c_tokens.specs.declared.token.Token.{Token}
use Rattle.c_tokens.specs.declared.token.Token.TheVariants as token
use Rattle.c_phrases.specs.declared.operator.Spec.{Spec}
use Rattle.c_phrases.specs.declared.operator.Spec.TheVariants as specs
use Rattle.c_phrases.specs.declared.operator.Storage.{Storage}
use Rattle.c_phrases.specs.declared.operator.Storage.TheVariants as storages
use Rattle.c_phrases.specs.declared.tree.Named.{Named}
use Rattle.c_phrases.specs.declared.tree.TypeName.{TypeName}
use Rattle.c_phrases.specs.Classes.{Placed}
use Rattle.c_phrases.specs.Phrases.{AnExp, name, number, str, paren, call, index, step_after, step_before, prefix}
use Rattle.c_phrases.specs.Phrases.{sizeof_exp, sizeof_type, cast, binary, choice, assign, comma, SomeExps, no_exps}
use Rattle.c_phrases.specs.Phrases.{exps}
use Rattle.c_phrases.specs.Spelling.{onto_int, onto_spec, onto_stars, onto_type, onto_exp, onto_first, onto_others}
use Rattle.c_phrases.specs.Units.{ALength, AnInit, value, elements, AnInitialised, ADeclarator, AStatement, block}
use Rattle.c_phrases.specs.Units.{empty, expression, break_off, continue_on, give_back, if_then, if_else, while_loop}
use Rattle.c_phrases.specs.Units.{do_loop, for_loop, SomeItems, no_items, local_item, statement_item, AParam}
use Rattle.c_phrases.specs.Units.{SomeParams, no_params, void_word, params, ADeclared, function, globals, AnExternal}
use Rattle.c_phrases.specs.Units.{AUnit}
use Rattle.c_phrases.specs.UnitSpelling.{onto_part, onto_length, onto_trailing, onto_init, onto_initialised}
use Rattle.c_phrases.specs.UnitSpelling.{onto_declarator, onto_more_declarators, onto_declarators, onto_storage}
use Rattle.c_phrases.specs.UnitSpelling.{onto_statement, onto_items, onto_named, onto_param, onto_more_params}
use Rattle.c_phrases.specs.UnitSpelling.{onto_params, onto_body, onto_declared, onto_static, onto_externals}
use Rattle.c_phrases.specs.UnitSpelling.{unit_tokens}
use Rattle.c_typed_expressions.specs.Phrases.{init_in, brackets_in, params_in}
use Rattle.c_typed_words.specs.Words.{IsToken, EachIs, HasTokens}
use Rattle.c_typed_words.specs.Phrases.{ExpOf, ExpsOf, PartOf, BracketsOf, InitOf, DeclaratorOf, DeclaratorsOf, StatementOf, ItemsOf, NamedOf, ParamOf, ParamsOf, BodyOf, DeclaredOf, ExternalsOf}

module _ (T : Token → Type 0) where
  -- a phrase, and what follows it
  abbrev Both : Type 0 → List Placed → Type 0
  Both P w = P × EachIs T w

  int_rest : (i : Option ℕ) (w : List Placed) → EachIs T (onto_int i w) → EachIs T w
  int_rest None w h = h
  int_rest (Some at) w h = h.1

  spec_rest : (s : Spec) (w : List Placed) → EachIs T (onto_spec s w) → EachIs T w
  spec_rest (specs.Int at) w h = h.1
  spec_rest (specs.Char at) w h = h.1
  spec_rest (specs.Short at int) w h = int_rest int w h.1
  spec_rest (specs.UnsignedChar at char) w h = h.1.1
  spec_rest (specs.UnsignedShort at short int) w h = int_rest int w h.1.1
  spec_rest (specs.Void at) w h = h.1

  stars_rest : (ats : List ℕ) (w : List Placed) → EachIs T (onto_stars ats w) → EachIs T w
  stars_rest [] w h = h
  stars_rest (at ∷ ats) w h = stars_rest ats w h.1

  type_rest : (t : TypeName) (w : List Placed) → EachIs T (onto_type t w) → EachIs T w
  type_rest t w h = stars_rest t.stars w (spec_rest t.spec (onto_stars t.stars w) h)

  mutual
    exp_of : (e : AnExp) (w : List Placed) → EachIs T (onto_exp e w) → Both (ExpOf T e) w
    exp_of (name n at) w h = h
    exp_of (number v at) w h = h
    exp_of (str b at) w h = h
    exp_of (paren o e) w h = let x = exp_of e _ h.1 in (x.0, x.1.1)
    exp_of (call n at o es) w h = let x = firsts_of es _ h.1.1 in ((h.0, x.0), x.1.1)
    exp_of (index e o i) w h = let x = exp_of e _ h in let y = exp_of i _ x.1.1 in ((x.0, y.0), y.1.1)
    exp_of (step_after e op at) w h = let x = exp_of e _ h in (x.0, x.1.1)
    exp_of (step_before op at e) w h = exp_of e w h.1
    exp_of (prefix op at e) w h = exp_of e w h.1
    exp_of (sizeof_exp at e) w h = exp_of e w h.1
    exp_of (sizeof_type at o t) w h = let x = type_rest t _ h.1.1 in (tt, x.1)
    exp_of (cast o t e) w h = let x = type_rest t _ h.1 in exp_of e w x.1
    exp_of (binary l op at r) w h = let x = exp_of l _ h in let y = exp_of r w x.1.1 in ((x.0, y.0), y.1)
    exp_of (choice c at e d) w h =
        let x = exp_of c _ h in
        let y = exp_of e _ x.1.1 in
        let z = exp_of d w y.1.1 in
        ((x.0, y.0, z.0), z.1)
    exp_of (assign p op at v) w h = let x = exp_of p _ h in let y = exp_of v w x.1.1 in ((x.0, y.0), y.1)
    exp_of (comma l r) w h = let x = exp_of l _ h in let y = exp_of r w x.1.1 in ((x.0, y.0), y.1)

    firsts_of : (es : SomeExps) (w : List Placed) → EachIs T (onto_first es w) → Both (ExpsOf T es) w
    firsts_of no_exps w h = (tt, h)
    firsts_of (exps e es) w h = let x = exp_of e _ h in let y = others_of es w x.1 in ((x.0, y.0), y.1)

    others_of : (es : SomeExps) (w : List Placed) → EachIs T (onto_others es w) → Both (ExpsOf T es) w
    others_of no_exps w h = (tt, h)
    others_of (exps e es) w h = let x = exp_of e _ h.1 in let y = others_of es w x.1 in ((x.0, y.0), y.1)

  part_of : (e : Option AnExp) (w : List Placed) → EachIs T (onto_part e w) → Both (PartOf T e) w
  part_of None w h = (tt, h)
  part_of (Some e) w h = exp_of e w h

  length_of : (l : Option ALength) (w : List Placed) → EachIs T (onto_length l w) → Both (BracketsOf T (brackets_in l)) w
  length_of None w h = (tt, h)
  length_of (Some l) w h = let x = part_of l.value _ h.1 in (x.0, x.1.1)

  trailing_rest : (t : Bool) (w : List Placed) → EachIs T (onto_trailing t w) → EachIs T w
  trailing_rest true w h = h.1
  trailing_rest false w h = h

  init_of : (i : AnInit) (w : List Placed) → EachIs T (onto_init i w) → Both (InitOf T (Some i)) w
  init_of (value e) w h = exp_of e w h
  init_of (elements es t) w h = let x = firsts_of es _ h.1 in let y = trailing_rest t _ x.1 in (x.0, y.1)

  initialised_of : (i : Option AnInitialised) (w : List Placed) → EachIs T (onto_initialised i w) → Both (InitOf T (init_in i)) w
  initialised_of None w h = (tt, h)
  initialised_of (Some i) w h = init_of i.with_init w h.1

  declarator_of : (d : ADeclarator) (w : List Placed) → EachIs T (onto_declarator d w) → Both (DeclaratorOf T d) w
  declarator_of d w h =
      let n = stars_rest d.stars _ h in
      let l = length_of d.length _ n.1 in
      let i = initialised_of d.init w l.1 in
      ((n.0, l.0, i.0), i.1)

  more_declarators_of : (ds : List ADeclarator) (w : List Placed) → EachIs T (onto_more_declarators ds w) → Both (DeclaratorsOf T ds) w
  more_declarators_of [] w h = (tt, h)
  more_declarators_of (d ∷ ds) w h = let x = declarator_of d _ h.1 in let y = more_declarators_of ds w x.1 in ((x.0, y.0), y.1)

  declarators_of : (ds : List ADeclarator) (w : List Placed) → EachIs T (onto_declarators ds w) → Both (DeclaratorsOf T ds) w
  declarators_of [] w h = (tt, h)
  declarators_of (d ∷ ds) w h = let x = declarator_of d _ h in let y = more_declarators_of ds w x.1 in ((x.0, y.0), y.1)

  storage_rest : (s : Storage) (w : List Placed) → EachIs T (onto_storage s w) → EachIs T w
  storage_rest storages.Automatic w h = h
  storage_rest (storages.Static at) w h = h.1
  storage_rest (storages.Register at) w h = h.1

  mutual
    statement_of : (a : AStatement) (w : List Placed) → EachIs T (onto_statement a w) → Both (StatementOf T a) w
    statement_of (block is) w h = let x = items_of is _ h.1 in (x.0, x.1.1)
    statement_of empty w h = (tt, h.1)
    statement_of (expression e) w h = let x = exp_of e _ h in (x.0, x.1.1)
    statement_of (break_off at) w h = (tt, h.1.1)
    statement_of (continue_on at) w h = (tt, h.1.1)
    statement_of (give_back at e) w h = let x = part_of e _ h.1 in (x.0, x.1.1)
    statement_of (if_then at o e s) w h = let x = exp_of e _ h.1.1 in let y = statement_of s w x.1.1 in ((x.0, y.0), y.1)
    statement_of (if_else at o e s other t) w h =
        let x = exp_of e _ h.1.1 in
        let y = statement_of s _ x.1.1 in
        let z = statement_of t w y.1.1 in
        ((x.0, y.0, z.0), z.1)
    statement_of (while_loop at o e s) w h = let x = exp_of e _ h.1.1 in let y = statement_of s w x.1.1 in ((x.0, y.0), y.1)
    statement_of (do_loop at s again o e) w h =
        let x = statement_of s _ h.1 in
        let y = exp_of e _ x.1.1.1 in
        ((x.0, y.0), y.1.1.1)
    statement_of (for_loop at o a b c s) w h =
        let x = part_of a _ h.1.1 in
        let y = part_of b _ x.1.1 in
        let z = part_of c _ y.1.1 in
        let u = statement_of s w z.1.1 in
        ((x.0, y.0, z.0, u.0), u.1)

    items_of : (row : SomeItems) (w : List Placed) → EachIs T (onto_items row w) → Both (ItemsOf T row) w
    items_of no_items w h = (tt, h)
    items_of (local_item l is) w h =
        let x = declarators_of l.declarators _ (spec_rest l.spec _ (storage_rest l.storage _ h)) in
        let y = items_of is w x.1.1 in
        ((x.0, y.0), y.1)
    items_of (statement_item s is) w h = let x = statement_of s _ h in let y = items_of is w x.1 in ((x.0, y.0), y.1)

  named_of : (n : Option Named) (w : List Placed) → EachIs T (onto_named n w) → Both (NamedOf T n) w
  named_of None w h = (tt, h)
  named_of (Some n) w h = h

  param_of : (p : AParam) (w : List Placed) → EachIs T (onto_param p w) → Both (ParamOf T p) w
  param_of p w h =
      let n = named_of p.name _ (stars_rest p.stars _ (spec_rest p.spec _ h)) in
      let l = length_of p.length w n.1 in
      ((n.0, l.0), l.1)

  more_params_of : (ps : List AParam) (w : List Placed) → EachIs T (onto_more_params ps w) → Both (ParamsOf T ps) w
  more_params_of [] w h = (tt, h)
  more_params_of (p ∷ ps) w h = let x = param_of p _ h.1 in let y = more_params_of ps w x.1 in ((x.0, y.0), y.1)

  params_of : (ps : SomeParams) (w : List Placed) → EachIs T (onto_params ps w) → Both (ParamsOf T (params_in ps)) w
  params_of no_params w h = (tt, h)
  params_of (void_word at) w h = (tt, h.1)
  params_of (params []) w h = (tt, h)
  params_of (params (p ∷ ps)) w h = let x = param_of p _ h in let y = more_params_of ps w x.1 in ((x.0, y.0), y.1)

  body_of : (b : Option SomeItems) (w : List Placed) → EachIs T (onto_body b w) → Both (BodyOf T b) w
  body_of None w h = (tt, h.1)
  body_of (Some is) w h = let x = items_of is _ h.1 in (x.0, x.1.1)

  declared_of : (d : ADeclared) (w : List Placed) → EachIs T (onto_declared d w) → Both (DeclaredOf T d) w
  declared_of (function f) w h =
      let n = stars_rest f.stars _ h in
      let p = params_of f.params _ n.1.1 in
      let b = body_of f.body w p.1.1 in
      ((n.0, p.0, b.0), b.1)
  declared_of (globals ds) w h = let x = declarators_of ds _ h in (x.0, x.1.1)

  static_rest : (s : Option ℕ) (w : List Placed) → EachIs T (onto_static s w) → EachIs T w
  static_rest None w h = h
  static_rest (Some at) w h = h.1

  externals_of : (xs : List AnExternal) (w : List Placed) → EachIs T (onto_externals xs w) → Both (ExternalsOf T xs) w
  externals_of [] w h = (tt, h)
  externals_of (x ∷ xs) w h =
      let y = declared_of x.declared _ (spec_rest x.spec _ (static_rest x.static_at _ h)) in
      let z = externals_of xs w y.1 in
      ((y.0, z.0), z.1)

  pub unit_of : (u : AUnit) → EachIs T (unit_tokens u) → ExternalsOf T u.externals
  unit_of u h = (externals_of u.externals _ h).0

pub tokens_of : (u : AUnit) → HasTokens u → ExternalsOf IsToken u.externals
tokens_of u h = unit_of IsToken u h.each
