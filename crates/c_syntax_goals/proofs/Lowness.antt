-- No level past the limit is opened by a unit's tokens exactly where none is opened by its phrases.
use Rattle.std.proofs.Common.{ℕ, ◌+◌, List, [], ◌∷◌, refl}
use Rattle.std.specs.Prelude.{◌↔◌, Option, Some, None, Bool, true, false}
use Rattle.c_phrases.specs.declared.operator.Spec.{Spec}
use Rattle.c_phrases.specs.declared.operator.Spec.TheVariants as specs
use Rattle.c_phrases.specs.declared.operator.Storage.{Storage}
use Rattle.c_phrases.specs.declared.operator.Storage.TheVariants as storages
use Rattle.c_phrases.specs.declared.tree.TypeName.{TypeName}
use Rattle.c_phrases.specs.declared.tree.Named.{Named}
use Rattle.c_phrases.specs.Phrases.{AnExp, name, number, str, paren, call, index, step_after, step_before, prefix}
use Rattle.c_phrases.specs.Phrases.{sizeof_exp, sizeof_type, cast, binary, choice, assign, comma, SomeExps, no_exps}
use Rattle.c_phrases.specs.Phrases.{exps, after_exp}
use Rattle.c_phrases.specs.Units.{ALength, AnInit, value, elements, AnInitialised, ADeclarator, ALocal, AStatement}
use Rattle.c_phrases.specs.Units.{block, empty, expression, break_off, continue_on, give_back, if_then, if_else}
use Rattle.c_phrases.specs.Units.{while_loop, do_loop, for_loop, SomeItems, no_items, local_item, statement_item}
use Rattle.c_phrases.specs.Units.{AParam, SomeParams, no_params, void_word, params, ADeclared, function, globals}
use Rattle.c_phrases.specs.Units.{AnExternal, AUnit}
use Rattle.c_syntax_goals.specs.Openings.{Opening, levelled_int, levelled_spec, levelled_stars, levelled_type}
use Rattle.c_syntax_goals.specs.Openings.{levelled_exp, levelled_first, levelled_others, levelled_part}
use Rattle.c_syntax_goals.specs.UnitOpenings.{levelled, levelled_named, levelled_param, levelled_more_params}
use Rattle.c_syntax_goals.specs.UnitOpenings.{levelled_params, levelled_body, levelled_declared, levelled_static}
use Rattle.c_syntax_goals.specs.UnitOpenings.{levelled_externals}
use Rattle.c_syntax_goals.specs.StatementOpenings.{levelled_length, levelled_trailing, levelled_init}
use Rattle.c_syntax_goals.specs.StatementOpenings.{levelled_initialised, levelled_declarator}
use Rattle.c_syntax_goals.specs.StatementOpenings.{levelled_more_declarators, levelled_declarators, levelled_storage}
use Rattle.c_syntax_goals.specs.StatementOpenings.{levelled_local, levelled_condition, levelled_statement}
use Rattle.c_syntax_goals.specs.StatementOpenings.{levelled_items}
use Rattle.c_phrases.specs.Levels.{LowExp, LowExps, limit}
use Rattle.c_phrases.specs.UnitLevels.{LowPart, LowLength, LowInit, LowInitialised, LowDeclarator, LowDeclarators}
use Rattle.c_phrases.specs.UnitLevels.{LowCondition, LowStatement, LowItems, LowParams, LowSomeParams, LowBody}
use Rattle.c_phrases.specs.UnitLevels.{LowDeclared, LowExternals}
use Rattle.c_syntax_goals.specs.Refusals.{NoneDeep}

-- from the phrases to the tokens
low_int : (i : Option ℕ) (w : List Opening) → NoneDeep w → NoneDeep (levelled_int i w)
low_int None w h = h
low_int (Some at) w h = (refl, h)

low_spec : (s : Spec) (w : List Opening) → NoneDeep w → NoneDeep (levelled_spec s w)
low_spec (specs.Int at) w h = (refl, h)
low_spec (specs.Char at) w h = (refl, h)
low_spec (specs.Short at i) w h = (refl, low_int i w h)
low_spec (specs.UnsignedChar at char) w h = (refl, (refl, h))
low_spec (specs.UnsignedShort at short i) w h = (refl, (refl, low_int i w h))
low_spec (specs.Void at) w h = (refl, h)

low_stars : (ats : List ℕ) (w : List Opening) → NoneDeep w → NoneDeep (levelled_stars ats w)
low_stars [] w h = h
low_stars (at ∷ ats) w h = (refl, low_stars ats w h)

low_type : (t : TypeName) (w : List Opening) → NoneDeep w → NoneDeep (levelled_type t w)
low_type t w h = low_spec t.spec _ (low_stars t.stars w h)

mutual
  low_exp : (e : AnExp) (n : ℕ) (w : List Opening) → LowExp limit e n → NoneDeep w → NoneDeep (levelled_exp e n w)
  low_exp (name x at) n w k h = (refl, h)
  low_exp (number v at) n w k h = (refl, h)
  low_exp (str b at) n w k h = (refl, h)
  low_exp (paren o e) n w k h = (k.0, low_exp e (n + 1) _ k.1 (refl, h))
  low_exp (call x at o es) n w k h = (refl, (k.0, low_first es (n + 2) _ k.1 (refl, h)))
  low_exp (index e o i) n w k h = low_exp e n _ k.0 (k.1.0, low_exp i (after_exp e n + 2) _ k.1.1 (refl, h))
  low_exp (step_after e op at) n w k h = low_exp e n _ k.0 (k.1, h)
  low_exp (step_before op at e) n w k h = (k.0, low_exp e (n + 1) w k.1 h)
  low_exp (prefix op at e) n w k h = (k.0, low_exp e (n + 1) w k.1 h)
  low_exp (sizeof_exp at e) n w k h = (k.0, low_exp e (n + 1) w k.1 h)
  low_exp (sizeof_type at o t) n w k h = (k.0, (k.1, low_type t _ (refl, h)))
  low_exp (cast o t e) n w k h = (k.0, low_type t _ (refl, low_exp e (n + 1) w k.1 h))
  low_exp (binary l op at r) n w k h = low_exp l n _ k.0 (k.1.0, low_exp r (after_exp l n + 1) w k.1.1 h)
  low_exp (choice d at e f) n w k h = low_exp d n _ k.0 (k.1.0, low_exp e (after_exp d n + 1) _ k.1.1.0 (refl, low_exp f (after_exp e (after_exp d n + 1)) w k.1.1.1 h))
  low_exp (assign p op at v) n w k h = low_exp p n _ k.0 (k.1.0, low_exp v (after_exp p n + 1) w k.1.1 h)
  low_exp (comma l r) n w k h = low_exp l n _ k.0 (k.1.0, low_exp r (after_exp l n + 1) w k.1.1 h)

  low_first : (es : SomeExps) (n : ℕ) (w : List Opening) → LowExps limit es n → NoneDeep w → NoneDeep (levelled_first es n w)
  low_first no_exps n w k h = h
  low_first (exps e es) n w k h = low_exp e n _ k.0 (low_others es n w k.1 h)

  low_others : (es : SomeExps) (n : ℕ) (w : List Opening) → LowExps limit es n → NoneDeep w → NoneDeep (levelled_others es n w)
  low_others no_exps n w k h = h
  low_others (exps e es) n w k h = (refl, low_exp e n _ k.0 (low_others es n w k.1 h))

low_part : (e : Option AnExp) (n : ℕ) (w : List Opening) → LowPart limit e n → NoneDeep w → NoneDeep (levelled_part e n w)
low_part None n w k h = h
low_part (Some e) n w k h = low_exp e n w k h

low_length : (l : Option ALength) (n : ℕ) (w : List Opening) → LowLength limit l n → NoneDeep w → NoneDeep (levelled_length l n w)
low_length None n w k h = h
low_length (Some l) n w k h = (k.0, low_part l.value (n + 1) _ k.1 (refl, h))

low_trailing : (t : Bool) (w : List Opening) → NoneDeep w → NoneDeep (levelled_trailing t w)
low_trailing true w h = (refl, h)
low_trailing false w h = h

low_init : (i : AnInit) (n : ℕ) (w : List Opening) → LowInit limit i n → NoneDeep w → NoneDeep (levelled_init i n w)
low_init (value e) n w k h = low_exp e n w k h
low_init (elements es t) n w k h = (k.0, low_first es (n + 1) _ k.1 (low_trailing t _ (refl, h)))

low_initialised : (i : Option AnInitialised) (n : ℕ) (w : List Opening) → LowInitialised limit i n → NoneDeep w → NoneDeep (levelled_initialised i n w)
low_initialised None n w k h = h
low_initialised (Some i) n w k h = (refl, low_init i.with_init n w k h)

low_declarator : (d : ADeclarator) (n : ℕ) (w : List Opening) → LowDeclarator limit d n → NoneDeep w → NoneDeep (levelled_declarator d n w)
low_declarator d n w k h = low_stars d.stars _ (refl, low_length d.length n _ k.0 (low_initialised d.init n w k.1 h))

low_more_declarators : (ds : List ADeclarator) (n : ℕ) (w : List Opening) → LowDeclarators limit ds n → NoneDeep w → NoneDeep (levelled_more_declarators ds n w)
low_more_declarators [] n w k h = h
low_more_declarators (d ∷ ds) n w k h = (refl, low_declarator d n _ k.0 (low_more_declarators ds n w k.1 h))

low_declarators : (ds : List ADeclarator) (n : ℕ) (w : List Opening) → LowDeclarators limit ds n → NoneDeep w → NoneDeep (levelled_declarators ds n w)
low_declarators [] n w k h = h
low_declarators (d ∷ ds) n w k h = low_declarator d n _ k.0 (low_more_declarators ds n w k.1 h)

low_storage : (s : Storage) (w : List Opening) → NoneDeep w → NoneDeep (levelled_storage s w)
low_storage storages.Automatic w h = h
low_storage (storages.Static at) w h = (refl, h)
low_storage (storages.Register at) w h = (refl, h)

low_local : (l : ALocal) (n : ℕ) (w : List Opening) → LowDeclarators limit l.declarators n → NoneDeep w → NoneDeep (levelled_local l n w)
low_local l n w k h = low_storage l.storage _ (low_spec l.spec _ (low_declarators l.declarators n _ k (refl, h)))

low_condition : (o : ℕ) (e : AnExp) (n : ℕ) (w : List Opening) → LowCondition limit e n → NoneDeep w → NoneDeep (levelled_condition o e n w)
low_condition o e n w k h = (k.0, low_exp e (n + 1) _ k.1 (refl, h))

mutual
  low_statement : (s : AStatement) (n : ℕ) (w : List Opening) → LowStatement limit s n → NoneDeep w → NoneDeep (levelled_statement s n w)
  low_statement (block is) n w k h = (k.0, low_items is (n + 1) _ k.1 (refl, h))
  low_statement empty n w k h = (refl, h)
  low_statement (expression e) n w k h = low_exp e n _ k (refl, h)
  low_statement (break_off at) n w k h = (refl, (refl, h))
  low_statement (continue_on at) n w k h = (refl, (refl, h))
  low_statement (give_back at e) n w k h = (refl, low_part e n _ k (refl, h))
  low_statement (if_then at o e s) n w k h = (k.0, low_condition o e (n + 1) _ k.1.0 (low_statement s (n + 1) w k.1.1 h))
  low_statement (if_else at o e s other t) n w k h = (k.0, low_condition o e (n + 1) _ k.1.0 (low_statement s (n + 1) _ k.1.1.0 (refl, low_statement t (n + 1) w k.1.1.1 h)))
  low_statement (while_loop at o e s) n w k h = (k.0, low_condition o e (n + 1) _ k.1.0 (low_statement s (n + 1) w k.1.1 h))
  low_statement (do_loop at s again o e) n w k h = (k.0, low_statement s (n + 1) _ k.1.0 (refl, low_condition o e (n + 1) _ k.1.1 (refl, h)))
  low_statement (for_loop at o a b d s) n w k h = (
    k.0,
    (
      k.1.0,
      low_part a (n + 1 + 1) _ k.1.1.0
          (refl, low_part b (n + 1 + 1) _ k.1.1.1.0 (refl, low_part d (n + 1 + 1) _ k.1.1.1.1.0 (refl, low_statement s (n + 1) w k.1.1.1.1.1 h))),
    ),
  )

  low_items : (is : SomeItems) (n : ℕ) (w : List Opening) → LowItems limit is n → NoneDeep w → NoneDeep (levelled_items is n w)
  low_items no_items n w k h = h
  low_items (local_item l is) n w k h = low_local l n _ k.0 (low_items is n w k.1 h)
  low_items (statement_item s is) n w k h = low_statement s n _ k.0 (low_items is n w k.1 h)

low_named : (m : Option Named) (w : List Opening) → NoneDeep w → NoneDeep (levelled_named m w)
low_named None w h = h
low_named (Some m) w h = (refl, h)

low_param : (p : AParam) (n : ℕ) (w : List Opening) → LowLength limit p.length n → NoneDeep w → NoneDeep (levelled_param p n w)
low_param p n w k h = low_spec p.spec _ (low_stars p.stars _ (low_named p.name _ (low_length p.length n w k h)))

low_more_params : (ps : List AParam) (n : ℕ) (w : List Opening) → LowParams limit ps n → NoneDeep w → NoneDeep (levelled_more_params ps n w)
low_more_params [] n w k h = h
low_more_params (p ∷ ps) n w k h = (refl, low_param p n _ k.0 (low_more_params ps n w k.1 h))

low_params : (ps : SomeParams) (n : ℕ) (w : List Opening) → LowSomeParams limit ps n → NoneDeep w → NoneDeep (levelled_params ps n w)
low_params no_params n w k h = h
low_params (void_word at) n w k h = (refl, h)
low_params (params []) n w k h = h
low_params (params (p ∷ ps)) n w k h = low_param p n _ k.0 (low_more_params ps n w k.1 h)

low_body : (b : Option SomeItems) (w : List Opening) → LowBody limit b → NoneDeep w → NoneDeep (levelled_body b 0 w)
low_body None w k h = (refl, h)
low_body (Some is) w k h = (k.0, low_items is 1 _ k.1 (refl, h))

low_declared : (d : ADeclared) (w : List Opening) → LowDeclared limit d → NoneDeep w → NoneDeep (levelled_declared d 0 w)
low_declared (function f) w k h = low_stars f.stars _ (refl, (k.0, low_params f.params 1 _ k.1.0 (refl, low_body f.body w k.1.1 h)))
low_declared (globals ds) w k h = low_declarators ds 0 _ k (refl, h)

low_static : (s : Option ℕ) (w : List Opening) → NoneDeep w → NoneDeep (levelled_static s w)
low_static None w h = h
low_static (Some at) w h = (refl, h)

low_externals : (xs : List AnExternal) (w : List Opening) → LowExternals limit xs → NoneDeep w → NoneDeep (levelled_externals xs 0 w)
low_externals [] w k h = h
low_externals (x ∷ xs) w k h = low_static x.static_at _ (low_spec x.spec _ (low_declared x.declared _ k.0 (low_externals xs w k.1 h)))

pub phrases_low : (u : AUnit) → LowExternals limit u.externals → NoneDeep (levelled u)
phrases_low u k = low_externals u.externals _ k (refl, tt)

-- from the tokens to the phrases
back_int : (i : Option ℕ) (w : List Opening) → NoneDeep (levelled_int i w) → NoneDeep w
back_int None w h = h
back_int (Some at) w h = h.1

back_spec : (s : Spec) (w : List Opening) → NoneDeep (levelled_spec s w) → NoneDeep w
back_spec (specs.Int at) w h = h.1
back_spec (specs.Char at) w h = h.1
back_spec (specs.Short at i) w h = back_int i w h.1
back_spec (specs.UnsignedChar at char) w h = h.1.1
back_spec (specs.UnsignedShort at short i) w h = back_int i w h.1.1
back_spec (specs.Void at) w h = h.1

back_stars : (ats : List ℕ) (w : List Opening) → NoneDeep (levelled_stars ats w) → NoneDeep w
back_stars [] w h = h
back_stars (at ∷ ats) w h = back_stars ats w h.1

back_type : (t : TypeName) (w : List Opening) → NoneDeep (levelled_type t w) → NoneDeep w
back_type t w h = back_stars t.stars w (back_spec t.spec _ h)

mutual
  back_exp : (e : AnExp) (n : ℕ) (w : List Opening) → NoneDeep (levelled_exp e n w) → LowExp limit e n × NoneDeep w
  back_exp (name x at) n w h = (tt, h.1)
  back_exp (number v at) n w h = (tt, h.1)
  back_exp (str b at) n w h = (tt, h.1)
  back_exp (paren o e) n w h = let r = back_exp e (n + 1) _ h.1 in ((h.0, r.0), r.1.1)
  back_exp (call x at o es) n w h = let r = back_first es (n + 2) _ h.1.1 in ((h.1.0, r.0), r.1.1)
  back_exp (index e o i) n w h =
      let a = back_exp e n _ h in
      let r = back_exp i (after_exp e n + 2) _ a.1.1 in
      ((a.0, (a.1.0, r.0)), r.1.1)
  back_exp (step_after e op at) n w h = let a = back_exp e n _ h in ((a.0, a.1.0), a.1.1)
  back_exp (step_before op at e) n w h = let r = back_exp e (n + 1) w h.1 in ((h.0, r.0), r.1)
  back_exp (prefix op at e) n w h = let r = back_exp e (n + 1) w h.1 in ((h.0, r.0), r.1)
  back_exp (sizeof_exp at e) n w h = let r = back_exp e (n + 1) w h.1 in ((h.0, r.0), r.1)
  back_exp (sizeof_type at o t) n w h = let r = back_type t _ h.1.1 in ((h.0, h.1.0), r.1)
  back_exp (cast o t e) n w h =
      let a = back_type t _ h.1 in
      let r = back_exp e (n + 1) w a.1 in
      ((h.0, r.0), r.1)
  back_exp (binary l op at r) n w h =
      let a = back_exp l n _ h in
      let b = back_exp r (after_exp l n + 1) w a.1.1 in
      ((a.0, (a.1.0, b.0)), b.1)
  back_exp (choice d at e f) n w h =
      let a = back_exp d n _ h in
      let b = back_exp e (after_exp d n + 1) _ a.1.1 in
      let r = back_exp f (after_exp e (after_exp d n + 1)) w b.1.1 in
      ((a.0, (a.1.0, (b.0, r.0))), r.1)
  back_exp (assign p op at v) n w h =
      let a = back_exp p n _ h in
      let b = back_exp v (after_exp p n + 1) w a.1.1 in
      ((a.0, (a.1.0, b.0)), b.1)
  back_exp (comma l r) n w h =
      let a = back_exp l n _ h in
      let b = back_exp r (after_exp l n + 1) w a.1.1 in
      ((a.0, (a.1.0, b.0)), b.1)

  back_first : (es : SomeExps) (n : ℕ) (w : List Opening) → NoneDeep (levelled_first es n w) → LowExps limit es n × NoneDeep w
  back_first no_exps n w h = (tt, h)
  back_first (exps e es) n w h =
      let a = back_exp e n _ h in
      let r = back_others es n w a.1 in
      ((a.0, r.0), r.1)

  back_others : (es : SomeExps) (n : ℕ) (w : List Opening) → NoneDeep (levelled_others es n w) → LowExps limit es n × NoneDeep w
  back_others no_exps n w h = (tt, h)
  back_others (exps e es) n w h =
      let a = back_exp e n _ h.1 in
      let r = back_others es n w a.1 in
      ((a.0, r.0), r.1)

back_part : (e : Option AnExp) (n : ℕ) (w : List Opening) → NoneDeep (levelled_part e n w) → LowPart limit e n × NoneDeep w
back_part None n w h = (tt, h)
back_part (Some e) n w h = back_exp e n w h

back_length : (l : Option ALength) (n : ℕ) (w : List Opening) → NoneDeep (levelled_length l n w) → LowLength limit l n × NoneDeep w
back_length None n w h = (tt, h)
back_length (Some l) n w h = let r = back_part l.value (n + 1) _ h.1 in ((h.0, r.0), r.1.1)

back_trailing : (t : Bool) (w : List Opening) → NoneDeep (levelled_trailing t w) → NoneDeep w
back_trailing true w h = h.1
back_trailing false w h = h

back_init : (i : AnInit) (n : ℕ) (w : List Opening) → NoneDeep (levelled_init i n w) → LowInit limit i n × NoneDeep w
back_init (value e) n w h = back_exp e n w h
back_init (elements es t) n w h =
    let r = back_first es (n + 1) _ h.1 in
    let b = back_trailing t _ r.1 in
    ((h.0, r.0), b.1)

back_initialised : (i : Option AnInitialised) (n : ℕ) (w : List Opening) → NoneDeep (levelled_initialised i n w) → LowInitialised limit i n × NoneDeep w
back_initialised None n w h = (tt, h)
back_initialised (Some i) n w h = back_init i.with_init n w h.1

back_declarator : (d : ADeclarator) (n : ℕ) (w : List Opening) → NoneDeep (levelled_declarator d n w) → LowDeclarator limit d n × NoneDeep w
back_declarator d n w h =
    let a = back_stars d.stars _ h in
    let b = back_length d.length n _ a.1 in
    let r = back_initialised d.init n w b.1 in
    ((b.0, r.0), r.1)

back_more_declarators : (ds : List ADeclarator) (n : ℕ) (w : List Opening) → NoneDeep (levelled_more_declarators ds n w) → LowDeclarators limit ds n × NoneDeep w
back_more_declarators [] n w h = (tt, h)
back_more_declarators (d ∷ ds) n w h =
    let a = back_declarator d n _ h.1 in
    let r = back_more_declarators ds n w a.1 in
    ((a.0, r.0), r.1)

back_declarators : (ds : List ADeclarator) (n : ℕ) (w : List Opening) → NoneDeep (levelled_declarators ds n w) → LowDeclarators limit ds n × NoneDeep w
back_declarators [] n w h = (tt, h)
back_declarators (d ∷ ds) n w h =
    let a = back_declarator d n _ h in
    let r = back_more_declarators ds n w a.1 in
    ((a.0, r.0), r.1)

back_storage : (s : Storage) (w : List Opening) → NoneDeep (levelled_storage s w) → NoneDeep w
back_storage storages.Automatic w h = h
back_storage (storages.Static at) w h = h.1
back_storage (storages.Register at) w h = h.1

back_local : (l : ALocal) (n : ℕ) (w : List Opening) → NoneDeep (levelled_local l n w) → LowDeclarators limit l.declarators n × NoneDeep w
back_local l n w h =
    let r = back_declarators l.declarators n _ (back_spec l.spec _ (back_storage l.storage _ h)) in
    (r.0, r.1.1)

back_condition : (o : ℕ) (e : AnExp) (n : ℕ) (w : List Opening) → NoneDeep (levelled_condition o e n w) → LowCondition limit e n × NoneDeep w
back_condition o e n w h = let r = back_exp e (n + 1) _ h.1 in ((h.0, r.0), r.1.1)

mutual
  back_statement : (s : AStatement) (n : ℕ) (w : List Opening) → NoneDeep (levelled_statement s n w) → LowStatement limit s n × NoneDeep w
  back_statement (block is) n w h = let r = back_items is (n + 1) _ h.1 in ((h.0, r.0), r.1.1)
  back_statement empty n w h = (tt, h.1)
  back_statement (expression e) n w h = let r = back_exp e n _ h in (r.0, r.1.1)
  back_statement (break_off at) n w h = (tt, h.1.1)
  back_statement (continue_on at) n w h = (tt, h.1.1)
  back_statement (give_back at e) n w h = let r = back_part e n _ h.1 in (r.0, r.1.1)
  back_statement (if_then at o e s) n w h =
      let a = back_condition o e (n + 1) _ h.1 in
      let r = back_statement s (n + 1) w a.1 in
      ((h.0, (a.0, r.0)), r.1)
  back_statement (if_else at o e s other t) n w h =
      let a = back_condition o e (n + 1) _ h.1 in
      let b = back_statement s (n + 1) _ a.1 in
      let r = back_statement t (n + 1) w b.1.1 in
      ((h.0, (a.0, (b.0, r.0))), r.1)
  back_statement (while_loop at o e s) n w h =
      let a = back_condition o e (n + 1) _ h.1 in
      let r = back_statement s (n + 1) w a.1 in
      ((h.0, (a.0, r.0)), r.1)
  back_statement (do_loop at s again o e) n w h =
      let a = back_statement s (n + 1) _ h.1 in
      let r = back_condition o e (n + 1) _ a.1.1 in
      ((h.0, (a.0, r.0)), r.1.1)
  back_statement (for_loop at o a b d s) n w h =
      let x = back_part a (n + 1 + 1) _ h.1.1 in
      let y = back_part b (n + 1 + 1) _ x.1.1 in
      let z = back_part d (n + 1 + 1) _ y.1.1 in
      let r = back_statement s (n + 1) w z.1.1 in
      ((h.0, (h.1.0, (x.0, (y.0, (z.0, r.0))))), r.1)

  back_items : (is : SomeItems) (n : ℕ) (w : List Opening) → NoneDeep (levelled_items is n w) → LowItems limit is n × NoneDeep w
  back_items no_items n w h = (tt, h)
  back_items (local_item l is) n w h =
      let a = back_local l n _ h in
      let r = back_items is n w a.1 in
      ((a.0, r.0), r.1)
  back_items (statement_item s is) n w h =
      let a = back_statement s n _ h in
      let r = back_items is n w a.1 in
      ((a.0, r.0), r.1)

back_named : (m : Option Named) (w : List Opening) → NoneDeep (levelled_named m w) → NoneDeep w
back_named None w h = h
back_named (Some m) w h = h.1

back_param : (p : AParam) (n : ℕ) (w : List Opening) → NoneDeep (levelled_param p n w) → LowLength limit p.length n × NoneDeep w
back_param p n w h = back_length p.length n w (back_named p.name _ (back_stars p.stars _ (back_spec p.spec _ h)))

back_more_params : (ps : List AParam) (n : ℕ) (w : List Opening) → NoneDeep (levelled_more_params ps n w) → LowParams limit ps n × NoneDeep w
back_more_params [] n w h = (tt, h)
back_more_params (p ∷ ps) n w h =
    let a = back_param p n _ h.1 in
    let r = back_more_params ps n w a.1 in
    ((a.0, r.0), r.1)

back_params : (ps : SomeParams) (n : ℕ) (w : List Opening) → NoneDeep (levelled_params ps n w) → LowSomeParams limit ps n × NoneDeep w
back_params no_params n w h = (tt, h)
back_params (void_word at) n w h = (tt, h.1)
back_params (params []) n w h = (tt, h)
back_params (params (p ∷ ps)) n w h =
    let a = back_param p n _ h in
    let r = back_more_params ps n w a.1 in
    ((a.0, r.0), r.1)

back_body : (b : Option SomeItems) (w : List Opening) → NoneDeep (levelled_body b 0 w) → LowBody limit b × NoneDeep w
back_body None w h = (tt, h.1)
back_body (Some is) w h = let r = back_items is 1 _ h.1 in ((h.0, r.0), r.1.1)

back_declared : (d : ADeclared) (w : List Opening) → NoneDeep (levelled_declared d 0 w) → LowDeclared limit d × NoneDeep w
back_declared (function f) w h =
    let a = back_stars f.stars _ h in
    let b = back_params f.params 1 _ a.1.1 in
    let r = back_body f.body w b.1.1 in
    ((a.1.0, (b.0, r.0)), r.1)
back_declared (globals ds) w h = let r = back_declarators ds 0 _ h in (r.0, r.1.1)

back_static : (s : Option ℕ) (w : List Opening) → NoneDeep (levelled_static s w) → NoneDeep w
back_static None w h = h
back_static (Some at) w h = h.1

back_externals : (xs : List AnExternal) (w : List Opening) → NoneDeep (levelled_externals xs 0 w) → LowExternals limit xs × NoneDeep w
back_externals [] w h = (tt, h)
back_externals (x ∷ xs) w h =
    let a = back_declared x.declared _ (back_spec x.spec _ (back_static x.static_at _ h)) in
    let r = back_externals xs w a.1 in
    ((a.0, r.0), r.1)

pub tokens_low : (u : AUnit) → NoneDeep (levelled u) → LowExternals limit u.externals
tokens_low u h = (back_externals u.externals _ h).0

pub low_both : (u : AUnit) → LowExternals limit u.externals ↔ NoneDeep (levelled u)
low_both u = (phrases_low u, tokens_low u)
