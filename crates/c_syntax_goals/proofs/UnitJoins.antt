-- Parts of statements and of what stands at file level, read one behind another.
use Rattle.std.proofs.Common.{◌≡◌, ◌⊎◌, ℕ, ◌+◌, List, [], ◌∷◌, refl, ap, subst, ◌∙◌, inl, inr}
use Rattle.std.specs.Prelude.{Option, Some, None}
use Rattle.gg_base.proofs.Facts.{some_none, cons_nil}
use Rattle.c_tokens.specs.declared.words.Key.TheVariants as keys
use Rattle.c_tokens.specs.declared.marks.Mark.TheVariants as marks
use Rattle.c_phrases.specs.declared.operator.Spec.{Spec}
use Rattle.c_phrases.specs.declared.operator.Spec.TheVariants as specs
use Rattle.c_phrases.specs.declared.tree.Named.{Named}
use Rattle.c_phrases.specs.Classes.{word, sign}
use Rattle.c_phrases.specs.Phrases.{AnExp, IsAt}
use Rattle.c_phrases.specs.Units.{ALength, ADeclarator, AStatement, block, expression, if_then, if_else, while_loop}
use Rattle.c_phrases.specs.Units.{do_loop, for_loop, SomeItems, local_item, statement_item, AParam, SomeParams}
use Rattle.c_phrases.specs.Units.{ADeclared, function, globals, AnExternal, AUnit}
use Rattle.c_phrases.specs.Fits.{LengthFits, DeclaratorFits, IsShut, ParamFits, ParamsFit, SomeParamsFit}
use Rattle.c_syntax_goals.specs.Openings.{Opening, opens, plain, levelled_spec, levelled_stars, levelled_name}
use Rattle.c_syntax_goals.specs.Openings.{levelled_exp, levelled_part}
use Rattle.c_syntax_goals.specs.StatementOpenings.{levelled_length, levelled_declarator, levelled_local}
use Rattle.c_syntax_goals.specs.StatementOpenings.{levelled_condition, levelled_statement}
use Rattle.c_syntax_goals.specs.UnitOpenings.{levelled_named, levelled_param, levelled_more_params, levelled_params}
use Rattle.c_syntax_goals.specs.UnitOpenings.{levelled_static, levelled_external}
use Rattle.c_syntax_goals.specs.Goals.{Stack, Want, Expr, Back, WantParen, WantSemi, TypeWords, Condition, Statement}
use Rattle.c_syntax_goals.specs.Goals.{Items, PartSemi, PartParen, ElsePart, Local, AfterName, Body, Params}
use Rattle.c_syntax_goals.specs.Goals.{MoreParams, External, Whole}
use Rattle.c_syntax_goals.specs.Declarators.{declarator_behind}
use Rattle.c_syntax_goals.specs.Statements.{if_goals, while_goals, do_goals, for_goals, item_local}
use Rattle.c_syntax_goals.specs.Externals.{param_goals, lone_param, some_params, function_behind, globals_behind}
use Rattle.c_syntax_goals.specs.Externals.{external_rest, before}
use Rattle.c_syntax_goals.proofs.Yields.{Found, open_paren, close_paren, semi, comma_mark, NoElse, IsStatement, Yields}
use Rattle.c_syntax_goals.proofs.Joins.{behind_read}

module _ (u : AUnit) where
  -- statements
  pub condition_read : (o n : ℕ) (κ : ℕ × AnExp → Stack) (ts : List Opening) → Yields (Want Expr (λ e. Want WantParen (λ x. Want (Back n) (λ y. κ (o, e))))) (n + 1) ts u
      → Yields (Want Condition κ) n (opens (n + 1) (open_paren o) ∷ ts) u
  condition_read o n κ ts h =
      let p = h.onwards in
      record { item = (o, h.item); rest = p.rest; is = (ap (λ (x : List Opening). opens (n + 1) (open_paren o) ∷ x) (h.is.0 ∙ ap (levelled_exp h.item (n + 1)) p.is), h.is.1); onwards = p.onwards }

  pub semi_read : (n : ℕ) (κ : Option AnExp → Stack) (ts : List Opening) → Yields (Want Expr (λ e. Want (Back n) (λ x. Want WantSemi (λ y. κ (Some e))))) n ts u → Yields (Want PartSemi κ) n ts u
  semi_read n κ ts h =
      let p = h.onwards in
      record { item = Some h.item; rest = p.rest; is = (h.is.0 ∙ ap (levelled_exp h.item n) p.is, h.is.1); onwards = p.onwards }

  pub part_paren_read : (n : ℕ) (κ : Option AnExp → Stack) (ts : List Opening) → Yields (Want Expr (λ e. Want (Back n) (λ x. Want WantParen (λ y. κ (Some e))))) n ts u
      → Yields (Want PartParen κ) n ts u
  part_paren_read n κ ts h =
      let p = h.onwards in
      record { item = Some h.item; rest = p.rest; is = (h.is.0 ∙ ap (levelled_exp h.item n) p.is, h.is.1); onwards = p.onwards }

  pub expression_read : (n : ℕ) (κ : AStatement → Stack) (ts : List Opening) → Yields (Want Expr (λ e. Want (Back n) (λ x. Want WantSemi (λ y. κ (expression e))))) n ts u
      → Yields (Want Statement κ) n ts u
  expression_read n κ ts h =
      let p = h.onwards in
      record { item = expression h.item; rest = p.rest; is = (h.is.0 ∙ ap (levelled_exp h.item n) p.is, (h.is.1, inl tt)); onwards = p.onwards }

  pub block_read : (n : ℕ) (κ : AStatement → Stack) (ts : List Opening) → Yields (Want Items (λ is. Want (Back n) (λ x. κ (block is)))) (n + 1) ts u
      → Yields (Want Statement κ) n (opens (n + 1) (sign marks.OpenBrace 0) ∷ ts) u
  block_read n κ ts h = record { item = block h.item; rest = h.rest; is = (ap (λ (x : List Opening). opens (n + 1) (sign marks.OpenBrace 0) ∷ x) h.is.0, (h.is.1, inl tt)); onwards = h.onwards }

  shut_by : (s : AStatement) (at : ℕ) (x y : List Opening) → x ≡ plain (word keys.Else at) ∷ y → IsShut s ⊎ NoElse x → IsShut s
  shut_by s at x y e (inl h) = h
  shut_by s at x y e (inr h) = absurd (subst NoElse e h refl)

  else_read : (at n : ℕ) (κ : AStatement → Stack) (ts : List Opening) (o : ℕ) (e : AnExp) (v : List Opening) (s : AStatement) (w : List Opening) → (ts ≡ levelled_condition o e (n + 1) v)
      × IsAt 0 e → IsStatement v (n + 1) s w → Yields (Want (ElsePart at o e s) (λ r. Want (Back n) (λ x. κ r))) (n + 1) w u → Yields (Want Statement κ) n (opens (n + 1) (word keys.If at) ∷ ts) u
  else_read at n κ ts o e v s w c b (inl h) = record {
    item = if_then at o e s;
    rest = w;
    is = (ap (λ (x : List Opening). opens (n + 1) (word keys.If at) ∷ x) (c.0 ∙ ap (levelled_condition o e (n + 1)) b.0), ((c.1, b.1.0), inr h.0));
    onwards = h.1;
  }
  else_read at n κ ts o e v s w c b (inr h) = record {
    item = if_else at o e s h.item.0 h.item.1;
    rest = h.rest;
    is = (
      ap (λ (x : List Opening). opens (n + 1) (word keys.If at) ∷ x)
          (c.0 ∙ ap (levelled_condition o e (n + 1)) (b.0 ∙ ap (levelled_statement s (n + 1)) (h.is.1.0 ∙ ap (λ (x : List Opening). plain (word keys.Else h.item.0) ∷ x) h.is.1.1.0))),
      ((c.1, (b.1.0, (shut_by s h.item.0 w h.is.0 h.is.1.0 b.1.1, h.is.1.1.1.0))), h.is.1.1.1.1),
    );
    onwards = h.onwards;
  }

  pub if_read : (at n : ℕ) (κ : AStatement → Stack) (ts : List Opening) → Yields (if_goals at (λ s. Want (Back n) (λ x. κ s))) (n + 1) ts u
      → Yields (Want Statement κ) n (opens (n + 1) (word keys.If at) ∷ ts) u
  if_read at n κ ts h =
      let b = h.onwards in
      else_read at n κ ts h.item.0 h.item.1 h.rest b.item b.rest h.is b.is b.onwards

  pub while_read : (at n : ℕ) (κ : AStatement → Stack) (ts : List Opening) → Yields (while_goals at (λ s. Want (Back n) (λ x. κ s))) (n + 1) ts u
      → Yields (Want Statement κ) n (opens (n + 1) (word keys.While at) ∷ ts) u
  while_read at n κ ts h =
      let b = h.onwards in
      record {
        item = while_loop at h.item.0 h.item.1 b.item;
        rest = b.rest;
        is = (ap (λ (x : List Opening). opens (n + 1) (word keys.While at) ∷ x) (h.is.0 ∙ ap (levelled_condition h.item.0 h.item.1 (n + 1)) b.is.0), ((h.is.1, b.is.1.0), b.is.1.1));
        onwards = b.onwards;
      }

  pub do_read : (at n : ℕ) (κ : AStatement → Stack) (ts : List Opening) → Yields (do_goals at (λ s. Want (Back n) (λ x. κ s))) (n + 1) ts u
      → Yields (Want Statement κ) n (opens (n + 1) (word keys.Do at) ∷ ts) u
  do_read at n κ ts h =
      let a = h.onwards in
      let c = a.onwards in
      let p = c.onwards in
      record {
        item = do_loop at h.item a.item c.item.0 c.item.1;
        rest = p.rest;
        is = (
          ap (λ (x : List Opening). opens (n + 1) (word keys.Do at) ∷ x)
              (h.is.0 ∙ ap (levelled_statement h.item (n + 1)) (a.is ∙ ap (λ (x : List Opening). plain (word keys.While a.item) ∷ x)
              (c.is.0 ∙ ap (levelled_condition c.item.0 c.item.1 (n + 1)) p.is))),
          ((c.is.1, h.is.1.0), inl tt),
        );
        onwards = p.onwards;
      }

  pub for_read : (at n : ℕ) (κ : AStatement → Stack) (ts : List Opening) → Yields (for_goals at (n + 1) (λ s. Want (Back n) (λ x. κ s))) (n + 1) ts u
      → Yields (Want Statement κ) n (opens (n + 1) (word keys.For at) ∷ ts) u
  for_read at n κ ts h =
      let a = h.onwards in
      let b = a.onwards in
      let d = b.onwards in
      let s = d.onwards in
      let m : ℕ = n + 1 + 1 in
      record {
        item = for_loop at h.item a.item b.item d.item s.item;
        rest = s.rest;
        is = (
          ap (λ (x : List Opening). opens (n + 1) (word keys.For at) ∷ x)
              (h.is ∙ ap (λ (x : List Opening). opens m (open_paren h.item) ∷ x)
              (a.is.0 ∙ ap (λ (x : List Opening). levelled_part a.item m (semi ∷ x))
              (b.is.0 ∙ ap (λ (x : List Opening). levelled_part b.item m (semi ∷ x)) (d.is.0 ∙ ap (λ (x : List Opening). levelled_part d.item m (close_paren ∷ x)) s.is.0)))),
          ((a.is.1, (b.is.1, (d.is.1, s.is.1.0))), s.is.1.1),
        );
        onwards = s.onwards;
      }

  pub item_read : (n : ℕ) (κ : SomeItems → Stack) (ts : List Opening) → Yields (Want Statement (λ s. Want Items (λ is. κ (statement_item s is)))) n ts u → Yields (Want Items κ) n ts u
  item_read n κ ts h =
      let r = h.onwards in
      record { item = statement_item h.item r.item; rest = r.rest; is = (h.is.0 ∙ ap (levelled_statement h.item n) r.is.0, (h.is.1.0, r.is.1)); onwards = r.onwards }

  pub local_item_read : (n : ℕ) (κ : SomeItems → Stack) (ts : List Opening) → Yields (Want Local (item_local κ)) n ts u → Yields (Want Items κ) n ts u
  local_item_read n κ ts h =
      let r = h.onwards in
      record { item = local_item h.item r.item; rest = r.rest; is = (h.is.0 ∙ ap (levelled_local h.item n) r.is.0, (h.is.1, r.is.1)); onwards = r.onwards }

  -- parameters
  pub param_read : (n : ℕ) (κ : AParam → Stack) (ts : List Opening) → Yields (param_goals κ) n ts u → Found AParam (λ p w. (ts ≡ levelled_param p n w) × ParamFits p) (λ p w. Yields (κ p) n w u)
  param_read n κ ts h =
      let a = h.onwards in
      let m = a.onwards in
      let l = m.onwards in
      record {
        item = record { spec = h.item; stars = a.item; name = m.item; length = l.item };
        rest = l.rest;
        is = (h.is ∙ ap (levelled_spec h.item) (a.is ∙ ap (levelled_stars a.item) (m.is ∙ ap (levelled_named m.item) l.is.0)), l.is.1);
        onwards = l.onwards;
      }

  pub next_param_read : (n : ℕ) (κ : List AParam → Stack) (ts : List Opening) → Yields (param_goals (λ p. Want MoreParams (λ ps. κ (p ∷ ps)))) n ts u → Yields (Want MoreParams κ) n (comma_mark ∷ ts) u
  next_param_read n κ ts h =
      let p : Found AParam (λ p w. (ts ≡ levelled_param p n w) × ParamFits p) (λ p w. Yields (Want MoreParams (λ ps. κ (p ∷ ps))) n w u) =
      param_read n (λ p. Want MoreParams (λ ps. κ (p ∷ ps))) ts h in
      let r = p.onwards in
      record { item = p.item ∷ r.item; rest = r.rest; is = (ap (λ (x : List Opening). comma_mark ∷ x) (p.is.0 ∙ ap (levelled_param p.item n) r.is.0), (p.is.1, r.is.1)); onwards = r.onwards }

  lone_text : (s : Spec) (ats : List ℕ) (m : Option Named) (l : Option ALength) (n : ℕ) (w : List Opening) → levelled_spec s (levelled_stars ats (levelled_named m (levelled_length l n w)))
      ≡ levelled_params (lone_param s ats m l) n w
  lone_text (specs.Void at) [] None None n w = refl
  lone_text (specs.Void at) [] None (Some l) n w = refl
  lone_text (specs.Void at) [] (Some m) l n w = refl
  lone_text (specs.Void at) (a ∷ ats) m l n w = refl
  lone_text s ats m l n w = refl

  lone_fits : (s : Spec) (ats : List ℕ) (m : Option Named) (l : Option ALength) → LengthFits l → SomeParamsFit (lone_param s ats m l)
  lone_fits (specs.Void at) [] None None h = tt
  lone_fits (specs.Void at) [] None (Some l) h = (h, λ x. some_none l x.1.1.1)
  lone_fits (specs.Void at) [] (Some m) l h = (h, λ x. some_none m x.1.1.0)
  lone_fits (specs.Void at) (a ∷ ats) m l h = (h, λ x. cons_nil a ats x.1.0)
  lone_fits s ats m l h = (h, λ x. x.0)

  some_text : (p : AParam) (ps : List AParam) (n : ℕ) (w : List Opening) → levelled_param p n (levelled_more_params ps n w) ≡ levelled_params (some_params p ps) n w
  some_text p [] n w = lone_text p.spec p.stars p.name p.length n w
  some_text p (q ∷ ps) n w = refl

  some_fits : (p : AParam) (ps : List AParam) → ParamFits p → ParamsFit ps → SomeParamsFit (some_params p ps)
  some_fits p [] h k = lone_fits p.spec p.stars p.name p.length h
  some_fits p (q ∷ ps) h k = (h, k)

  pub params_read : (n : ℕ) (κ : SomeParams → Stack) (ts : List Opening) → Yields (param_goals (λ p. Want MoreParams (λ ps. κ (some_params p ps)))) n ts u → Yields (Want Params κ) n ts u
  params_read n κ ts h =
      let p : Found AParam (λ p w. (ts ≡ levelled_param p n w) × ParamFits p) (λ p w. Yields (Want MoreParams (λ ps. κ (some_params p ps))) n w u) =
      param_read n (λ p. Want MoreParams (λ ps. κ (some_params p ps))) ts h in
      let r = p.onwards in
      record {
        item = some_params p.item r.item;
        rest = r.rest;
        is = (p.is.0 ∙ ap (levelled_param p.item n) r.is.0 ∙ some_text p.item r.item n (close_paren ∷ r.rest), some_fits p.item r.item p.is.1 r.is.1);
        onwards = r.onwards;
      }

  -- what stands at file level
  pub body_read : (n : ℕ) (κ : Option SomeItems → Stack) (ts : List Opening) → Yields (Want Items (λ is. Want (Back n) (λ x. κ (Some is)))) (n + 1) ts u
      → Yields (Want Body κ) n (opens (n + 1) (sign marks.OpenBrace 0) ∷ ts) u
  body_read n κ ts h = record { item = Some h.item; rest = h.rest; is = (ap (λ (x : List Opening). opens (n + 1) (sign marks.OpenBrace 0) ∷ x) h.is.0, h.is.1); onwards = h.onwards }

  pub function_read : (ats f : List ℕ) (at o n : ℕ) (κ : ADeclared → Stack) (ts : List Opening) → Yields (function_behind ats f at o n κ) (n + 1) ts u
      → Yields (Want (AfterName ats f at) κ) n (opens (n + 1) (open_paren o) ∷ ts) u
  function_read ats f at o n κ ts h =
      let b = h.onwards in
      record {
        item = function (record { stars = ats; name = f; at = at; opened = o; params = h.item; body = b.item });
        rest = b.rest;
        is = (
          ap (λ (x : List Opening). levelled_stars ats (levelled_name f at (opens (n + 1) (open_paren o) ∷ x)))
              (h.is.0 ∙ ap (λ (x : List Opening). levelled_params h.item (n + 1) (close_paren ∷ x)) b.is.0),
          (h.is.1, b.is.1),
        );
        onwards = b.onwards;
      }

  pub globals_read : (ats f : List ℕ) (at n : ℕ) (κ : ADeclared → Stack) (ts : List Opening) → Yields (declarator_behind ats f at (globals_behind κ)) n ts u
      → Yields (Want (AfterName ats f at) κ) n ts u
  globals_read ats f at n κ ts h =
      let d : Found ADeclarator (λ d w. (levelled_stars ats (levelled_name f at ts) ≡ levelled_declarator d n w) × DeclaratorFits d) (λ d w. Yields (globals_behind κ d) n w u) =
      behind_read u ats f at n (globals_behind κ) ts h in
      let r = d.onwards in
      record { item = globals (d.item ∷ r.item); rest = r.rest; is = (d.is.0 ∙ ap (levelled_declarator d.item n) r.is.0, (tt, (d.is.1, r.is.1))); onwards = r.onwards }

  pub external_read : (st : Option ℕ) (n : ℕ) (κ : AnExternal → Stack) (ts : List Opening) → Yields (Want TypeWords (external_rest st κ)) n ts u → Yields (Want External κ) n (levelled_static st ts) u
  external_read st n κ ts h =
      let a = h.onwards in
      let d = a.onwards in
      record {
        item = record { static_at = st; spec = h.item; declared = d.item };
        rest = d.rest;
        is = (ap (levelled_static st) (h.is ∙ ap (levelled_spec h.item) (a.is ∙ d.is.0)), d.is.1);
        onwards = d.onwards;
      }

  pub whole_read : (n : ℕ) (κ : AUnit → Stack) (ts : List Opening) → Yields (Want External (λ x. Want Whole (λ v. κ (before x v)))) n ts u → Yields (Want Whole κ) n ts u
  whole_read n κ ts h =
      let r = h.onwards in
      record { item = before h.item r.item; rest = r.rest; is = (h.is.0 ∙ ap (levelled_external h.item n) r.is.0, (h.is.1, r.is.1)); onwards = r.onwards }
