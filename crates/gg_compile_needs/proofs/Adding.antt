-- Statements and texts add at most four to the weight of the data area for each of their tokens.
use Rattle.std.proofs.Common.{◌≡◌, ℕ, ◌+◌, ◌*◌, ◌≤◌, Bool, true, false, List, [], ◌∷◌, ◌++◌, length, Option, Some, None, refl, ap, arith}
use Rattle.std.specs.Prelude.{is_some}
use Rattle.c_tokens.specs.declared.token.Token.TheVariants as token
use Rattle.c_tokens.specs.declared.marks.Mark.TheVariants as marks
use Rattle.c_tokens.specs.declared.words.Key.TheVariants as keys
use Rattle.c_phrases.specs.declared.operator.Spec.{Spec}
use Rattle.c_phrases.specs.declared.tree.Named.{Named}
use Rattle.c_phrases.specs.Classes.{Placed, word, sign}
use Rattle.c_phrases.specs.Phrases.{AnExp}
use Rattle.c_phrases.specs.Spelling.{onto_exp, onto_spec, onto_stars, onto_name}
use Rattle.c_phrases.specs.Units.{ALength, ADeclarator, AStatement, block, empty, expression, break_off, continue_on, give_back, if_then, if_else, while_loop, do_loop, for_loop}
use Rattle.c_phrases.specs.Units.{SomeItems, no_items, local_item, statement_item, AParam, SomeParams, no_params, void_word, params, AFunction, ADeclared, function, globals}
use Rattle.c_phrases.specs.Units.{AnExternal}
use Rattle.c_phrases.specs.UnitSpelling.{onto_part, onto_length, onto_declarators, onto_more_declarators, onto_condition, onto_statement, onto_items, onto_named, onto_param}
use Rattle.c_phrases.specs.UnitSpelling.{onto_more_params, onto_params, onto_body, onto_declared, onto_external, onto_externals}
use Rattle.c_types.specs.declared.types.CType.{CType}
use Rattle.c_types.specs.Typed.{AnExpression}
use Rattle.c_program.specs.Statements.{AnAction, SomeActions}
use Rattle.c_syntax.proofs.ExpressionLaws.{longer_exp, longer_stars}
use Rattle.c_syntax.proofs.ItemLaws.{longer_spec, longer_storage}
use Rattle.c_syntax.proofs.UnitLaws.{longer_named, longer_static}
use Rattle.c_typed_scope.specs.declared.entry.Entry.{Entry}
use Rattle.c_typed_scope.specs.declared.entry.Signature.{Signature}
use Rattle.c_typed_scope.specs.Scopes.{Scope}
use Rattle.c_typed_scope.specs.Layout.{Area}
use Rattle.c_typed_expressions.specs.Phrases.{params_in, brackets_in}
use Rattle.c_typed_expressions.specs.Expressions.{written}
use Rattle.c_typed_definition.specs.State.{State, with_area}
use Rattle.c_typed_definition.specs.Statements.{entered}
use Rattle.c_typed_definition.specs.Signatures.{parameter_type}
use Rattle.c_typed_definition.specs.Headings.{Text, with_parameter, with_declared}
use Rattle.c_typed_definition.specs.Bodies.{entered_function}
use Rattle.c_typed_definition.specs.Texts.{empty_text}
use Rattle.c_typed_law.specs.Statements.{IsFull, IsCondition, IsPart, IsTurn, IsReturn, IsStatement, AreItems}
use Rattle.c_typed_law.specs.Texts.{IsParameterLength, IsParameter, AreParameters, IsBody, AreGlobals, IsExternalBy, AreExternals}
use Rattle.c_typed_law.proofs.Declared.{parameter_area}
use Rattle.gg_compile_needs.specs.Claims.{Weight, StatementsAddLittle, TextsAddLittle}
use Rattle.gg_compile_needs.proofs.Locals.{statement_adds}
use Rattle.gg_compile_needs.proofs.Data.{exp_adds}
use Rattle.gg_compile_needs.proofs.Objects.{object_adds, declarators_add}

abbrev Held : State → ℕ
Held s = Weight s.area

module _ (names : List (List ℕ × Entry)) (signatures : List Signature) where
  -- ---- expressions in statements

  full_adds : (e : AnExp) (s : State) (r : AnExpression × State) → IsFull names signatures e s r → (w : List Placed)
      → Held r.1 + 4 * length w ≤ Held s + 4 * length (onto_exp e w)
  full_adds e s r j w =
      let x = exp_adds names signatures s.scope e s.area j.part j.typed w in
      let is = ap (λ (z : AnExpression × State). Held z.1) j.whole in
      omega (arith, longer_exp e w)

  condition_adds : (e : AnExp) (s : State) (r : AnExpression × State) → IsCondition names signatures e s r → (w : List Placed)
      → Held r.1 + 4 * length w ≤ Held s + 4 * length (onto_exp e w)
  condition_adds e s r j w =
      let x = full_adds e s j.part j.typed w in
      let is = ap (λ (z : AnExpression × State). Held z.1) j.whole.whole in
      omega arith

  -- a part that may be left out
  part_adds : (e : Option AnExp) (s : State) (r : Option AnExpression × State) → IsPart names signatures e s r → (w : List Placed)
      → Held r.1 + 4 * length w ≤ Held s + 4 * length (onto_part e w)
  part_adds None s r j w = let is = ap (λ (z : Option AnExpression × State). Held z.1) j in omega arith
  part_adds (Some e) s r j w =
      let x = full_adds e s j.part j.typed w in
      let is = ap (λ (z : Option AnExpression × State). Held z.1) j.whole in
      omega arith

  turn_adds : (e : Option AnExp) (s : State) (r : Option AnExpression × State) → IsTurn names signatures e s r → (w : List Placed)
      → Held r.1 + 4 * length w ≤ Held s + 4 * length (onto_part e w)
  turn_adds None s r j w = let is = ap (λ (z : Option AnExpression × State). Held z.1) j in omega arith
  turn_adds (Some e) s r j w =
      let x = condition_adds e s j.part j.typed w in
      let is = ap (λ (z : Option AnExpression × State). Held z.1) j.whole in
      omega arith

  -- ---- statements

  module _ (result_type : CType) where
    return_adds : (e : Option AnExp) (s : State) (r : AnAction × State) → IsReturn names signatures result_type e s r → (w : List Placed)
        → Held r.1 + 4 * length w ≤ Held s + 4 * length (onto_part e w)
    return_adds None s r j w = let is = ap (λ (z : AnAction × State). Held z.1) j in omega arith
    return_adds (Some e) s r j w =
        let x = full_adds e s j.part j.typed w in
        let is = ap (λ (z : AnAction × State). Held z.1) j.whole.whole in
        omega arith

    mutual
      pub statement_weighs : (looping : Bool) (a : AStatement) (s : State) (r : AnAction × State)
          → IsStatement names signatures result_type looping a s r → (w : List Placed) → Held r.1 + 4 * length w ≤ Held s + 4 * length (onto_statement a w)
      statement_weighs looping (block row) s r j w =
          let x = items_weigh looping row (entered s) j.part j.typed (sign marks.CloseBrace 0 ∷ w) in
          let is = ap (λ (z : AnAction × State). Held z.1) j.whole in
          omega arith
      statement_weighs looping empty s r j w = let is = ap (λ (z : AnAction × State). Held z.1) j in omega arith
      statement_weighs looping (expression e) s r j w =
          let x = full_adds e s j.part j.typed (sign marks.Semicolon 0 ∷ w) in
          let is = ap (λ (z : AnAction × State). Held z.1) j.whole in
          omega arith
      statement_weighs looping (break_off at) s r j w = let is = ap (λ (z : AnAction × State). Held z.1) j.typed in omega arith
      statement_weighs looping (continue_on at) s r j w = let is = ap (λ (z : AnAction × State). Held z.1) j.typed in omega arith
      statement_weighs looping (give_back at e) s r j w = let x = return_adds e s r j (sign marks.Semicolon 0 ∷ w) in omega arith
      statement_weighs looping (if_then at o c a) s r j w =
          let k = j.whole in
          let x = condition_adds c s j.part j.typed (sign marks.CloseParenthesis 0 ∷ onto_statement a w) in
          let y = statement_weighs looping a j.part.1 k.part k.typed w in
          let is = ap (λ (z : AnAction × State). Held z.1) k.whole in
          omega arith
      statement_weighs looping (if_else at o c a other b) s r j w =
          let k = j.whole in
          let m = k.whole in
          let v : List Placed = word keys.Else other ∷ onto_statement b w in
          let x = condition_adds c s j.part j.typed (sign marks.CloseParenthesis 0 ∷ onto_statement a v) in
          let y = statement_weighs looping a j.part.1 k.part k.typed v in
          let u = statement_weighs looping b k.part.1 m.part m.typed w in
          let is = ap (λ (z : AnAction × State). Held z.1) m.whole in
          omega arith
      statement_weighs looping (while_loop at o c a) s r j w =
          let k = j.whole in
          let x = condition_adds c s j.part j.typed (sign marks.CloseParenthesis 0 ∷ onto_statement a w) in
          let y = statement_weighs true a j.part.1 k.part k.typed w in
          let is = ap (λ (z : AnAction × State). Held z.1) k.whole in
          omega arith
      statement_weighs looping (do_loop at a again o c) s r j w =
          let k = j.whole in
          let v : List Placed = sign marks.Semicolon 0 ∷ w in
          let x = statement_weighs true a s j.part j.typed (word keys.While again ∷ onto_condition o c v) in
          let y = condition_adds c j.part.1 k.part k.typed (sign marks.CloseParenthesis 0 ∷ v) in
          let is = ap (λ (z : AnAction × State). Held z.1) k.whole in
          omega arith
      statement_weighs looping (for_loop at o i c e a) s r j w =
          let k = j.whole in
          let m = k.whole in
          let q = m.whole in
          let last : List Placed = sign marks.CloseParenthesis 0 ∷ onto_statement a w in
          let middle : List Placed = sign marks.Semicolon 0 ∷ onto_part e last in
          let x = part_adds i s j.part j.typed (sign marks.Semicolon 0 ∷ onto_part c middle) in
          let y = turn_adds c j.part.1 k.part k.typed middle in
          let u = part_adds e k.part.1 m.part m.typed last in
          let v = statement_weighs true a m.part.1 q.part q.typed w in
          let is = ap (λ (z : AnAction × State). Held z.1) q.whole in
          omega arith

      pub items_weigh : (looping : Bool) (row : SomeItems) (s : State) (r : SomeActions × State)
          → AreItems names signatures result_type looping row s r → (w : List Placed) → Held r.1 + 4 * length w ≤ Held s + 4 * length (onto_items row w)
      items_weigh looping no_items s r j w = let is = ap (λ (z : SomeActions × State). Held z.1) j in omega arith
      items_weigh looping (local_item l rest) s r j w =
          let k = j.whole in
          let behind : List Placed = sign marks.Semicolon 0 ∷ onto_items rest w in
          let x = declarators_add names signatures l.storage l.spec l.declarators s j.part j.typed behind in
          let y = items_weigh looping rest j.part.1 k.part k.typed w in
          let is = ap (λ (z : SomeActions × State). Held z.1) k.whole in
          omega (
            arith,
            longer_storage l.storage (onto_spec l.spec (onto_declarators l.declarators behind)),
            longer_spec l.spec (onto_declarators l.declarators behind),
          )
      items_weigh looping (statement_item a rest) s r j w =
          let k = j.whole in
          let x = statement_weighs looping a s j.part j.typed (onto_items rest w) in
          let y = items_weigh looping rest j.part.1 k.part k.typed w in
          let is = ap (λ (z : SomeActions × State). Held z.1) k.whole in
          omega arith

-- ---- functions and texts

parameter_weighs : (o : Option Named) (t : CType) (n : ℕ) (s : State) → Held (with_parameter o t n s) ≡ Held s
parameter_weighs o t n s = ap Weight (parameter_area o t n s)

-- the weight of the text so far
abbrev All : Text → ℕ
All t = Held t.state

declared_same : (earlier : Option ℕ) (spec : Spec) (f : AFunction) (t : Text) → All (with_declared earlier spec f t) ≡ All t
declared_same None spec f t = refl
declared_same (Some n) spec f t = refl

module _ (names : List (List ℕ × Entry)) (signatures : List Signature) where
  value_adds : (o : Option AnExp) (scope : Scope) (a b : Area) → IsParameterLength names signatures (Some o) scope a b → (w : List Placed)
      → Weight b + 4 * length w ≤ Weight a + 4 * length (onto_part o w)
  value_adds None scope a b j w = let is = ap Weight j in omega arith
  value_adds (Some e) scope a b j w =
      let k = j.typed in
      let x = exp_adds names signatures scope e a k.part k.typed w in
      let same = ap (λ (z : ℕ × Area). Weight z.1) k.whole.whole in
      let is = ap Weight j.whole in
      omega (arith, longer_exp e w)

  length_adds : (l : Option ALength) (scope : Scope) (a b : Area) → IsParameterLength names signatures (brackets_in l) scope a b → (w : List Placed)
      → Weight b + 4 * length w ≤ Weight a + 4 * length (onto_length l w)
  length_adds None scope a b j w = let is = ap Weight j in omega arith
  length_adds (Some l) scope a b j w = let x = value_adds l.value scope a b j (sign marks.CloseBracket 0 ∷ w) in omega arith

  parameter_adds : (defines : Bool) (p : AParam) (n : ℕ) (s r : State) → IsParameter names signatures defines p n s r → (w : List Placed)
      → Held r + 4 * length w ≤ Held s + 4 * length (onto_param p w)
  parameter_adds defines p n s r j w =
      let k = j.whole in
      let x = length_adds p.length s.scope s.area k.part k.typed w in
      let same = parameter_weighs p.name (parameter_type p) n (with_area k.part s) in
      let is = ap Held k.whole in
      omega (
        arith,
        longer_spec p.spec (onto_stars p.stars (onto_named p.name (onto_length p.length w))),
        longer_stars p.stars (onto_named p.name (onto_length p.length w)),
        longer_named p.name (onto_length p.length w),
      )

  parameters_add : (defines : Bool) (ps : List AParam) (n : ℕ) (s r : State) → AreParameters names signatures defines ps n s r → (w : List Placed)
      → Held r + 4 * length w ≤ Held s + 4 * length (onto_more_params ps w)
  parameters_add defines [] n s r j w = let is = ap Held j in omega arith
  parameters_add defines (p ∷ ps) n s r j w =
      let x = parameter_adds defines p n s j.part j.typed (onto_more_params ps w) in
      let y = parameters_add defines ps (n + 1) j.part r j.whole w in
      omega arith

  heading_adds : (defines : Bool) (ps : SomeParams) (s r : State) → AreParameters names signatures defines (params_in ps) 0 s r → (w : List Placed)
      → Held r + 4 * length w ≤ Held s + 4 * length (onto_params ps w)
  heading_adds defines no_params s r j w = let is = ap Held j in omega arith
  heading_adds defines (void_word at) s r j w = let is = ap Held j in omega arith
  heading_adds defines (params []) s r j w = let is = ap Held j in omega arith
  heading_adds defines (params (p ∷ ps)) s r j w =
      let x = parameter_adds defines p 0 s j.part j.typed (onto_more_params ps w) in
      let y = parameters_add defines ps 1 j.part r j.whole w in
      omega arith

  body_adds : (spec : Spec) (f : AFunction) (o : Option SomeItems) (s : State) (t r : Text) → IsBody names signatures spec f o s t r
      → (w : List Placed) → All r + 4 * length w ≤ Held s + 4 * length (onto_body o w)
  body_adds spec f None s t r j w = let is = ap All j in omega arith
  body_adds spec f (Some row) s t r j w =
      let x = items_weigh names signatures (written spec f.stars) false row s j.part j.typed (sign marks.CloseBrace 0 ∷ w) in
      let is = ap All j.whole.typed in
      omega arith

  globals_add : (spec : Spec) (ds : List ADeclarator) (s r : State) → AreGlobals names signatures spec ds s r → (w : List Placed)
      → Held r + 4 * length w ≤ Held s + 4 * length (onto_more_declarators ds w)
  globals_add spec [] s r j w = let is = ap Held j in omega arith
  globals_add spec (d ∷ ds) s r j w =
      let x = object_adds names signatures false spec d s j.part j.typed (onto_more_declarators ds w) in
      let y = globals_add spec ds j.part.1 r j.whole w in
      omega arith

  all_globals_add : (spec : Spec) (ds : List ADeclarator) (s r : State) → AreGlobals names signatures spec ds s r → (w : List Placed)
      → Held r + 4 * length w ≤ Held s + 4 * length (onto_declarators ds w)
  all_globals_add spec [] s r j w = let is = ap Held j in omega arith
  all_globals_add spec (d ∷ ds) s r j w =
      let x = object_adds names signatures false spec d s j.part j.typed (onto_more_declarators ds w) in
      let y = globals_add spec ds j.part.1 r j.whole w in
      omega arith

  declared_adds : (spec : Spec) (d : ADeclared) (t r : Text) → IsExternalBy names signatures spec d t r → (w : List Placed)
      → All r + 4 * length w ≤ All t + 4 * length (onto_declared d w)
  declared_adds spec (function f) t r j w =
      let k = j.whole.whole in
      let u : Text = with_declared j.part spec f t in
      let behind : List Placed = sign marks.CloseParenthesis 0 ∷ onto_body f.body w in
      let x = heading_adds (is_some f.body) f.params (entered_function f u.state) k.part k.typed behind in
      let y = body_adds spec f f.body k.part u r k.whole.whole w in
      let same = declared_same j.part spec f t in
      omega (arith, longer_stars f.stars (onto_name f.name f.at (sign marks.OpenParenthesis f.opened ∷ onto_params f.params behind)))
  declared_adds spec (globals ds) t r j w =
      let x = all_globals_add spec ds t.state j.part j.typed (sign marks.Semicolon 0 ∷ w) in
      let is = ap All j.whole in
      omega arith

  externals_add : (es : List AnExternal) (t r : Text) → AreExternals names signatures es t r → (w : List Placed)
      → All r + 4 * length w ≤ All t + 4 * length (onto_externals es w)
  externals_add [] t r j w = let is = ap All j in omega arith
  externals_add (e ∷ es) t r j w =
      let v : List Placed = onto_externals es w in
      let x = declared_adds e.spec e.declared t j.part j.typed v in
      let y = externals_add es j.part r j.whole w in
      omega (
        arith,
        longer_static e.static_at (onto_spec e.spec (onto_declared e.declared v)),
        longer_spec e.spec (onto_declared e.declared v),
      )

front_of : (before behind : List AnExternal) (w : List Placed) → onto_externals (before ++ behind) w ≡ onto_externals before (onto_externals behind w)
front_of [] behind w = refl
front_of (e ∷ es) behind w = ap (onto_external e) (front_of es behind w)

pub statements_add_little : StatementsAddLittle
statements_add_little names signatures result looping a s r j =
    let x = statement_adds names signatures result looping a s r j [] in
    let y = statement_weighs names signatures result looping a s r j [] in
    record { locals = omega arith; weight = omega arith }

pub texts_add_little : TextsAddLittle
texts_add_little unit ends tokens before behind is names signatures t j =
    let end : List Placed = record { kind = token.End; at = unit.end } ∷ [] in
    let x = externals_add names signatures before (empty_text ends) t j (onto_externals behind end) in
    let front = ap (λ (l : List Placed). length l) (front_of before behind end) in
    let whole = ap (λ (es : List AnExternal). length (onto_externals es end)) is in
    let few = tokens.few in
    omega arith
