-- A typed program is smaller than its unit has tokens, and so takes few labels.
use Rattle.std.proofs.Common.{◌≡◌, ℕ, ◌+◌, ◌≤◌, false, List, [], ◌∷◌, ◌++◌, length, Option, Some, None, refl, ap, arith, zero, suc, subst, sym}
use Rattle.std.specs.Prelude.{is_some}
use Rattle.c_tokens.specs.declared.token.Token.TheVariants as token
use Rattle.c_tokens.specs.declared.marks.Mark.TheVariants as marks
use Rattle.c_phrases.specs.declared.operator.Spec.{Spec}
use Rattle.c_phrases.specs.Classes.{Placed, sign}
use Rattle.c_phrases.specs.Spelling.{onto_spec, onto_name}
use Rattle.c_phrases.specs.Units.{SomeItems, AFunction, ADeclared}
use Rattle.c_phrases.specs.Units.{function, globals, AnExternal}
use Rattle.c_phrases.specs.UnitSpelling.{onto_params}
use Rattle.c_phrases.specs.UnitSpelling.{onto_body, onto_declared, onto_externals}
use Rattle.c_program.specs.Programs.{ARoutine, AProgram}
use Rattle.c_syntax.proofs.ItemLaws.{longer_spec, longer_declarators}
use Rattle.c_syntax.proofs.UnitLaws.{longer_static, longer_some_params}
use Rattle.c_syntax.proofs.ExpressionLaws.{longer_stars}
use Rattle.c_typed_scope.specs.declared.entry.Entry.{Entry}
use Rattle.c_typed_scope.specs.declared.entry.Signature.{Signature}
use Rattle.c_typed_scope.specs.Layout.{aligned}
use Rattle.c_typed_expressions.specs.Expressions.{written}
use Rattle.c_typed_expressions.specs.Phrases.{params_in}
use Rattle.gg_compile_spelled.specs.c_typed_definition.specs.State.{State}
use Rattle.gg_compile_spelled.specs.c_typed_definition.specs.Signatures.{known}
use Rattle.gg_compile_spelled.specs.c_typed_definition.specs.Headings.{Text, with_declared}
use Rattle.gg_compile_spelled.specs.c_typed_definition.specs.Texts.{empty_text}
use Rattle.gg_compile_spelled.specs.c_typed_definition.specs.Bodies.{routine_of, entered_function}
use Rattle.gg_compile_spelled.specs.c_typed_law.specs.Texts.{IsBody, IsFunction, IsExternalBy, AreExternals, IsText}
use Rattle.gg_compile_counts.specs.Sizes.{row_size, routines_size, program_size, block_size}
use Rattle.gg_compile_counts.specs.Claims.{ProgramsAreSmall, TypedHaveFewLabels}
use Rattle.gg_compile_counts.proofs.Labels.{labels_are_few}
use Rattle.gg_compile_counts.proofs.Statements.{items_size}
use Rattle.gg_compile_counts.proofs.Stores.{AreStores, items_keep, parameters_store, stores_are_none}

size_behind : (gs : List ARoutine) (g : ARoutine) → routines_size (gs ++ g ∷ []) ≡ routines_size gs + (block_size g.block + row_size g.body)
size_behind [] g = omega arith
size_behind (x ∷ gs) g = let y = size_behind gs g in omega arith

-- the size of the functions so far
abbrev Done : Text → ℕ
Done t = routines_size t.bodies

declared_same : (earlier : Option ℕ) (spec : Spec) (f : AFunction) (t : Text) → Done (with_declared earlier spec f t) ≡ Done t
declared_same None spec f t = refl
declared_same (Some n) spec f t = refl

-- a block is counted with a brace of its function
block_few : (n : ℕ) → block_size n ≤ 1
block_few zero = omega arith
block_few (suc n) = omega arith

module _ (names : List (List ℕ × Entry)) (signatures : List Signature) where
  body_size : (spec : Spec) (f : AFunction) (o : Option SomeItems) (s : State) (t r : Text) → AreStores s.room.stores
      → IsBody names signatures spec f o s t r → (w : List Placed) → Done r + length w ≤ Done t + length (onto_body o w)
  body_size spec f None s t r all j w = let is = ap Done j in omega arith
  body_size spec f (Some row) s t r all j w =
      let y = j.part in
      let x = items_size names signatures (written spec f.stars) false row s y j.typed (sign marks.CloseBrace 0 ∷ w) in
      let is = ap Done j.whole.typed in
      let b : ARoutine = routine_of spec f y.1 y.0 in
      let more = size_behind t.bodies b in
      let stores = subst AreStores (sym (items_keep names signatures (written spec f.stars) false row s y j.typed)) all in
      let none = stores_are_none y.1.room.stores y.0 stores in
      let few = block_few (aligned y.1.room.length 4) in
      omega arith

  function_size : (spec : Spec) (f : AFunction) (t r : Text) → IsFunction names signatures spec f t r → (w : List Placed)
      → Done r + length w ≤ Done t + length (onto_declared (function f) w)
  function_size spec f t r j w =
      let k = j.whole.whole in
      let m = k.whole in
      let u : Text = with_declared j.part spec f t in
      let stores = parameters_store names signatures (is_some f.body) (params_in f.params) 0 (entered_function f u.state) k.part k.typed tt in
      let x = body_size spec f f.body k.part u r stores m.whole w in
      let same = declared_same j.part spec f t in
      let behind : List Placed = sign marks.CloseParenthesis 0 ∷ onto_body f.body w in
      omega (
        arith,
        longer_stars f.stars (onto_name f.name f.at (sign marks.OpenParenthesis f.opened ∷ onto_params f.params behind)),
        longer_some_params f.params behind,
      )

  external_size : (spec : Spec) (d : ADeclared) (t r : Text) → IsExternalBy names signatures spec d t r → (w : List Placed)
      → Done r + length w ≤ Done t + length (onto_declared d w)
  external_size spec (function f) t r j w = function_size spec f t r j w
  external_size spec (globals ds) t r j w =
      let is = ap Done j.whole in
      omega (arith, longer_declarators ds (sign marks.Semicolon 0 ∷ w))

  externals_size : (es : List AnExternal) (t r : Text) → AreExternals names signatures es t r → (w : List Placed)
      → Done r + length w ≤ Done t + length (onto_externals es w)
  externals_size [] t r j w = let is = ap Done j in omega arith
  externals_size (e ∷ es) t r j w =
      let v : List Placed = onto_externals es w in
      let x = external_size e.spec e.declared t j.part j.typed v in
      let y = externals_size es j.part r j.whole w in
      omega (arith, longer_static e.static_at (onto_spec e.spec (onto_declared e.declared v)), longer_spec e.spec (onto_declared e.declared v))

text_size : (p : AProgram) (text : List AnExternal) (ends : List ℕ) (end : ℕ) → IsText text ends end p → (w : List Placed)
    → program_size p + length w ≤ length (onto_externals text w)
unfolding IsText
text_size p text ends end j w =
    let x = externals_size (known text).names (known text).signatures text (empty_text ends) j.part j.typed w in
    let k = j.whole.whole in
    let is = ap program_size k.whole in
    omega arith

pub programs_are_small : ProgramsAreSmall
programs_are_small p unit ends typed =
    let x = text_size p unit.externals ends unit.end typed (record { kind = token.End; at = unit.end } ∷ []) in
    omega arith

pub typed_have_few_labels : TypedHaveFewLabels
typed_have_few_labels p unit ends tokens typed =
    let x = labels_are_few p in
    let y = programs_are_small p unit ends typed in
    let few = tokens.few in
    omega arith
