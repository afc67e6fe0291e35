-- Each function of a typed text keeps its own frame need.
use Rattle.std.proofs.Common.{◌≡◌, ℕ, zero, suc, ◌+◌, ◌<◌, false, List, [], ◌∷◌, ◌++◌, length, map, get_or, refl, sym, subst, Option, Some, None, Result, Ok, Err, arith}
use Rattle.std.specs.Prelude.{slice_get, is_some}
use Rattle.gg_base.proofs.Facts.{ok_same}
use Rattle.c_phrases.specs.declared.operator.Spec.{Spec}
use Rattle.c_phrases.specs.Units.{SomeItems, AFunction, ADeclared, function, globals, AnExternal}
use Rattle.c_types.specs.Answers.{Fault, ◌>>=◌}
use Rattle.c_typed_scope.specs.Layout.{Area}
use Rattle.c_typed_scope.specs.declared.entry.Entry.{Entry}
use Rattle.c_typed_scope.specs.declared.entry.Signature.{Signature}
use Rattle.c_program.specs.declared.program.Routine.{Routine}
use Rattle.c_program.specs.Programs.{ARoutine, AProgram, routine}
use Rattle.c_program.specs.Need.{need_of}
use Rattle.c_typed_statements.specs.c_typed_definition.specs.State.{State}
use Rattle.c_typed_expressions.specs.Phrases.{params_in}
use Rattle.c_typed_expressions.specs.Expressions.{integer_of, written}
use Rattle.c_typed_scope.specs.Scopes.{find}
use Rattle.c_typed_statements.specs.c_typed_definition.specs.Statements.{type_items}
use Rattle.c_typed_statements.specs.c_typed_definition.specs.Headings.{Text, with_declared, with_state, with_body}
use Rattle.c_typed_statements.specs.c_typed_definition.specs.Bodies.{fits_stack, end_in, routine_of, left_function}
use Rattle.c_typed_statements.specs.c_typed_definition.specs.Headings.{agrees, earlier_by, head_of, is_below}
use Rattle.c_typed_statements.specs.c_typed_definition.specs.Bodies.{entered_function}
use Rattle.c_typed_statements.specs.c_typed_definition.specs.Signatures.{signature_of, known}
use Rattle.c_typed_statements.specs.c_typed_definition.specs.Texts.{type_parameters, type_globals, type_body, type_introduced, type_function}
use Rattle.c_typed_statements.specs.c_typed_definition.specs.Texts.{type_declared, type_externals, any_block, stacked_if, main_of, whole_by, whole, type_text}
use Rattle.c_typed_statements.specs.c_typed_definition.specs.Texts.{empty_text}
use Rattle.c_typed_law.proofs.Law.{text_means}
use Rattle.c_typed_law.proofs.Declared.{declared_bodies}
use Rattle.c_typed_check.specs.Typed.{IsTypedUnit, need_in}
use Rattle.c_typed_check.proofs.Texts.{fine}

pub record KeepsNeed (r : ARoutine) : Type 0 where
  pub need_is : r.need ≡ need_of r.locals r.block r.body

abbrev pub AllKeep : List ARoutine → Type 0
AllKeep [] = Unit {0}
AllKeep (r ∷ rs) = KeepsNeed r × AllKeep rs

all_keep_more : (rs : List ARoutine) (r : ARoutine) → AllKeep rs → KeepsNeed r → AllKeep (rs ++ r ∷ [])
all_keep_more [] r keep one = (one, tt)
all_keep_more (x ∷ rs) r keep one = (keep.0, all_keep_more rs r keep.1 one)

-- the parts of an answer that is no fault
record Bound {A B : Type 0} (m : Result A Fault) (k : A → Result B Fault) (y : B) : Type 0 where
  pub part : A
  pub is : m ≡ Ok part
  pub rest : k part ≡ Ok y

bound : {A B : Type 0} (m : Result A Fault) (k : A → Result B Fault) (y : B) → (m >>= k) ≡ Ok y → Bound m k y
bound (Ok x) k y e = record { part = x; is = refl; rest = e }
bound (Err f) k y e = absurd (cc)

module _ (names : List (List ℕ × Entry)) (signatures : List Signature) where
  body_keeps : (spec : Spec) (f : AFunction) (row : Option SomeItems) (s : State) (t u : Text) → type_body names signatures spec f row s t ≡ Ok u → AllKeep t.bodies → AllKeep u.bodies
  body_keeps spec f None s t u typed keep = subst (λ x. AllKeep x.bodies) (ok_same _ _ typed) keep
  body_keeps spec f (Some row) s t u typed keep =
      let b = bound (type_items names signatures (written spec f.stars) false row s)
      (λ r. fits_stack (end_in t) r.1.room >>= λ ok. fine (with_body (routine_of spec f r.1 r.0) (with_state (left_function r.1) t))) u typed in
      let c = bound (fits_stack (end_in t) b.part.1.room) (λ ok. fine (with_body (routine_of spec f b.part.1 b.part.0) (with_state (left_function b.part.1) t))) u b.rest in
      subst (λ x. AllKeep x.bodies) (ok_same (with_body (routine_of spec f b.part.1 b.part.0) (with_state (left_function b.part.1) t)) u c.rest)
      (all_keep_more t.bodies (routine_of spec f b.part.1 b.part.0) keep (record { need_is = refl }))

  introduced_keeps : (earlier : Option ℕ) (spec : Spec) (f : AFunction) (t u : Text) → type_introduced names signatures earlier spec f t ≡ Ok u → AllKeep t.bodies → AllKeep u.bodies
  unfolding type_introduced
  introduced_keeps earlier spec f t u typed keep =
      let a = bound (type_parameters names signatures (is_some f.body) f.at (params_in f.params) 0 (entered_function f t.state))
      (λ s. agrees earlier t.declared (signature_of spec f) f.at >>= λ same. type_body names signatures spec f f.body s t) u typed in
      let b = bound (agrees earlier t.declared (signature_of spec f) f.at) (λ same. type_body names signatures spec f f.body a.part t) u a.rest in
      body_keeps spec f f.body a.part t u b.rest keep

  function_keeps : (spec : Spec) (f : AFunction) (t u : Text) → type_function names signatures spec f t ≡ Ok u → AllKeep t.bodies → AllKeep u.bodies
  unfolding type_function
  function_keeps spec f t u typed keep =
      let a = bound (earlier_by (find t.state.scope.here f.name) f.at) (λ earlier.
      head_of (is_some f.body) (is_below (find names f.name) (length t.bodies + 2)) (integer_of spec) f.stars f.at >>= λ ok.
      type_introduced names signatures earlier spec f (with_declared earlier spec f t)) u typed in
      let b = bound (head_of (is_some f.body) (is_below (find names f.name) (length t.bodies + 2)) (integer_of spec) f.stars f.at)
      (λ ok. type_introduced names signatures a.part spec f (with_declared a.part spec f t)) u a.rest in
      introduced_keeps a.part spec f (with_declared a.part spec f t) u b.rest (subst AllKeep (sym (declared_bodies a.part spec f t)) keep)

  declared_keeps : (spec : Spec) (d : ADeclared) (t u : Text) → type_declared names signatures spec d t ≡ Ok u → AllKeep t.bodies → AllKeep u.bodies
  declared_keeps spec (function f) t u typed keep = function_keeps spec f t u typed keep
  declared_keeps spec (globals ds) t u typed keep =
      let b = bound (type_globals names signatures spec ds t.state) (λ s. fine (with_state s t)) u typed in
      subst (λ x. AllKeep x.bodies) (ok_same (with_state b.part t) u b.rest) keep

  externals_keep : (es : List AnExternal) (t u : Text) → type_externals names signatures es t ≡ Ok u → AllKeep t.bodies → AllKeep u.bodies
  externals_keep [] t u typed keep = subst (λ x. AllKeep x.bodies) (ok_same _ _ typed) keep
  externals_keep (e ∷ es) t u typed keep =
      let b = bound (type_declared names signatures e.spec e.declared t) (λ next. type_externals names signatures es next) u typed in
      externals_keep es b.part u b.rest (declared_keeps e.spec e.declared t b.part b.is keep)

whole_keeps : (main : Option ℕ) (end : ℕ) (bodies : List ARoutine) (a : Area) (p : AProgram) → whole_by main end bodies a ≡ Ok p → AllKeep bodies → AllKeep p.routines
whole_keeps None end bodies a p typed keep = absurd (cc)
whole_keeps (Some n) end bodies a p typed keep = subst (λ x. AllKeep x.routines) (ok_same _ _ typed) keep

pub typed_keeps : (p : AProgram) → IsTypedUnit p → AllKeep p.routines
unfolding type_text
typed_keeps p given =
    let b = bound (type_externals (known given.unit.externals).names (known given.unit.externals).signatures given.unit.externals (empty_text given.ends))
    (λ t. whole given.unit.end t) p ((text_means given.unit.externals given.ends given.unit.end).only p given.typed) in
    let c = bound (stacked_if (any_block b.part.bodies) given.unit.end b.part.state.area) (λ a. whole_by (main_of b.part.bodies) given.unit.end b.part.bodies a) p b.rest in
    whole_keeps (main_of b.part.bodies) given.unit.end b.part.bodies c.part p c.rest (externals_keep (known given.unit.externals).names (known given.unit.externals).signatures
    given.unit.externals (empty_text given.ends) b.part b.is tt)

pub kept_need : (rs : List Routine) (n : ℕ) (d : Routine) → AllKeep (map routine rs) → n < length rs → (get_or rs n d).need ≡ need_in (slice_get (map routine rs) n)
kept_need [] n d keep lt = absurd (omega arith)
kept_need (r ∷ rs) zero d keep lt = keep.0.need_is
kept_need (r ∷ rs) (suc n) d keep lt = kept_need rs n d keep.1 (omega arith)
