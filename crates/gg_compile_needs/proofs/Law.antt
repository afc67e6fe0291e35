-- Each function of a typed program needs little, and there are few.
use Rattle.std.proofs.Common.{◌≡◌, ℕ, zero, suc, ◌+◌, ◌*◌, ◌≤◌, Bool, List, [], ◌∷◌, ◌++◌, length, Option, Some, None, refl, ap, sym, subst, arith, true, false}
use Rattle.std.specs.Prelude.{slice_get, is_some, if◌then◌else◌}
use Rattle.std.proofs.lemmas.List.{length-append}
use Rattle.c_syntax.proofs.UnitLaws.{longer_declared}
use Rattle.c_tokens.specs.declared.token.Token.TheVariants as token
use Rattle.c_phrases.specs.declared.operator.Spec.{Spec}
use Rattle.c_phrases.specs.declared.tree.Named.{Named}
use Rattle.c_phrases.specs.Classes.{Placed}
use Rattle.c_phrases.specs.Units.{SomeItems, AParam, AFunction, ADeclared, function, globals, AnExternal}
use Rattle.c_phrases.specs.UnitSpelling.{onto_body, onto_declared, onto_externals}
use Rattle.c_types.specs.declared.types.CType.{CType}
use Rattle.c_types.specs.Types.{size_of}
use Rattle.c_types.specs.declared.typed.Variable.TheVariants as variables
use Rattle.c_program.specs.Need.{need_of}
use Rattle.c_program.specs.Programs.{ARoutine, AProgram}
use Rattle.c_typed_scope.specs.declared.entry.Entry.{Entry}
use Rattle.c_typed_scope.specs.declared.entry.Signature.{Signature}
use Rattle.c_typed_scope.specs.declared.entry.Entry.TheVariants as entries
use Rattle.c_typed_scope.specs.Layout.{aligned}
use Rattle.c_typed_expressions.specs.Phrases.{params_in}
use Rattle.c_typed_expressions.specs.Expressions.{written}
use Rattle.c_typed_definition.specs.State.{State, with_area, with_room, named_state}
use Rattle.c_typed_definition.specs.Headings.{Text, with_parameter, with_declared}
use Rattle.c_typed_definition.specs.Bodies.{entered_function, routine_of}
use Rattle.c_typed_definition.specs.Signatures.{known, parameter_type}
use Rattle.c_typed_definition.specs.Texts.{empty_text}
use Rattle.c_typed_definition.specs.Rooms.{offset_in, is_parameter_addressed, with_parameter_in}
use Rattle.c_typed_law.specs.Texts.{AreParameters, IsBody, IsFunction, IsExternalBy, AreExternals, IsText}
use Rattle.c_typed_law.proofs.Declared.{declared_bodies}
use Rattle.gg_compile_counts.specs.gg_compile_spelled.specs.Claims.{NeedAtMost}
use Rattle.gg_compile_counts.specs.gg_compile_spelled.proofs.Locals.{locals_are_few}
use Rattle.gg_compile_counts.proofs.Law.{typed_have_few_labels}
use Rattle.gg_compile_counts.proofs.Stores.{AreStores, items_keep, parameters_store}
use Rattle.gg_compile_needs.specs.Claims.{CountsFit}
use Rattle.gg_compile_needs.proofs.Locals.{Count}
use Rattle.gg_compile_needs.proofs.Units.{function_takes, external_takes}
use Rattle.gg_compile_needs.proofs.Needs.{stored_need}
use Rattle.c_sound_texts.proofs.Law.{typed_is_sound}

-- ---- parameters are no automatic locals

parameter_by : (in_memory : Bool) (n : List ℕ) (t : CType) (k : ℕ) (s : State) → Count (if in_memory
    then with_room (with_parameter_in t k s.room) (named_state n (entries.Variable t (variables.InBlock (offset_in (size_of t) s.room))) s)
    else named_state n (entries.Variable t (variables.Parameter k)) s) ≡ Count s
parameter_by true n t k s = refl
parameter_by false n t k s = refl

parameter_keeps : (o : Option Named) (t : CType) (n : ℕ) (s : State) → Count (with_parameter o t n s) ≡ Count s
parameter_keeps None t n s = refl
parameter_keeps (Some name) t n s = parameter_by (is_parameter_addressed n s.room) name.name t n s

-- ---- functions, each of which needs at most four longwords for each token before the end

abbrev Little : ℕ → ARoutine → Type 0
Little m g = need_of g.locals g.block g.body + 4 ≤ 4 * m

abbrev AllLittle : ℕ → List ARoutine → Type 0
AllLittle m [] = Unit {0}
AllLittle m (g ∷ gs) = Little m g × AllLittle m gs

little_behind : (m : ℕ) (gs : List ARoutine) (g : ARoutine) → AllLittle m gs → Little m g → AllLittle m (gs ++ g ∷ [])
little_behind m [] g all one = (one, tt)
little_behind m (x ∷ gs) g all one = (all.0, little_behind m gs g all.1 one)

little_at : (m : ℕ) (gs : List ARoutine) → AllLittle m gs → (n : ℕ) (g : ARoutine) → slice_get gs n ≡ Some g → Little m g
little_at m [] all n g there = absurd (cc)
little_at m (x ∷ gs) all zero g there = subst (Little m) (let same : x ≡ g = cc in same) all.0
little_at m (x ∷ gs) all (suc n) g there = little_at m gs all.1 n g there

-- how many functions are typed so far
abbrev Done : Text → ℕ
Done t = length t.bodies

module _ (names : List (List ℕ × Entry)) (signatures : List Signature) where
  parameters_keep : (defines : Bool) (ps : List AParam) (n : ℕ) (s r : State) → AreParameters names signatures defines ps n s r → Count r ≡ Count s
  parameters_keep defines [] n s r j = ap Count j
  parameters_keep defines (p ∷ ps) n s r j =
      let k = j.typed.whole in
      let same = parameter_keeps p.name (parameter_type p) n (with_area k.part s) in
      let is = ap Count k.whole in
      let rest = parameters_keep defines ps (n + 1) j.part r j.whole in
      omega arith

  body_little : (spec : Spec) (f : AFunction) (o : Option SomeItems) (s : State) (t r : Text) → IsBody names signatures spec f o s t r
      → Count s ≡ 0 → AreStores s.room.stores → (m : ℕ) (w : List Placed) → 2 + length (onto_body o w) ≤ m → AllLittle m t.bodies
      → AllLittle m r.bodies
  body_little spec f None s t r j none stores m w most all = subst (λ (x : Text). AllLittle m x.bodies) (sym j) all
  body_little spec f (Some row) s t r j none stores m w most all =
      let y = j.part in
      let b : ARoutine = routine_of spec f y.1 y.0 in
      let kept = subst AreStores (sym (items_keep names signatures (written spec f.stars) false row s y j.typed)) stores in
      let x = stored_need names signatures (written spec f.stars) row s y j.typed none (aligned y.1.room.length 4) w y.1.room.stores kept in
      subst (λ (x : Text). AllLittle m x.bodies) (sym j.whole.typed) (little_behind m t.bodies b all (omega arith))

  body_done : (spec : Spec) (f : AFunction) (o : Option SomeItems) (s : State) (t r : Text) → IsBody names signatures spec f o s t r
      → Done r ≤ 1 + Done t
  body_done spec f None s t r j = let is = ap Done j in omega arith
  body_done spec f (Some row) s t r j =
      let is = ap Done j.whole.typed in
      let one = length-append t.bodies (routine_of spec f j.part.1 j.part.0 ∷ []) in
      omega arith

  function_little : (spec : Spec) (f : AFunction) (t r : Text) → IsFunction names signatures spec f t r → (m : ℕ) (w : List Placed)
      → length (onto_declared (function f) w) ≤ m → AllLittle m t.bodies → AllLittle m r.bodies
  function_little spec f t r j m w most all =
      let k = j.whole.whole in
      let u : Text = with_declared j.part spec f t in
      let zero_locals : Count k.part ≡ 0 = parameters_keep (is_some f.body) (params_in f.params) 0 (entered_function f u.state) k.part k.typed in
      let stores = parameters_store names signatures (is_some f.body) (params_in f.params) 0 (entered_function f u.state) k.part k.typed tt in
      let takes = function_takes f w in
      body_little spec f f.body k.part u r k.whole.whole zero_locals stores m w (omega arith)
      (subst (AllLittle m) (sym (declared_bodies j.part spec f t)) all)

  function_done : (spec : Spec) (f : AFunction) (t r : Text) → IsFunction names signatures spec f t r → Done r ≤ 1 + Done t
  function_done spec f t r j =
      let k = j.whole.whole in
      let x = body_done spec f f.body k.part (with_declared j.part spec f t) r k.whole.whole in
      let same = ap (λ (gs : List ARoutine). length gs) (declared_bodies j.part spec f t) in
      omega arith

  external_little : (spec : Spec) (d : ADeclared) (t r : Text) → IsExternalBy names signatures spec d t r → (m : ℕ) (w : List Placed)
      → length (onto_declared d w) ≤ m → AllLittle m t.bodies → AllLittle m r.bodies
  external_little spec (function f) t r j m w most all = function_little spec f t r j m w most all
  external_little spec (globals ds) t r j m w most all = subst (λ (x : Text). AllLittle m x.bodies) (sym j.whole) all

  external_done : (spec : Spec) (d : ADeclared) (t r : Text) → IsExternalBy names signatures spec d t r → Done r ≤ 1 + Done t
  external_done spec (function f) t r j = function_done spec f t r j
  external_done spec (globals ds) t r j = let is = ap Done j.whole in omega arith

  externals_little : (es : List AnExternal) (t r : Text) → AreExternals names signatures es t r → (m : ℕ) (w : List Placed)
      → length (onto_externals es w) ≤ m → AllLittle m t.bodies → AllLittle m r.bodies
  externals_little [] t r j m w most all = subst (λ (x : Text). AllLittle m x.bodies) (sym j) all
  externals_little (e ∷ es) t r j m w most all =
      let v : List Placed = onto_externals es w in
      let first = external_takes e v in
      let longer = longer_declared e.declared v in
      externals_little es j.part r j.whole m w (omega arith) (external_little e.spec e.declared t j.part j.typed m v (omega arith) all)

  externals_done : (es : List AnExternal) (t r : Text) → AreExternals names signatures es t r → (w : List Placed)
      → Done r + length w ≤ Done t + length (onto_externals es w)
  externals_done [] t r j w = let is = ap Done j in omega arith
  externals_done (e ∷ es) t r j w =
      let v : List Placed = onto_externals es w in
      let one = external_done e.spec e.declared t j.part j.typed in
      let x = externals_done es j.part r j.whole w in
      let first = external_takes e v in
      let longer = longer_declared e.declared v in
      omega arith

text_little : (p : AProgram) (text : List AnExternal) (ends : List ℕ) (end : ℕ) → IsText text ends end p → (m : ℕ) (w : List Placed)
    → length (onto_externals text w) ≤ m → AllLittle m p.routines
unfolding IsText
text_little p text ends end j m w most =
    let all = externals_little (known text).names (known text).signatures text (empty_text ends) j.part j.typed m w most tt in
    let k = j.whole.whole in
    subst (λ (x : AProgram). AllLittle m x.routines) (sym k.whole) all

text_done : (p : AProgram) (text : List AnExternal) (ends : List ℕ) (end : ℕ) → IsText text ends end p → (w : List Placed)
    → length p.routines + length w ≤ length (onto_externals text w)
unfolding IsText
text_done p text ends end j w =
    let x = externals_done (known text).names (known text).signatures text (empty_text ends) j.part j.typed w in
    let k = j.whole.whole in
    let is = ap (λ (x : AProgram). length x.routines) k.whole in
    omega arith

pub counts_fit : CountsFit
counts_fit p unit ends tokens typed =
    let end : List Placed = record { kind = token.End; at = unit.end } ∷ [] in
    let all = text_little p unit.externals ends unit.end typed 1048577 end tokens.few in
    let needs : NeedAtMost p 4194304 = λ n g there. (let x = little_at 1048577 p.routines all n g there in omega arith) in
    let done = text_done p unit.externals ends unit.end typed end in
    let few = tokens.few in
    record {
      functions = omega arith;
      labels = typed_have_few_labels p unit ends tokens typed;
      needs = needs;
      temporaries = locals_are_few p 4194304 (typed_is_sound p unit ends tokens typed) needs;
    }
