-- The functions of a typed text have names of the grammar.
use Rattle.std.proofs.Common.{◌≡◌, ℕ, zero, suc, List, [], ◌∷◌, ◌++◌, Some, sym, ap, subst}
use Rattle.std.specs.Prelude.{slice_get, Option, None}
use Rattle.c_phrases.specs.declared.operator.Spec.{Spec}
use Rattle.c_phrases.specs.Units.{SomeItems, AFunction, ADeclared, function, globals, AnExternal}
use Rattle.c_program.specs.Programs.{ARoutine, AProgram}
use Rattle.c_typed_scope.specs.declared.entry.Entry.{Entry}
use Rattle.c_typed_scope.specs.declared.entry.Signature.{Signature}
use Rattle.c_typed_law.specs.c_typed_definition.specs.State.{State}
use Rattle.c_typed_law.specs.c_typed_definition.specs.Signatures.{known}
use Rattle.c_typed_law.specs.c_typed_definition.specs.Headings.{Text, with_declared}
use Rattle.c_typed_law.specs.c_typed_definition.specs.Bodies.{routine_of}
use Rattle.c_typed_law.specs.c_typed_definition.specs.Texts.{empty_text}
use Rattle.c_typed_law.specs.Texts.{IsBody, IsFunction, IsExternalBy, AreExternals, IsText}
use Rattle.c_typed_words.specs.Words.{IsName, IsToken}
use Rattle.c_typed_words.specs.Phrases.{DeclaredOf, ExternalsOf}
use Rattle.c_typed_words.proofs.Spelled.{tokens_of}
use Rattle.gg_compile_spelled.specs.Claims.{TypedHaveNames}

abbrev AreNamed : List ARoutine → Type 0
AreNamed [] = Unit {0}
AreNamed (g ∷ gs) = IsName g.name × AreNamed gs

named_behind : (gs : List ARoutine) (g : ARoutine) → AreNamed gs → IsName g.name → AreNamed (gs ++ g ∷ [])
named_behind [] g h k = (k, tt)
named_behind (x ∷ gs) g h k = (h.0, named_behind gs g h.1 k)

named_at : (gs : List ARoutine) → AreNamed gs → (n : ℕ) (g : ARoutine) → slice_get gs n ≡ Some g → IsName g.name
named_at [] h n g e = absurd (cc)
named_at (x ∷ gs) h zero g e =
    let same : x ≡ g = cc in
    subst (λ (y : ARoutine). IsName y.name) same h.0
named_at (x ∷ gs) h (suc n) g e = named_at gs h.1 n g e

module _ (names : List (List ℕ × Entry)) (signatures : List Signature) where
  body_named : (spec : Spec) (f : AFunction) (o : Option SomeItems) (s : State) (u r : Text) → IsBody names signatures spec f o s u r
      → IsName f.name → AreNamed u.bodies → AreNamed r.bodies
  body_named spec f None s u r j k h = subst AreNamed (sym (ap (λ (z : Text). z.bodies) j)) h
  body_named spec f (Some row) s u r j k h =
      let x = j.part in
      let b : ARoutine = routine_of spec f x.1 x.0 in
      let bodies : r.bodies ≡ u.bodies ++ b ∷ [] = ap (λ (z : Text). z.bodies) j.whole.typed in
      subst AreNamed (sym bodies) (named_behind u.bodies b h k)

  declared_named : (earlier : Option ℕ) (spec : Spec) (f : AFunction) (t : Text) → AreNamed t.bodies
      → AreNamed (with_declared earlier spec f t).bodies
  declared_named None spec f t h = h
  declared_named (Some n) spec f t h = h

  function_named : (spec : Spec) (f : AFunction) (t r : Text) → IsName f.name → AreNamed t.bodies → IsFunction names signatures spec f t r
      → AreNamed r.bodies
  function_named spec f t r k h j =
      let m = j.whole.whole in
      let q = m.whole in
      body_named spec f f.body m.part (with_declared j.part spec f t) r q.whole k (declared_named j.part spec f t h)

  external_named : (spec : Spec) (d : ADeclared) → DeclaredOf IsToken d → (t r : Text) → AreNamed t.bodies
      → IsExternalBy names signatures spec d t r → AreNamed r.bodies
  external_named spec (function f) w t r h j = function_named spec f t r w.0 h j
  external_named spec (globals ds) w t r h j = subst AreNamed (sym (ap (λ (z : Text). z.bodies) j.whole)) h

  externals_named : (es : List AnExternal) → ExternalsOf IsToken es → (t r : Text) → AreNamed t.bodies → AreExternals names signatures es t r
      → AreNamed r.bodies
  externals_named [] w t r h j = subst AreNamed (sym (ap (λ (z : Text). z.bodies) j)) h
  externals_named (e ∷ es) w t r h j =
      externals_named es w.1 j.part r (external_named e.spec e.declared w.0 t j.part h j.typed) j.whole

text_named : (p : AProgram) (text : List AnExternal) (ends : List ℕ) (end : ℕ) → ExternalsOf IsToken text → IsText text ends end p → AreNamed p.routines
unfolding IsText
text_named p text ends end w j =
    let named = externals_named (known text).names (known text).signatures text w (empty_text ends) j.part tt j.typed in
    let k = j.whole.whole in
    subst AreNamed (sym (ap (λ (x : AProgram). x.routines) k.whole)) named

pub typed_have_names : TypedHaveNames
typed_have_names p unit ends tokens typed n g e =
    named_at p.routines (text_named p unit.externals ends unit.end (tokens_of unit tokens) typed) n g e
