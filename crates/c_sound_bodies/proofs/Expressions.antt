-- What holds of each expression because it holds of its parts holds of what expressions are typed as.
use Rattle.std.proofs.Common.{◌≡◌, ℕ, ◌+◌, ◌≤◌, ◌==◌, Bool, true, false, List, length, Option, Some, None, Result, Ok, Err, refl, sym, ap, ◌∙◌, arith}
use Rattle.std.specs.Prelude.{slice_get, if◌then◌else◌}
use Rattle.std.proofs.lemmas.Bool.{eqb-true}
use Rattle.c_types.specs.declared.typed.Variable.{Variable}
use Rattle.c_types.specs.declared.typed.Callee.{Callee}
use Rattle.c_types.specs.declared.typed.Moment.TheVariants as moments
use Rattle.c_tokens.specs.declared.token.Token.{Token}
use Rattle.c_types.specs.Answers.{Fault}
use Rattle.c_types.specs.Typed.{AnExpression, SomeExpressions, MoreExpressions, CallOf, type_of}
use Rattle.c_typed_operators.specs.Choices.{comma_of}
use Rattle.c_typed_scope.specs.declared.entry.Entry.{Entry}
use Rattle.c_typed_scope.specs.declared.entry.Entry.TheVariants as entries
use Rattle.c_typed_scope.specs.declared.entry.Signature.{Signature}
use Rattle.c_typed_scope.specs.Scopes.{Scope}
use Rattle.c_typed_scope.specs.Layout.{Area, literal}
use Rattle.c_phrases.specs.Phrases.{AnExp, name, number, str, paren, call, index, step_after, step_before, prefix}
use Rattle.c_phrases.specs.Phrases.{sizeof_exp, sizeof_type, cast, binary, choice, assign, comma, SomeExps, no_exps}
use Rattle.c_phrases.specs.Phrases.{exps}
use Rattle.c_typed_expressions.specs.Expressions.{written}
use Rattle.c_typed_expressions.specs.Calls.{callee_of, count, call_unless, called_by, called, unfit}
use Rattle.c_typed_expressions.specs.Relations.{IsNamed, NamesVariable, NamesArray, IsTyped, AreTyped}
use Rattle.c_sound.specs.Stands.{arguments}
use Rattle.c_typed_words.specs.Phrases.{ExpOf, ExpsOf}
use Rattle.c_sound_bodies.specs.States.{ScopeOf, Extends}
use Rattle.c_sound_bodies.proofs.ByParts.{Every, Closed}
use Rattle.c_sound_bodies.proofs.Rules.{binary_has, index_has, prefix_has, step_has, cast_has, sizeof_has, sizeof_type_has, choice_has, assign_has}
use Rattle.c_sound_bodies.proofs.Names.{found}
use Rattle.c_sound_bodies.proofs.Growth.{exp_extends, exps_extend, literal_adds}

-- Literals take room, and where an area ends there are so many objects at most.
pub record Room (objects : ℕ) (a b : Area) : Type 0 where
  pub laying : a.measuring ≡ false
  pub most : length b.objects ≤ objects

before : (objects : ℕ) (a m b : Area) → Extends m b → Room objects a b → Room objects a m
before objects a m b h r = record { laying = r.laying; most = omega arith }

behind : (objects : ℕ) (a m b : Area) → Extends a m → Room objects a b → Room objects m b
behind objects a m b h r = record { laying = h.measuring ∙ r.laying; most = r.most }

room_is : (objects : ℕ) (a b c : Area) → c ≡ b → Room objects a c → Room objects a b
room_is objects a b c is r = rw is at r

-- what a test that held let through
record Held {A : Type 0} (test : Bool) (m : Result A Fault) (u : A) : Type 0 where
  holds : test ≡ true
  rest : m ≡ Ok u

held : {A : Type 0} (test : Bool) (m : Result A Fault) (f : Fault) (u : A) → (if test then m else Err f) ≡ Ok u → Held test m u
held true m f u e = record { holds = refl; rest = e }
held false m f u e = absurd (cc)

module _ (T : Token → Type 0) (known : Variable → ℕ → Type 0) (calls : Callee → ℕ → Type 0) (objects : ℕ) (P : AnExpression → Type 0)
    (c : Closed T known calls objects P) where
  literal_has : (at : ℕ) (bytes : List ℕ) (a : Area) (t : AnExpression × Area) → literal at bytes a ≡ Ok t → Room objects a t.1 → P t.0
  literal_has at bytes a t e r =
      let l = literal_adds at bytes a t r.laying e in
      let most : length t.1.objects ≤ objects = r.most in
      let more : length t.1.objects ≡ length a.objects + 1 = l.objects in
      rw (l.is) (c.literal (length a.objects) l.size (omega arith) l.small)

  call_by_has : (o : Option ℕ) (s : Signature) (n : ℕ) (xs : SomeExpressions) (u : AnExpression) → call_unless o s n xs ≡ Ok u →
      calls (callee_of n) (length s.parameters) → arguments xs ≡ length s.parameters → Every P xs → P u
  call_by_has None s n xs u e defined many all = let is : u ≡ CallOf s.result (callee_of n) s.parameters xs = cc in
      rw is (c.call s.result (callee_of n) s.parameters xs defined many all)
  call_by_has (Some at) s n xs u e defined many all = absurd (cc)

  comma_has : (a : Area) (t x y : AnExpression × Area) → t ≡ (comma_of x.0 y.0, y.1) → Room objects a t.1 → Extends a x.1 → Extends x.1 y.1 →
      (Room objects a x.1 → P x.0) → (Room objects x.1 y.1 → P y.0) → P t.0
  unfolding comma_of
  comma_has a t x y is r h k p q =
      let last : Room objects a y.1 = rw is at r in
      rw is (c.comma (type_of y.0) x.0 y.0 (p (before objects a x.1 y.1 k last)) (q (behind objects a x.1 y.1 h last)))

  more_have : (a : Area) (t : SomeExpressions × Area) (x : AnExpression × Area) (xs : SomeExpressions × Area) → t ≡ (MoreExpressions x.0 xs.0, xs.1) →
      Room objects a t.1 → Extends a x.1 → Extends x.1 xs.1 → (Room objects a x.1 → P x.0) → (Room objects x.1 xs.1 → Every P xs.0) →
      Every P t.0
  more_have a t x xs is r h k p q =
      let last : Room objects a xs.1 = rw is at r in
      rw is (p (before objects a x.1 xs.1 k last), q (behind objects a x.1 xs.1 h last))

  module _ (names : List (List ℕ × Entry)) (signatures : List Signature) (scope : Scope) (in_scope : ScopeOf known scope)
      (defined : (n : ℕ) (s : Signature) → slice_get signatures n ≡ Some s → calls (callee_of n) (length s.parameters)) where
    named_has : (n : List ℕ) (t : AnExpression) → IsNamed names signatures scope n t → P t
    named_has n t (NamesVariable of v found_it is) = rw is (c.variable of v (found known scope n (entries.Variable of v) in_scope found_it))
    named_has n t (NamesArray of v size found_it is) = rw is (c.array of v size (found known scope n (entries.Array of v size) in_scope found_it))

    called_has : (o : Option Signature) (n opened : ℕ) (es : SomeExps) (xs : SomeExpressions) (u : AnExpression) → slice_get signatures n ≡ o →
        called_by o n opened es xs ≡ Ok u → arguments xs ≡ count es → Every P xs → P u
    called_has None n opened es xs u is e many all = absurd (cc)
    called_has (Some s) n opened es xs u is e many all =
        let h = held (length s.parameters == count es) _ _ u e in
        call_by_has (unfit s.parameters es xs) s n xs u h.rest (defined n s is)
        (many ∙ sym (eqb-true (length s.parameters) (count es) h.holds)) all

    call_has : (f : Option ℕ) (opened : ℕ) (es : SomeExps) (xs : SomeExpressions) (u : AnExpression) → called signatures f opened es xs ≡ Ok u →
        arguments xs ≡ count es → Every P xs → P u
    call_has None opened es xs u e many all = absurd (cc)
    call_has (Some n) opened es xs u e many all = called_has (slice_get signatures n) n opened es xs u refl e many all

    arguments_counted : (es : SomeExps) (a : Area) (t : SomeExpressions × Area) → AreTyped names signatures scope es a t → arguments t.0 ≡ count es
    arguments_counted no_exps a t j = rw j refl
    arguments_counted (exps e es) a t j =
        let k = j.whole in
        let rest : arguments k.part.0 ≡ count es = arguments_counted es j.part.1 k.part k.typed in
        let is : t.0 ≡ MoreExpressions j.part.0 k.part.0 = ap (λ (z : SomeExpressions × Area). z.0) k.whole in
        rw is (omega arith)

    mutual
      pub exp_has : (e : AnExp) → ExpOf T e → (a : Area) (t : AnExpression × Area) → IsTyped names signatures scope e a t → Room objects a t.1 → P t.0
      exp_has (name n at) w a t j r = named_has n t.0 j.typed
      exp_has (number v at) w a t j r = rw j (c.number v w)
      exp_has (str b at) w a t j r = literal_has at b a t j r
      exp_has (paren o e) w a t j r = exp_has e w a t j r
      exp_has (call n at o es) w a t j r =
          let k = j.whole in
          call_has j.part o es k.part.0 t.0 k.whole.typed (arguments_counted es a k.part k.typed)
          (exps_have es w.1 a k.part k.typed (room_is objects a k.part.1 t.1 k.whole.left r))
      exp_has (index e o i) w a t j r =
          let k = j.whole in
          let q = room_is objects a k.part.1 t.1 k.whole.left r in
          index_has T known calls objects P c o j.part.0 k.part.0 t.0 k.whole.typed
          (exp_has e w.0 a j.part j.typed (before objects a j.part.1 k.part.1 (exp_extends names signatures scope i j.part.1 k.part k.typed) q))
          (exp_has i w.1 j.part.1 k.part k.typed (behind objects a j.part.1 k.part.1 (exp_extends names signatures scope e a j.part j.typed) q))
      exp_has (step_after e op at) w a t j r = step_has T known calls objects P c moments.Before op at j.part.0 t.0 j.whole.typed
          (exp_has e w a j.part j.typed (room_is objects a j.part.1 t.1 j.whole.left r))
      exp_has (step_before op at e) w a t j r = step_has T known calls objects P c moments.After op at j.part.0 t.0 j.whole.typed
          (exp_has e w a j.part j.typed (room_is objects a j.part.1 t.1 j.whole.left r))
      exp_has (prefix op at e) w a t j r = prefix_has T known calls objects P c op at j.part.0 t.0 j.whole.typed
          (exp_has e w a j.part j.typed (room_is objects a j.part.1 t.1 j.whole.left r))
      exp_has (sizeof_exp at e) w a t p r = let j = p.1 in sizeof_has T known calls objects P c at j.part.0 t.0 j.whole.typed
          (exp_has e w a j.part j.typed (room_is objects a j.part.1 t.1 j.whole.left r))
      exp_has (sizeof_type at o of) w a t j r = sizeof_type_has T known calls objects P c at (written of.spec of.stars) t.0 j.typed
      exp_has (cast o to e) w a t j r = cast_has T known calls objects P c o (written to.spec to.stars) j.part.0 t.0 j.whole.typed
          (exp_has e w a j.part j.typed (room_is objects a j.part.1 t.1 j.whole.left r))
      exp_has (binary x op at y) w a t j r =
          let k = j.whole in
          let q = room_is objects a k.part.1 t.1 k.whole.left r in
          binary_has T known calls objects P c op j.part.0 k.part.0 t.0 k.whole.typed
          (exp_has x w.0 a j.part j.typed (before objects a j.part.1 k.part.1 (exp_extends names signatures scope y j.part.1 k.part k.typed) q))
          (exp_has y w.1 j.part.1 k.part k.typed (behind objects a j.part.1 k.part.1 (exp_extends names signatures scope x a j.part j.typed) q))
      exp_has (choice z at e d) w a t j r =
          let k = j.whole in
          let m = k.whole in
          let q = room_is objects a m.part.1 t.1 m.whole.left r in
          let u = before objects a k.part.1 m.part.1 (exp_extends names signatures scope d k.part.1 m.part m.typed) q in
          let first = exp_extends names signatures scope z a j.part j.typed in
          let second = exp_extends names signatures scope e j.part.1 k.part k.typed in
          choice_has T known calls objects P c at j.part.0 k.part.0 m.part.0 t.0 m.whole.typed
          (exp_has z w.0 a j.part j.typed (before objects a j.part.1 k.part.1 second u))
          (exp_has e w.1 j.part.1 k.part k.typed (behind objects a j.part.1 k.part.1 first u))
          (exp_has d w.2 k.part.1 m.part m.typed (behind objects j.part.1 k.part.1 m.part.1 second
          (behind objects a j.part.1 m.part.1 first q)))
      exp_has (assign x op at y) w a t j r =
          let k = j.whole in
          let q = room_is objects a k.part.1 t.1 k.whole.left r in
          assign_has T known calls objects P c op at j.part.0 k.part.0 t.0 k.whole.typed
          (exp_has x w.0 a j.part j.typed (before objects a j.part.1 k.part.1 (exp_extends names signatures scope y j.part.1 k.part k.typed) q))
          (exp_has y w.1 j.part.1 k.part k.typed (behind objects a j.part.1 k.part.1 (exp_extends names signatures scope x a j.part j.typed) q))
      exp_has (comma x y) w a t j r = comma_has a t j.part j.whole.part j.whole.whole r
          (exp_extends names signatures scope x a j.part j.typed) (exp_extends names signatures scope y j.part.1 j.whole.part j.whole.typed)
          (exp_has x w.0 a j.part j.typed) (exp_has y w.1 j.part.1 j.whole.part j.whole.typed)

      pub exps_have : (es : SomeExps) → ExpsOf T es → (a : Area) (t : SomeExpressions × Area) → AreTyped names signatures scope es a t → Room objects a t.1 →
          Every P t.0
      exps_have no_exps w a t j r = rw j tt
      exps_have (exps e es) w a t j r = more_have a t j.part j.whole.part j.whole.whole r
          (exp_extends names signatures scope e a j.part j.typed)
          (exps_extend names signatures scope es j.part.1 j.whole.part j.whole.typed)
          (exp_has e w.0 a j.part j.typed) (exps_have es w.1 j.part.1 j.whole.part j.whole.typed)
