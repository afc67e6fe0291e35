-- What expressions do to the data area: they add literals.
use Rattle.std.proofs.Common.{[], ◌∷◌, ◌++◌, ◌≡◌, ℕ, ◌+◌, Bool, true, false, List, length, ◌≤◌, ◌<◌, ◌^◌, Result, Ok, Err, refl, ap, ◌∙◌, length-append, arith}
use Rattle.std.proofs.lemmas.Bool.Decides.{nat_tests}
use Rattle.std.specs.Prelude.{nat_lt, if◌then◌else◌}
use Rattle.tree_core.specs.declared.program.Object.{Object}
use Rattle.c_tokens.specs.declared.token.Token.{Token}
use Rattle.c_tokens.specs.declared.token.Token.TheVariants as token
use Rattle.c_types.specs.Answers.{Fault, ◌>>=◌}
use Rattle.c_types.specs.Typed.{AnExpression, SomeExpressions, LiteralAt}
use Rattle.c_typed_scope.specs.declared.entry.Entry.{Entry}
use Rattle.c_typed_scope.specs.declared.entry.Signature.{Signature}
use Rattle.c_typed_scope.specs.Scopes.{Scope}
use Rattle.c_typed_scope.specs.Layout.{Area, aligned, with_object, placed, one_more_literal, literal}
use Rattle.c_phrases.specs.Phrases.{AnExp, name, number, str, paren, call, index, step_after, step_before, prefix}
use Rattle.c_phrases.specs.Phrases.{sizeof_exp, sizeof_type, cast, binary, choice, assign, comma, SomeExps, no_exps}
use Rattle.c_phrases.specs.Phrases.{exps}
use Rattle.c_typed_expressions.specs.Relations.{Beside, IsTyped, AreTyped}
use Rattle.c_typed_words.specs.Phrases.{ExpOf, ExpsOf}
use Rattle.c_typed_words.proofs.Any.{AnyToken, any_exp, any_exps}
use Rattle.c_sound_bodies.specs.States.{Extends}

-- a relation between data areas that holds where nothing is added, across what holds it, and where a literal is added of which something holds
pub record Laying (T : Token → Type 0) (R : Area → Area → Type 0) : Type 0 where
  pub same : (a : Area) → R a a
  pub further : (a b c : Area) → R a b → R b c → R a c
  pub literal : (at : ℕ) (bytes : List ℕ) (a : Area) (t : AnExpression × Area) → T (token.Str bytes) → literal at bytes a ≡ Ok t → R a t.1

module _ (T : Token → Type 0) (R : Area → Area → Type 0) (l : Laying T R) where
  beside_lays : (Q : AnExpression → Type 0) (a b : Area) (t : AnExpression × Area) → R a b → Beside b Q t → R a t.1
  beside_lays Q a b t h w = rw (w.left) h

  module _ (names : List (List ℕ × Entry)) (signatures : List Signature) (scope : Scope) where
    mutual
      -- then it holds across expressions
      pub exp_lays : (e : AnExp) → ExpOf T e → (a : Area) (t : AnExpression × Area) → IsTyped names signatures scope e a t → R a t.1
      exp_lays (name n at) w a t j = beside_lays _ a a t (l.same a) j
      exp_lays (number v at) w a t j = rw j (l.same a)
      exp_lays (str b at) w a t j = l.literal at b a t w j
      exp_lays (paren o e) w a t j = exp_lays e w a t j
      exp_lays (call n at o es) w a t j = let k = j.whole in beside_lays _ a k.part.1 t (exps_lay es w.1 a k.part k.typed) k.whole
      exp_lays (index e o i) w a t j = let k = j.whole in beside_lays _ a k.part.1 t
          (l.further a j.part.1 k.part.1 (exp_lays e w.0 a j.part j.typed) (exp_lays i w.1 j.part.1 k.part k.typed)) k.whole
      exp_lays (step_after e op at) w a t j = beside_lays _ a j.part.1 t (exp_lays e w a j.part j.typed) j.whole
      exp_lays (step_before op at e) w a t j = beside_lays _ a j.part.1 t (exp_lays e w a j.part j.typed) j.whole
      exp_lays (prefix op at e) w a t j = beside_lays _ a j.part.1 t (exp_lays e w a j.part j.typed) j.whole
      exp_lays (sizeof_exp at e) w a t p = let j = p.1 in beside_lays _ a j.part.1 t (exp_lays e w a j.part j.typed) j.whole
      exp_lays (sizeof_type at o of) w a t j = beside_lays _ a a t (l.same a) j
      exp_lays (cast o to e) w a t j = beside_lays _ a j.part.1 t (exp_lays e w a j.part j.typed) j.whole
      exp_lays (binary x op at y) w a t j = let k = j.whole in
          beside_lays _ a k.part.1 t (l.further a j.part.1 k.part.1 (exp_lays x w.0 a j.part j.typed)
          (exp_lays y w.1 j.part.1 k.part k.typed)) k.whole
      exp_lays (choice c at e d) w a t j =
          let k = j.whole in
          let m = k.whole in
          beside_lays _ a m.part.1 t
          (l.further a k.part.1 m.part.1 (l.further a j.part.1 k.part.1 (exp_lays c w.0 a j.part j.typed)
          (exp_lays e w.1 j.part.1 k.part k.typed)) (exp_lays d w.2 k.part.1 m.part m.typed)) m.whole
      exp_lays (assign p op at v) w a t j = let k = j.whole in
          beside_lays _ a k.part.1 t (l.further a j.part.1 k.part.1 (exp_lays p w.0 a j.part j.typed)
          (exp_lays v w.1 j.part.1 k.part k.typed)) k.whole
      exp_lays (comma x y) w a t j = let k = j.whole in rw (k.whole)
          (l.further a j.part.1 k.part.1 (exp_lays x w.0 a j.part j.typed) (exp_lays y w.1 j.part.1 k.part k.typed))

      pub exps_lay : (es : SomeExps) → ExpsOf T es → (a : Area) (t : SomeExpressions × Area) → AreTyped names signatures scope es a t → R a t.1
      exps_lay no_exps w a t j = rw j (l.same a)
      exps_lay (exps e es) w a t j = let k = j.whole in rw (k.whole)
          (l.further a j.part.1 k.part.1 (exp_lays e w.0 a j.part j.typed) (exps_lay es w.1 j.part.1 k.part k.typed))

-- an object that is placed is the last
pub record Added (a : Area) (r : ℕ × Area) : Type 0 where
  pub number : r.0 ≡ length a.objects
  pub last : Object
  pub is : r.1.objects ≡ a.objects ++ last ∷ []
  pub objects : length r.1.objects ≡ length a.objects + 1
  pub measuring : r.1.measuring ≡ a.measuring

passed_by : {A : Type 0} (test : Bool) (f : Fault) (m : Result A Fault) (u : A) → (if test then Err f else m) ≡ Ok u → m ≡ Ok u
passed_by true f m u e = absurd (cc)
passed_by false f m u e = e

-- the object that is placed
abbrev pub placed_object : List ℕ → ℕ → ℕ → List ℕ → Area → Object
placed_object label align size bytes a =
    record { label = label; address = aligned a.end align; size = size; align = align; bytes = bytes; links = [] }

added_is : (label : List ℕ) (align size : ℕ) (bytes : List ℕ) (a : Area) (r : ℕ × Area) →
    r ≡ (length a.objects, with_object label align size bytes a) → Added a r
added_is label align size bytes a r is = rw is (record {
  number = refl;
  last = placed_object label align size bytes a;
  is = refl;
  objects = length-append a.objects _;
  measuring = refl;
})

few_by : (test : Bool) (n : ℕ) (m : Result (ℕ × Area) Fault) (f : Fault) (r : ℕ × Area) → test ≡ nat_lt 1114112 n → (if test then Err f else m) ≡ Ok r →
    n ≤ 1114112
few_by true n m f r is e = absurd (cc)
few_by false n m f r is e = grind (arith, nat_tests)

-- an object that is placed lies in the data area
pub placed_small : (at : ℕ) (label : List ℕ) (align size : ℕ) (bytes : List ℕ) (a : Area) (r : ℕ × Area) →
    placed at label align size bytes a ≡ Ok r → size ≤ 1114112
unfolding placed
placed_small at label align size bytes a r e =
    let most = few_by (nat_lt 1114112 (aligned a.end align + size)) (aligned a.end align + size) _ _ r refl e in
    omega arith

pub placed_adds : (at : ℕ) (label : List ℕ) (align size : ℕ) (bytes : List ℕ) (a : Area) (r : ℕ × Area) →
    placed at label align size bytes a ≡ Ok r → Added a r
unfolding placed
placed_adds at label align size bytes a r e =
    let passed : Ok (length a.objects, with_object label align size bytes a) ≡ Ok r =
    passed_by (nat_lt 1114112 (aligned a.end align + size)) _ _ r e in
    added_is label align size bytes a r (cc)

-- a literal that takes room is the last object
pub record LiteralAdded (a : Area) (t : AnExpression × Area) : Type 0 where
  pub size : ℕ
  pub is : t.0 ≡ LiteralAt (length a.objects) size
  pub small : size < 2 ^ 32
  pub objects : length t.1.objects ≡ length a.objects + 1

literal_is : (size : ℕ) (a : Area) (r : ℕ × Area) (t : AnExpression × Area) → size ≤ 1114112 → Added a r → t ≡ (LiteralAt r.0 size, one_more_literal r.1) →
    LiteralAdded a t
literal_is size a r t small h is = rw is (record { size = size; small = omega arith; is = ap (λ n. LiteralAt n size) h.number; objects = h.objects })

literal_by : (measures : Bool) (m : Result (ℕ × Area) Fault) (size : ℕ) (a : Area) (t : AnExpression × Area) → measures ≡ false →
    (if measures then Ok (LiteralAt 0 size, a) else (m >>= λ r. Ok (LiteralAt r.0 size, one_more_literal r.1))) ≡ Ok t →
    ((r : ℕ × Area) → m ≡ Ok r → (size ≤ 1114112) × Added a r) → LiteralAdded a t
literal_by true m size a t free e h = absurd (cc)
literal_by false (Ok r) size a t free e h = let k = h r refl in literal_is size a r t k.0 k.1 (cc)
literal_by false (Err f) size a t free e h = absurd (cc)

pub literal_adds : (at : ℕ) (bytes : List ℕ) (a : Area) (t : AnExpression × Area) → a.measuring ≡ false → literal at bytes a ≡ Ok t →
    LiteralAdded a t
unfolding literal
literal_adds at bytes a t free e =
    literal_by a.measuring _ (length bytes + 1) a t free e (λ r is. (placed_small _ _ _ _ _ a r is, placed_adds _ _ _ _ _ a r is))

pub extends_same : (a : Area) → Extends a a
extends_same a = record { objects = omega arith; measuring = refl }

pub extends_further : (a b c : Area) → Extends a b → Extends b c → Extends a c
extends_further a b c h k = record { objects = omega arith; measuring = k.measuring ∙ h.measuring }

added_extends : (size : ℕ) (a : Area) (t : AnExpression × Area) (r : ℕ × Area) → Added a r → t ≡ (LiteralAt r.0 size, one_more_literal r.1) →
    Extends a t.1
added_extends size a t r h is =
    let more : length r.1.objects ≡ length a.objects + 1 = h.objects in
    rw is (record { objects = omega arith; measuring = h.measuring })

unchanged : (size : ℕ) (a : Area) (t : AnExpression × Area) → t ≡ (LiteralAt 0 size, a) → Extends a t.1
unchanged size a t is = rw is (extends_same a)

literal_longer : (measures : Bool) (m : Result (ℕ × Area) Fault) (size : ℕ) (a : Area) (t : AnExpression × Area) →
    (if measures then Ok (LiteralAt 0 size, a) else (m >>= λ r. Ok (LiteralAt r.0 size, one_more_literal r.1))) ≡ Ok t →
    ((r : ℕ × Area) → m ≡ Ok r → Added a r) → Extends a t.1
literal_longer true m size a t e h = unchanged size a t (cc)
literal_longer false (Ok r) size a t e h = added_extends size a t r (h r refl) (cc)
literal_longer false (Err f) size a t e h = absurd (cc)

literal_extends : (at : ℕ) (bytes : List ℕ) (a : Area) (t : AnExpression × Area) → AnyToken (token.Str bytes) → literal at bytes a ≡ Ok t → Extends a t.1
unfolding literal
literal_extends at bytes a t w e = literal_longer a.measuring _ (length bytes + 1) a t e (λ r is. placed_adds _ _ _ _ _ a r is)

pub extending : Laying AnyToken Extends
extending = record { same = extends_same; further = extends_further; literal = literal_extends }

-- an expression adds literals
pub exp_extends : (names : List (List ℕ × Entry)) (signatures : List Signature) (scope : Scope) (e : AnExp) (a : Area)
    (t : AnExpression × Area) → IsTyped names signatures scope e a t → Extends a t.1
exp_extends names signatures scope e a t j = exp_lays AnyToken Extends extending names signatures scope e (any_exp e) a t j

pub exps_extend : (names : List (List ℕ × Entry)) (signatures : List Signature) (scope : Scope) (es : SomeExps) (a : Area)
    (t : SomeExpressions × Area) → AreTyped names signatures scope es a t → Extends a t.1
exps_extend names signatures scope es a t j = exps_lay AnyToken Extends extending names signatures scope es (any_exps es) a t j
