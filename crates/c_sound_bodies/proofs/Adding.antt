-- Typing adds objects behind those that are there.
use Rattle.std.proofs.Common.{◌≡◌, ℕ, ◌+◌, ◌*◌, Bool, true, false, List, [], ◌∷◌, ◌++◌, length, Option, Some, None, Result, Ok, Err, refl, sym, ap, subst, ◌∙◌, append_assoc, append-nil}
use Rattle.std.specs.Prelude.{if◌then◌else◌}
use Rattle.tree_core.specs.declared.program.Object.{Object}
use Rattle.c_tokens.specs.declared.token.Token.{Token}
use Rattle.c_tokens.specs.declared.token.Token.TheVariants as token
use Rattle.c_phrases.specs.declared.operator.Spec.{Spec}
use Rattle.c_phrases.specs.Phrases.{AnExp, SomeExps, no_exps, exps}
use Rattle.c_phrases.specs.Units.{AnInit, value, elements, ADeclarator}
use Rattle.c_types.specs.declared.types.CType.{CType}
use Rattle.c_types.specs.Answers.{Fault, ◌>>=◌}
use Rattle.c_types.specs.Types.{size_of, pointer_to}
use Rattle.c_types.specs.Typed.{AnExpression, LiteralAt}
use Rattle.c_typed_scope.specs.declared.entry.Entry.{Entry}
use Rattle.c_typed_scope.specs.declared.entry.Entry.TheVariants as entries
use Rattle.c_typed_scope.specs.declared.entry.Signature.{Signature}
use Rattle.c_typed_scope.specs.Scopes.{Scope, with_name}
use Rattle.c_typed_scope.specs.Layout.{Area, one_more_literal, literal}
use Rattle.c_typed_scope.specs.Contents.{Filled, filled_to, holding, with_contents, filled}
use Rattle.c_sound.specs.Fits.{no_local}
use Rattle.c_typed_expressions.specs.Phrases.{init_in, brackets_in}
use Rattle.c_typed_expressions.specs.Expressions.{written}
use Rattle.c_typed_law.specs.c_typed_definition.specs.State.{State, with_area, variable_of, array_entry}
use Rattle.c_typed_law.specs.Values.{IsLength, IsElement, AreElements}
use Rattle.c_typed_law.specs.Objects.{AreLaid, HoldsAtFirst, IsFilled, IsPlainObject, IsCountedArray, IsArrayObject}
use Rattle.c_typed_law.specs.Objects.{IsObjectBy, IsObject}
use Rattle.c_typed_law.proofs.Values.{length_means}
use Rattle.c_typed_law.proofs.Objects.{object_means}
use Rattle.c_typed_law.proofs.Statements.{items_mean}
use Rattle.c_typed_words.specs.Phrases.{ExpOf, ExpsOf, PartOf, InitOf}
use Rattle.c_typed_words.proofs.Any.{AnyToken, any_exp, any_part, any_init, any_items}
use Rattle.c_sound_bodies.specs.Claim.{Adds, BodiesAdd, ObjectsAdd, LengthsAdd}
use Rattle.c_sound_bodies.proofs.Growth.{Laying, exp_lays, Added, placed_adds}
use Rattle.c_sound_bodies.proofs.Lengths.{count_stays}
use Rattle.c_sound_bodies.proofs.Objects.{laid_adds}
use Rattle.c_sound_bodies.proofs.Areas.{items_lay, order_any}

pub adds_none : (a : Area) → Adds a a
adds_none a = record { more = []; is = sym (append-nil a.objects) }

pub adds_further : (a b c : Area) → Adds a b → Adds b c → Adds a c
adds_further a b c h k = record {
  more = h.more ++ k.more;
  is = k.is ∙ (ap (λ (os : List Object). os ++ k.more) h.is ∙ append_assoc a.objects h.more k.more);
}

unchanged : (size : ℕ) (a : Area) (t : AnExpression × Area) → t ≡ (LiteralAt 0 size, a) → Adds a t.1
unchanged size a t is = rw is (adds_none a)

one_more : (size : ℕ) (a : Area) (t : AnExpression × Area) (r : ℕ × Area) → Added a r → t ≡ (LiteralAt r.0 size, one_more_literal r.1) → Adds a t.1
one_more size a t r h is = rw is (record { more = h.last ∷ []; is = h.is })

literal_by : (measures : Bool) (m : Result (ℕ × Area) Fault) (size : ℕ) (a : Area) (t : AnExpression × Area) →
    (if measures then Ok (LiteralAt 0 size, a) else (m >>= λ r. Ok (LiteralAt r.0 size, one_more_literal r.1))) ≡ Ok t →
    ((r : ℕ × Area) → m ≡ Ok r → Added a r) → Adds a t.1
literal_by true m size a t e h = unchanged size a t (cc)
literal_by false (Ok r) size a t e h = one_more size a t r (h r refl) (cc)
literal_by false (Err f) size a t e h = absurd (cc)

literal_adds : (at : ℕ) (bytes : List ℕ) (a : Area) (t : AnExpression × Area) → AnyToken (token.Str bytes) → literal at bytes a ≡ Ok t → Adds a t.1
unfolding literal
literal_adds at bytes a t w e = literal_by a.measuring _ (length bytes + 1) a t e (λ r is. placed_adds _ _ _ _ _ a r is)

pub adding : Laying AnyToken Adds
adding = record { same = adds_none; further = adds_further; literal = literal_adds }

-- what the last object holds at first, and what is behind it
contents_behind : (f : Filled) (os more : List Object) (o : Object) →
    with_contents (length os) f (os ++ o ∷ more) ≡ os ++ holding f o ∷ more
contents_behind f [] more o = refl
contents_behind f (p ∷ os) more o = let rest = contents_behind f os more o in ap (λ (z : List Object). p ∷ z) rest

-- an object that is added, with literals behind it, gets what it holds at first
pub filled_adds : (f : Filled) (n : ℕ) (a b c : Area) (o : Object) → n ≡ length a.objects → b.objects ≡ a.objects ++ o ∷ [] → Adds b c →
    Adds a (filled n f c)
unfolding filled
filled_adds f n a b c o number last h =
    let all : c.objects ≡ a.objects ++ o ∷ h.more =
    h.is ∙ (ap (λ (os : List Object). os ++ h.more) last ∙ append_assoc a.objects (o ∷ []) h.more) in
    record { more = holding f o ∷ h.more; is = rw (number, all) (contents_behind f a.objects h.more o) }

module _ (names : List (List ℕ × Entry)) (signatures : List Signature) where
  length_adds : (scope : Scope) (e : AnExp) (a : Area) (r : ℕ × Area) → IsLength names signatures scope e a r → Adds a r.1
  length_adds scope e a r j = let k = j.whole in rw (k.whole) (exp_lays AnyToken Adds adding names signatures scope e (any_exp e) a j.part j.typed)

  -- the literals in what an object holds at first, for any such relation
  module _ (T : Token → Type 0) (R : Area → Area → Type 0) (l : Laying T R) where
    element_lays : (scope : Scope) (t : CType) (e : AnExp) → ExpOf T e → (s r : Filled × Area) → IsElement names signatures scope t e s r → R s.1 r.1
    element_lays scope t e w s r j = let k = j.whole in rw (k.whole) (exp_lays T R l names signatures scope e w s.1 j.part j.typed)

    elements_lay : (scope : Scope) (t : CType) (es : SomeExps) → ExpsOf T es → (s r : Filled × Area) → AreElements names signatures scope t es s r →
        R s.1 r.1
    elements_lay scope t no_exps w s r j = rw j (l.same s.1)
    elements_lay scope t (exps e es) w s r j =
        l.further s.1 j.part.1 r.1 (element_lays scope t e w.0 s j.part j.typed) (elements_lay scope t es w.1 j.part r j.whole)

    pub contents_lay : (t : CType) (is_array : Bool) (i : Option AnInit) → InitOf T i → (scope : Scope) (a : Area) (r : Filled × Area) →
        HoldsAtFirst names signatures t is_array i scope a r → R a r.1
    contents_lay t is_array None w scope a r j = rw j (l.same a)
    contents_lay t is_array (Some (elements es comma)) w scope a r j = elements_lay scope t es w _ r j
    contents_lay t true (Some (value e)) w scope a r j = rw j (l.same a)
    contents_lay t false (Some (value e)) w scope a r j = element_lays scope t e w _ r j

    pub literals_lay : (e : Option AnExp) → PartOf T e → (scope : Scope) (a b : Area) → AreLaid names signatures e scope a b → R a b
    literals_lay None w scope a b j = rw j (l.same a)
    literals_lay (Some e) w scope a b j = rw (j.whole) (exp_lays T R l names signatures scope e w a j.part j.typed)

  object_filled : (n size : ℕ) (t : CType) (is_array : Bool) (d : ADeclarator) (e : Entry) (a b : Area) (o : Object) (s : State)
      (r : ℕ × State) → n ≡ length a.objects → b.objects ≡ a.objects ++ o ∷ [] → Adds b s.area →
      IsFilled names signatures n size t is_array d e s r → Adds a r.1.area
  object_filled n size t is_array d e a b o s r number last h j =
      let i = j.typed in
      let held = contents_lay AnyToken Adds adding t is_array (init_in d.init) (any_init (init_in d.init)) (with_name d.name e s.scope) s.area i.part i.typed in
      let is : r.1.area ≡ j.part = ap (λ (z : ℕ × State). z.1.area) (j.whole) in
      rw (is, i.whole) (filled_adds (filled_to size i.part.0) n a b i.part.1 o number last (adds_further b s.area i.part.1 h held))

  plain_adds : (is_static : Bool) (t : CType) (d : ADeclarator) (s : State) (r : ℕ × State) →
      IsPlainObject names signatures is_static t d s r → Adds s.area r.1.area
  plain_adds is_static t d s r j =
      let h = laid_adds is_static d.at d.name (size_of t) (size_of t) s.area j.part j.typed in
      object_filled j.part.0 (size_of t) t false d (entries.Variable t (variable_of is_static j.part.0)) s.area j.part.1 h.last
      (with_area j.part.1 s) r h.number h.is (adds_none j.part.1) j.whole

  counted_adds : (is_static : Bool) (t : CType) (d : ADeclarator) (e : Option AnExp) (n : ℕ) (s : State) (r : ℕ × State) →
      IsCountedArray names signatures is_static t d e n s r → Adds s.area r.1.area
  counted_adds is_static t d e n s r j =
      let k = j.whole in
      let h = laid_adds is_static d.at d.name (size_of t) (n * size_of t) s.area j.part j.typed in
      object_filled j.part.0 (n * size_of t) t true d (array_entry (pointer_to t) (variable_of is_static j.part.0) (n * size_of t))
      s.area j.part.1 h.last (with_area k.part s) r h.number h.is (literals_lay AnyToken Adds adding e (any_part e) s.scope j.part.1 k.part k.typed) k.whole

  array_adds : (is_static : Bool) (t : CType) (d : ADeclarator) (e : Option AnExp) (s : State) (r : ℕ × State) →
      s.area.measuring ≡ false → IsArrayObject names signatures is_static t d e s r → Adds s.area r.1.area
  array_adds is_static t d e s r free j =
      let k = j.whole in
      let same : j.part.1 ≡ s.area = count_stays names signatures e (init_in d.init) s.scope s.area j.part free j.typed in
      subst (λ (a : Area). Adds a r.1.area) same (counted_adds is_static t d e k.part (with_area j.part.1 s) r k.whole)

  object_by_adds : (is_static : Bool) (t : CType) (d : ADeclarator) (l : Option (Option AnExp)) (s : State) (r : ℕ × State) →
      s.area.measuring ≡ false → IsObjectBy names signatures is_static t d l s r → Adds s.area r.1.area
  object_by_adds is_static t d None s r free j = plain_adds is_static t d s r j
  object_by_adds is_static t d (Some e) s r free j = array_adds is_static t d e s r free j

  pub object_adds : (is_static : Bool) (spec : Spec) (d : ADeclarator) (s : State) (r : ℕ × State) → s.area.measuring ≡ false →
      IsObject names signatures is_static spec d s r → Adds s.area r.1.area
  object_adds is_static spec d s r free j =
      object_by_adds is_static (written spec d.stars) d (brackets_in d.length) s r free j.whole

pub lengths_add : LengthsAdd
lengths_add names signatures scope e n a b is =
    length_adds names signatures scope e a (n, b) ((length_means names signatures scope e a).found (n, b) is)

pub objects_add : ObjectsAdd
objects_add names signatures is_static spec d n s r free e =
    object_adds names signatures is_static spec d s (n, r) free ((object_means names signatures is_static spec d s).found (n, r) e)

pub bodies_add : BodiesAdd
bodies_add names signatures result looping row parameters s r acts o e =
    items_lay AnyToken Adds adding names signatures parameters
    (λ spec d m q w order j. object_adds names signatures true spec d m q order.laying j)
    result looping row (any_items row) s (acts, r) (order_any no_local parameters s o)
    ((items_mean names signatures result looping row s).found (acts, r) e)
