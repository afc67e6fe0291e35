-- Declarations of objects lay them out, with what they hold at first.
use Rattle.std.proofs.Common.{◌≡◌, ℕ, zero, suc, ◌+◌, ◌*◌, ◌<◌, ◌≤◌, Bool, true, false, List, [], ◌∷◌, ◌++◌, length, Option, Some, None, Result, Ok, Err, refl, sym, ap, subst, ◌∙◌}
use Rattle.std.proofs.Common.{length-append, arith}
use Rattle.std.proofs.Math.Nat.{mul-le-mul_left, mul-le-mul_right}
use Rattle.std.proofs.lemmas.Bool.Decides.{nat_tests}
use Rattle.std.proofs.lemmas.List.Elements.{All-nil, All-cons}
use Rattle.tree_core.specs.declared.program.Object.{Object}
use Rattle.tree_core.specs.Valid.{LinksLie}
use Rattle.c_phrases.specs.declared.operator.Spec.{Spec}
use Rattle.c_phrases.specs.Phrases.{AnExp, SomeExps, no_exps, exps}
use Rattle.c_phrases.specs.Units.{AnInit, value, elements, ADeclarator}
use Rattle.c_types.specs.declared.types.CType.{CType}
use Rattle.c_types.specs.declared.types.CType.TheVariants as types
use Rattle.c_types.specs.declared.types.Integer.{Integer}
use Rattle.c_types.specs.declared.types.Integer.TheVariants as ints
use Rattle.c_types.specs.declared.typed.Variable.{Variable}
use Rattle.c_types.specs.declared.typed.Variable.TheVariants as variables
use Rattle.c_types.specs.Answers.{Fault, ◌>>=◌}
use Rattle.c_types.specs.Types.{integer_size, size_of, is_scalar, pointer_to}
use Rattle.c_typed_scope.specs.declared.entry.Entry.{Entry}
use Rattle.c_typed_scope.specs.declared.entry.Entry.TheVariants as entries
use Rattle.c_typed_scope.specs.declared.entry.Signature.{Signature}
use Rattle.c_typed_scope.specs.Scopes.{Scope, with_name}
use Rattle.c_typed_scope.specs.Layout.{Area, aligned}
use Rattle.c_typed_scope.specs.Contents.{Filled, filled_to, holding, with_contents, filled}
use Rattle.c_typed_scope.proofs.Written.{held_length}
use Rattle.c_typed_expressions.specs.Phrases.{init_in, brackets_in}
use Rattle.c_typed_expressions.specs.Calls.{count}
use Rattle.c_typed_expressions.specs.Expressions.{written}
use Rattle.c_sound_bodies.specs.c_typed_definition.specs.Forms.{text_of, array_form, form_fits, text_length, given_count}
use Rattle.c_sound_bodies.specs.c_typed_definition.specs.State.{State, with_area, measuring, variable_of, label_of, counted_static}
use Rattle.c_sound_bodies.specs.c_typed_definition.specs.State.{array_entry, laid, text_contents}
use Rattle.c_sound_bodies.specs.c_typed_law.specs.Values.{IsElement, AreElements}
use Rattle.c_sound_bodies.specs.c_typed_law.specs.Objects.{IsCount, AreLaid, HoldsAtFirst, IsFilled, IsPlainObject, IsCountedArray}
use Rattle.c_sound_bodies.specs.c_typed_law.specs.Objects.{IsArrayObject, IsObjectBy, IsObject}
use Rattle.c_sound_bodies.specs.c_typed_words.specs.Words.{IsToken}
use Rattle.c_sound_bodies.specs.c_typed_words.specs.Phrases.{ExpOf, ExpsOf, PartOf, BracketsOf, InitOf, DeclaratorOf}
use Rattle.c_sound_bodies.specs.States.{OfVariable, ScopeOf}
use Rattle.c_sound_bodies.proofs.Names.{variable_more, scope_more, scope_named}
use Rattle.c_sound_bodies.proofs.Objects.{IsObjectOf, object_declares}
use Rattle.c_sound_bodies.proofs.Growth.{exp_lays}
use Rattle.c_sound_bodies.proofs.Memory.{TextOf, text_is, own_some, length_some, many_enough}
use Rattle.c_sound_texts.proofs.Held.{places_of, Addressed, Contains, contents, contains_nothing, filled_contained}
use Rattle.c_sound_texts.proofs.Areas.{Lays, lays_same, lays_further, contains_laid, longer, Placed, placed_is, is_alignment, object_at, object_lies_at, laying}
use Rattle.c_sound_texts.proofs.Linked.{IsLaid, LaidIn, laid_more, exp_names}
use Rattle.c_sound_texts.proofs.Contents.{Holds, nothing, holds_nothing, holds_more, written_holds, written_contained, filled_holds}

-- an object that is laid out, and holds nothing yet
pub record LaidAt (label : List ℕ) (align size : ℕ) (a : Area) (l : ℕ × Area) : Type 0 where
  pub number : l.0 ≡ length a.objects
  pub objects : l.1.objects ≡ a.objects ++ object_at label align size [] [] a ∷ []
  pub end : l.1.end ≡ aligned a.end align + size
  pub within : aligned a.end align + size ≤ 1114112
  pub measuring : l.1.measuring ≡ a.measuring

counted_at : (is_static : Bool) (label : List ℕ) (align size : ℕ) (a : Area) (r l : ℕ × Area) → Placed label align size [] a r →
    l ≡ (r.0, counted_static is_static r.1) → LaidAt label align size a l
counted_at true label align size a r l p is = rw (is, p.is)
    (record { number = refl; objects = refl; end = refl; within = p.within; measuring = refl })
counted_at false label align size a r l p is = rw (is, p.is)
    (record { number = refl; objects = refl; end = refl; within = p.within; measuring = refl })

laid_by : (is_static : Bool) (label : List ℕ) (align size : ℕ) (m : Result (ℕ × Area) Fault) (a : Area) (l : ℕ × Area) →
    (m >>= λ r. Ok (r.0, counted_static is_static r.1)) ≡ Ok l → ((r : ℕ × Area) → m ≡ Ok r → Placed label align size [] a r) →
    LaidAt label align size a l
laid_by is_static label align size (Ok r) a l e h = counted_at is_static label align size a r l (h r refl) (cc)
laid_by is_static label align size (Err f) a l e h = absurd (cc)

laid_at : (is_static : Bool) (at : ℕ) (name : List ℕ) (align size : ℕ) (a : Area) (l : ℕ × Area) →
    laid is_static at name align size a ≡ Ok l → LaidAt (label_of is_static name a) align size a l
unfolding laid
laid_at is_static at name align size a l e =
    laid_by is_static (label_of is_static name a) align size _ a l e
    (λ r is. placed_is at (label_of is_static name a) align size [] a r is)

pub laid_longer : (label : List ℕ) (align size : ℕ) (a : Area) (l : ℕ × Area) → LaidAt label align size a l →
    length l.1.objects ≡ length a.objects + 1
laid_longer label align size a l h =
    ap length h.objects ∙ length-append a.objects (object_at label align size [] [] a ∷ [])

-- the contents of the object behind some others
held : (g : Filled) (os : List Object) (o : Object) (more : List Object) →
    with_contents (length os) g ((os ++ o ∷ []) ++ more) ≡ os ++ holding g o ∷ more
held g [] o more = refl
held g (x ∷ os) o more = ap (λ (z : List Object). x ∷ z) (held g os o more)

-- an object that gets what it holds, once others were laid behind it
pub held_places : (n : ℕ) (g : Filled) (os : List Object) → places_of (with_contents n g os) ≡ places_of os
held_places n g [] = refl
held_places zero g (o ∷ os) = refl
held_places (suc n) g (o ∷ os) = ap (λ (z : List ℕ). o.address ∷ z) (held_places n g os)

pub filled_lays : (label : List ℕ) (align size : ℕ) (g : Filled) (a : Area) (l : ℕ × Area) (b : Area) → is_alignment align ≡ true →
    LaidAt label align size a l → Lays l.1 b → Holds (length b.objects) size g → Contains (places_of b.objects) g → 1 ≤ size → Lays a (filled l.0 g b)
unfolding filled
filled_lays label align size g a l b fits h k holds contains some =
    let many : length (with_contents l.0 g b.objects) ≡ length b.objects = held_length l.0 g b.objects in
    let same : b.objects ≡ (a.objects ++ object_at label align size [] [] a ∷ []) ++ k.more =
    k.objects ∙ ap (λ (x : List Object). x ++ k.more) h.objects in
    let object = object_at label align size g.bytes g.links a in
    record {
      more = object ∷ k.more;
      objects = rw (h.number, same) (held g a.objects (object_at label align size [] [] a) k.more);
      lie = (object_lies_at label align size g.bytes g.links a fits holds.many h.within, rw (h.end) at k.lie);
      links = rw many (All-cons (LinksLie (length b.objects)) object k.more (holds.links, holds.apart) k.links);
      contents = rw (held_places l.0 g b.objects)
          (All-cons (λ (o : Object). Contains (places_of b.objects) (contents o)) object k.more contains k.contents);
      sizes = All-cons (λ (o : Object). 1 ≤ o.size) object k.more some k.sizes;
      measuring = k.measuring ∙ h.measuring;
    }

variable_laid : (is_static : Bool) (n objects : ℕ) → n < objects → IsLaid objects (variable_of is_static n)
variable_laid true n objects h = h
variable_laid false n objects h = h

pub array_laid : (t : Option CType) (v : Variable) (size objects : ℕ) → IsLaid objects v → OfVariable (LaidIn objects) (array_entry t v size)
array_laid None v size objects h = h
array_laid (Some t) v size objects h = h

integer_aligned : (b : Integer) → is_alignment (integer_size b) ≡ true
unfolding integer_size
integer_aligned ints.Char = refl
integer_aligned ints.UnsignedChar = refl
integer_aligned ints.Short = refl
integer_aligned ints.UnsignedShort = refl
integer_aligned ints.Int = refl

scalar_aligned : (t : CType) → is_scalar t ≡ true → is_alignment (size_of t) ≡ true
unfolding is_scalar size_of
scalar_aligned types.Void h = absurd (cc)
scalar_aligned (types.Integer b) h = integer_aligned b
scalar_aligned (types.Pointer b n) h = refl

alignment_positive : (n : ℕ) → is_alignment n ≡ true → 1 ≤ n
alignment_positive n h = grind (arith, nat_tests)

-- what is written of an object, and the literals behind it
pub record Writes (size : ℕ) (s r : Filled × Area) : Type 0 where
  pub lays : Lays s.1 r.1
  pub holds : Holds (length r.1.objects) size r.0
  pub contains : Contains (places_of r.1.objects) r.0

-- no more than so many bytes
pub record WritesWithin (wide : ℕ) (s r : Filled × Area) : Type 0 where
  pub size : ℕ
  pub within : size ≤ wide
  pub writes : Writes size s r

writes_none : (size : ℕ) (s r : Filled × Area) → Holds (length s.1.objects) size s.0 → Contains (places_of s.1.objects) s.0 → r ≡ s → Writes size s r
writes_none size s r h c is = rw is (record { lays = lays_same s.1; holds = h; contains = c })

one_further : (many size wide : ℕ) → size + wide + many * wide ≡ size + (many + 1) * wide
one_further many size wide = omega arith

text_holds : (objects : ℕ) (o : Option (List ℕ)) → Holds objects (text_length o) (text_contents o)
text_holds objects None = holds_nothing objects
text_holds objects (Some b) =
    let none = holds_nothing objects in
    record { many = refl; links = All-nil _; apart = none.apart }

none_further : (size wide : ℕ) → size ≡ size + 0 * wide
none_further size wide = omega arith

bytes_within : (many n wide : ℕ) → 1 ≤ wide → many ≤ n → many ≤ n * wide
bytes_within many n wide one le =
    let most : n * 1 ≤ n * wide = mul-le-mul_left n one in
    omega arith

text_contains : (places : List ℕ) (o : Option (List ℕ)) → TextOf o → Contains places (text_contents o)
text_contains places None w = contains_nothing places
text_contains places (Some b) w = record { bytes = w; links = All-nil (Addressed places b) }

text_writes : (o : Option (List ℕ)) → TextOf o → (a : Area) (r : Filled × Area) → r ≡ (text_contents o, a) →
    Writes (text_length o) (nothing, a) r
text_writes o w a r is =
    rw is (record { lays = lays_same a; holds = text_holds (length a.objects) o; contains = text_contains (places_of a.objects) o w })

-- the scope of an object's own initialiser
object_scope : (scope : Scope) (name : List ℕ) (e : Entry) (a b : Area) (n : ℕ) → length b.objects ≡ length a.objects + 1 →
    n ≡ length a.objects → ScopeOf (LaidIn (length a.objects)) scope →
    ((objects : ℕ) → n < objects → OfVariable (LaidIn objects) e) → ScopeOf (LaidIn (length b.objects)) (with_name name e scope)
object_scope scope name e a b n more last o of =
    scope_named (LaidIn (length b.objects)) scope name e
    (scope_more (LaidIn (length a.objects)) (LaidIn (length b.objects)) scope
    (laid_more (length a.objects) (length b.objects) (omega arith)) o)
    (of (length b.objects) (omega arith))

-- an array has at least one element
counted_some : (names : List (List ℕ × Entry)) (signatures : List Signature) (t : CType) (c : Option AnExp) (i : Option AnInit) (scope : Scope)
    (a : Area) (r : ℕ × Area) → array_form t c i ≡ true → IsCount names signatures c i scope a r → 1 ≤ r.0
counted_some names signatures t None i scope a r form j = rw j (own_some t i form)
counted_some names signatures t (Some e) i scope a r form j =
    let k = j.typed in
    let m = k.whole in
    let some = length_some k.part.0 m.part m.typed in
    let number : j.part.0 ≡ m.part = ap (λ (x : ℕ × Area). x.0) m.whole in
    let same : r.0 ≡ j.part.0 = ap (λ (x : ℕ × Area). x.0) j.whole in
    rw (same, number) some

module _ (names : List (List ℕ × Entry)) (signatures : List Signature) where
  element_writes : (scope : Scope) (t : CType) (e : AnExp) → ExpOf IsToken e → (size : ℕ) (s r : Filled × Area) →
      ScopeOf (LaidIn (length s.1.objects)) scope → s.1.measuring ≡ false → Holds (length s.1.objects) size s.0 →
      Contains (places_of s.1.objects) s.0 → IsElement names signatures scope t e s r → Writes (size + size_of t) s r
  element_writes scope t e w size s r o free h c j =
      let k = j.whole in
      let x = j.part in
      let lays = exp_lays IsToken Lays laying names signatures scope e w s.1 x j.typed in
      let named = exp_names names signatures scope e s.1 x o free lays j.typed in
      rw (k.whole) (record {
        lays = lays;
        holds = written_holds (length x.1.objects) size t x.0 x.1.objects s.0 k.part named k.typed
            (holds_more (length s.1.objects) (length x.1.objects) size s.0 (longer s.1 x.1 lays) h);
        contains = written_contained t x.0 x.1.objects s.0 k.part named k.typed (contains_laid s.1 x.1 s.0 lays c);
      })

  elements_write : (scope : Scope) (t : CType) (es : SomeExps) → ExpsOf IsToken es → (size : ℕ) (s r : Filled × Area) →
      ScopeOf (LaidIn (length s.1.objects)) scope → s.1.measuring ≡ false → Holds (length s.1.objects) size s.0 →
      Contains (places_of s.1.objects) s.0 → AreElements names signatures scope t es s r → Writes (size + count es * size_of t) s r
  elements_write scope t no_exps w size s r o free h c j =
      subst (λ n. Writes n s r) (none_further size (size_of t)) (writes_none size s r h c j)
  elements_write scope t (exps e es) w size s r o free h c j =
      let m = j.part in
      let first = element_writes scope t e w.0 size s m o free h c j.typed in
      let lays = first.lays in
      let rest = elements_write scope t es w.1 (size + size_of t) m r
      (scope_more (LaidIn (length s.1.objects)) (LaidIn (length m.1.objects)) scope
      (laid_more (length s.1.objects) (length m.1.objects) (longer s.1 m.1 lays)) o)
      (lays.measuring ∙ free) first.holds first.contains j.whole in
      subst (λ n. Writes n s r) (one_further (count es) size (size_of t))
      (record { lays = lays_further s.1 m.1 r.1 lays rest.lays; holds = rest.holds; contains = rest.contains })

  plain_writes : (scope : Scope) (t : CType) (i : Option AnInit) → InitOf IsToken i → (a : Area) (r : Filled × Area) →
      ScopeOf (LaidIn (length a.objects)) scope → a.measuring ≡ false → form_fits t None i ≡ true →
      HoldsAtFirst names signatures t false i scope a r → WritesWithin (size_of t) (nothing, a) r
  plain_writes scope t None w a r o free form j = record {
    size = 0;
    within = omega arith;
    writes = writes_none 0 (nothing, a) r (holds_nothing (length a.objects)) (contains_nothing (places_of a.objects)) j;
  }
  plain_writes scope t (Some (elements es comma)) w a r o free form j = absurd (cc)
  plain_writes scope t (Some (value e)) w a r o free form j = record {
    size = 0 + size_of t;
    within = omega arith;
    writes = element_writes scope t e w 0 (nothing, a) r o free (holds_nothing (length a.objects)) (contains_nothing (places_of a.objects)) j;
  }

  array_writes : (scope : Scope) (t : CType) (i : Option AnInit) → InitOf IsToken i → (n : ℕ) (a : Area) (r : Filled × Area) →
      ScopeOf (LaidIn (length a.objects)) scope → a.measuring ≡ false → 1 ≤ size_of t → given_count i ≤ n →
      HoldsAtFirst names signatures t true i scope a r → WritesWithin (n * size_of t) (nothing, a) r
  array_writes scope t None w n a r o free one fits j = record {
    size = 0;
    within = omega arith;
    writes = writes_none 0 (nothing, a) r (holds_nothing (length a.objects)) (contains_nothing (places_of a.objects)) j;
  }
  array_writes scope t (Some (elements es comma)) w n a r o free one fits j =
      let most : count es * size_of t ≤ n * size_of t = mul-le-mul_right (size_of t) fits in
      record {
        size = 0 + count es * size_of t;
        within = omega arith;
        writes = elements_write scope t es w 0 (nothing, a) r o free (holds_nothing (length a.objects)) (contains_nothing (places_of a.objects)) j;
      }
  array_writes scope t (Some (value e)) w n a r o free one fits j = record {
    size = text_length (text_of e);
    within = bytes_within (text_length (text_of e)) n (size_of t) one fits;
    writes = text_writes (text_of e) (text_is e w) a r j;
  }

  lays_count : (l : Option AnExp) → PartOf IsToken l → (i : Option AnInit) (scope : Scope) (a : Area) (r : ℕ × Area) → a.measuring ≡ false →
      IsCount names signatures l i scope a r → Lays a r.1
  lays_count None w i scope a r free j = rw j (lays_same a)
  lays_count (Some e) w i scope a r free j =
      let k = j.typed in
      let m = k.whole in
      let h = exp_lays IsToken Lays laying names signatures scope e w (measuring true a) k.part k.typed in
      let area : j.part.1 ≡ k.part.1 = ap (λ (x : ℕ × Area). x.1) m.whole in
      rw (j.whole, area) (record { more = h.more; objects = h.objects; lie = h.lie; links = h.links; contents = h.contents; sizes = h.sizes; measuring = sym free })

  lays_literals : (l : Option AnExp) → PartOf IsToken l → (scope : Scope) (a b : Area) → AreLaid names signatures l scope a b → Lays a b
  lays_literals None w scope a b j = rw j (lays_same a)
  lays_literals (Some e) w scope a b j = rw (j.whole) (exp_lays IsToken Lays laying names signatures scope e w a j.part j.typed)

  filled_object : (label : List ℕ) (align size : ℕ) (a : Area) (l : ℕ × Area) (m : Area) (t : CType) (is_array : Bool) (d : ADeclarator)
      (e : Entry) (s : State) (r : ℕ × State) → 1 ≤ size → LaidAt label align size a l → is_alignment align ≡ true → Lays l.1 m →
      IsFilled names signatures l.0 size t is_array d e (with_area m s) r →
      ((h : Filled × Area) → HoldsAtFirst names signatures t is_array (init_in d.init) (with_name d.name e s.scope) m h →
      WritesWithin size (nothing, m) h) → Lays a r.1.area
  filled_object label align size a l m t is_array d e s r some laid fits behind j first =
      let i = j.typed in
      let h = i.part in
      let w = first h i.typed in
      let p = w.writes in
      rw (j.whole, i.whole) (filled_lays label align size (filled_to size h.0) a l h.1 fits laid
      (lays_further l.1 m h.1 behind p.lays) (filled_holds (length h.1.objects) w.size size h.0 w.within p.holds)
      (filled_contained (places_of h.1.objects) size h.0 p.contains) some)

  plain_lays : (is_static : Bool) (t : CType) (d : ADeclarator) → InitOf IsToken (init_in d.init) → (s : State) (r : ℕ × State) →
      ScopeOf (LaidIn (length s.area.objects)) s.scope → s.area.measuring ≡ false → is_scalar t ≡ true →
      form_fits t None (init_in d.init) ≡ true → IsPlainObject names signatures is_static t d s r → Lays s.area r.1.area
  plain_lays is_static t d words s r o free scalar form j =
      let l = j.part in
      let h = laid_at is_static d.at d.name (size_of t) (size_of t) s.area l j.typed in
      let e = entries.Variable t (variable_of is_static l.0) in
      let inner = object_scope s.scope d.name e s.area l.1 l.0 (laid_longer _ _ _ s.area l h) h.number o
      (λ objects below. variable_laid is_static l.0 objects below) in
      filled_object (label_of is_static d.name s.area) (size_of t) (size_of t) s.area l l.1 t false d e s r (alignment_positive (size_of t) (scalar_aligned t scalar)) h (scalar_aligned t scalar)
      (lays_same l.1) j.whole
      (λ w held. plain_writes (with_name d.name e s.scope) t (init_in d.init) words l.1 w inner (h.measuring ∙ free) form held)

  counted_lays : (is_static : Bool) (t : CType) (d : ADeclarator) (c : Option AnExp) → PartOf IsToken c × InitOf IsToken (init_in d.init) → (n : ℕ) (s : State) (r : ℕ × State) →
      ScopeOf (LaidIn (length s.area.objects)) s.scope → s.area.measuring ≡ false → is_scalar t ≡ true →
      given_count (init_in d.init) ≤ n → 1 ≤ n → IsCountedArray names signatures is_static t d c n s r → Lays s.area r.1.area
  counted_lays is_static t d c words n s r o free scalar fits some j =
      let k = j.whole in
      let l = j.part in
      let m = k.part in
      let size = n * size_of t in
      let h = laid_at is_static d.at d.name (size_of t) (n * size_of t) s.area l j.typed in
      let e = array_entry (pointer_to t) (variable_of is_static l.0) (n * size_of t) in
      let behind = lays_literals c words.0 s.scope l.1 m k.typed in
      let inner = object_scope s.scope d.name e s.area l.1 l.0 (laid_longer _ _ _ s.area l h) h.number o
      (λ objects below. array_laid (pointer_to t) (variable_of is_static l.0) (n * size_of t) objects
      (variable_laid is_static l.0 objects below)) in
      let outer = scope_more (LaidIn (length l.1.objects)) (LaidIn (length m.objects)) (with_name d.name e s.scope)
      (laid_more (length l.1.objects) (length m.objects) (longer l.1 m behind)) inner in
      filled_object (label_of is_static d.name s.area) (size_of t) (n * size_of t) s.area l m t true d e s r
      (bytes_within 1 n (size_of t) (alignment_positive (size_of t) (scalar_aligned t scalar)) some) h (scalar_aligned t scalar)
      behind k.whole
      (λ w held. array_writes (with_name d.name e s.scope) t (init_in d.init) words.1 n m w outer (behind.measuring ∙ h.measuring ∙ free)
      (alignment_positive (size_of t) (scalar_aligned t scalar)) fits held)

  array_lays : (is_static : Bool) (t : CType) (d : ADeclarator) (c : Option AnExp) → PartOf IsToken c × InitOf IsToken (init_in d.init) → (s : State) (r : ℕ × State) →
      ScopeOf (LaidIn (length s.area.objects)) s.scope → s.area.measuring ≡ false → is_scalar t ≡ true →
      array_form t c (init_in d.init) ≡ true → IsArrayObject names signatures is_static t d c s r → Lays s.area r.1.area
  array_lays is_static t d c words s r o free scalar form j =
      let k = j.whole in
      let a = j.part.1 in
      let first = lays_count c words.0 (init_in d.init) s.scope s.area j.part free j.typed in
      let given : given_count (init_in d.init) ≤ k.part = many_enough j.part.0 (given_count (init_in d.init)) k.part k.typed.fails
      k.typed.typed in
      lays_further s.area a r.1.area first
      (counted_lays is_static t d c words k.part (with_area a s) r
      (scope_more (LaidIn (length s.area.objects)) (LaidIn (length a.objects)) s.scope
      (laid_more (length s.area.objects) (length a.objects) (longer s.area a first)) o)
      (first.measuring ∙ free) scalar given
      (subst (λ n. 1 ≤ n) (sym k.typed.typed) (counted_some names signatures t c (init_in d.init) s.scope s.area j.part form j.typed)) k.whole)

  object_by_lays : (is_static : Bool) (t : CType) (d : ADeclarator) (l : Option (Option AnExp)) → BracketsOf IsToken l × InitOf IsToken (init_in d.init) → (s : State) (r : ℕ × State) →
      ScopeOf (LaidIn (length s.area.objects)) s.scope → s.area.measuring ≡ false → is_scalar t ≡ true →
      form_fits t l (init_in d.init) ≡ true → IsObjectBy names signatures is_static t d l s r → Lays s.area r.1.area
  object_by_lays is_static t d None words s r o free scalar form j = plain_lays is_static t d words.1 s r o free scalar form j
  object_by_lays is_static t d (Some c) words s r o free scalar form j = array_lays is_static t d c words s r o free scalar form j

  -- a global variable or a static local
  object_lays : (is_static : Bool) (spec : Spec) (d : ADeclarator) → DeclaratorOf IsToken d → (s : State) (r : ℕ × State) →
      ScopeOf (LaidIn (length s.area.objects)) s.scope → s.area.measuring ≡ false →
      IsObject names signatures is_static spec d s r → Lays s.area r.1.area
  object_lays is_static spec d words s r o free j =
      let form = j.typed.typed in
      let scalar = form.typed in
      object_by_lays is_static (written spec d.stars) d (brackets_in d.length) (words.1, words.2) s r o free scalar.holds form.holds j.whole

-- the names in scope stand for objects that are laid out behind those of an area
pub record InPlace (start : Area) (s : State) : Type 0 where
  pub names : ScopeOf (LaidIn (length s.area.objects)) s.scope
  pub laying : s.area.measuring ≡ false
  pub lays : Lays start s.area

object_laid : (objects : ℕ) (v : Variable) (size : ℕ) → IsObjectOf objects v size → LaidIn objects v size
object_laid objects (variables.Automatic n) size h = tt
object_laid objects (variables.Parameter n) size h = tt
object_laid objects (variables.Global n) size h = h.0
object_laid objects (variables.Static n) size h = h.0
object_laid objects (variables.InBlock o) size h = tt

-- where literals or objects are added
pub place_more : (start : Area) (s : State) (a : Area) → InPlace start s → Lays s.area a → InPlace start (with_area a s)
place_more start s a o h = record {
  names = scope_more (LaidIn (length s.area.objects)) (LaidIn (length a.objects)) s.scope
      (laid_more (length s.area.objects) (length a.objects) (longer s.area a h)) o.names;
  laying = h.measuring ∙ o.laying;
  lays = lays_further start s.area a o.lays h;
}

pub object_in_place : (start : Area) (names : List (List ℕ × Entry)) (signatures : List Signature) (is_static : Bool) (spec : Spec)
    (d : ADeclarator) → DeclaratorOf IsToken d → (s : State) (r : ℕ × State) → InPlace start s → IsObject names signatures is_static spec d s r → InPlace start r.1
object_in_place start names signatures is_static spec d w s r o j =
    let h = object_lays names signatures is_static spec d w s r o.names o.laying j in
    let k = object_declares names signatures is_static spec d s r o.laying j in
    let more = place_more start s r.1.area o h in
    let one = variable_more (IsObjectOf (length r.1.area.objects)) (LaidIn (length r.1.area.objects))
    (object_laid (length r.1.area.objects)) k.entry k.of in
    record {
      names = rw (k.names) (scope_named (LaidIn (length r.1.area.objects)) s.scope d.name k.entry more.names one);
      laying = more.laying;
      lays = more.lays;
    }
