-- Declarations of objects: they add objects, and the names of what they add.
use Rattle.std.proofs.Common.{◌≡◌, ℕ, ◌+◌, ◌*◌, ◌^◌, ◌<◌, ◌≤◌, Bool, true, false, List, [], length, Option, Some, None, Result, Ok, Err, refl, ap, ◌∙◌, arith}
use Rattle.c_phrases.specs.declared.operator.Spec.{Spec}
use Rattle.c_phrases.specs.Phrases.{AnExp, SomeExps, no_exps, exps}
use Rattle.c_phrases.specs.Units.{AnInit, value, elements, ADeclarator}
use Rattle.c_types.specs.declared.types.CType.{CType}
use Rattle.c_types.specs.declared.typed.Variable.{Variable}
use Rattle.c_types.specs.declared.typed.Variable.TheVariants as variables
use Rattle.c_types.specs.Answers.{Fault, ◌>>=◌}
use Rattle.c_types.specs.Types.{size_of, pointer_to}
use Rattle.c_typed_scope.specs.declared.entry.Entry.{Entry}
use Rattle.c_typed_scope.specs.declared.entry.Entry.TheVariants as entries
use Rattle.c_typed_scope.specs.declared.entry.Signature.{Signature}
use Rattle.c_typed_scope.specs.Scopes.{Scope, with_name}
use Rattle.c_typed_scope.specs.Layout.{Area}
use Rattle.c_typed_scope.specs.Contents.{Filled, filled_to, filled}
use Rattle.c_typed_scope.proofs.Written.{held_length}
use Rattle.c_sound.specs.Fits.{no_local}
use Rattle.c_sound.proofs.Registers.{locals_same}
use Rattle.c_typed_expressions.specs.Phrases.{init_in, brackets_in}
use Rattle.c_typed_expressions.specs.Expressions.{written}
use Rattle.c_typed_law.specs.c_typed_definition.specs.Rooms.{Room}
use Rattle.c_typed_law.specs.c_typed_definition.specs.State.{State, with_area, named_state, variable_of, label_of, counted_static, array_entry, laid}
use Rattle.c_typed_law.specs.Values.{IsLength, IsElement, AreElements}
use Rattle.c_typed_law.specs.Objects.{IsCount, AreLaid, HoldsAtFirst, IsFilled, IsPlainObject, IsCountedArray}
use Rattle.c_typed_law.specs.Objects.{IsArrayObject, IsObjectBy, IsObject}
use Rattle.c_typed_law.proofs.Values.{length_means}
use Rattle.c_typed_law.proofs.Objects.{object_means}
use Rattle.c_sound_bodies.specs.States.{IsKnown, OfVariable, ScopeOf, InOrder, Extends, Grows}
use Rattle.c_sound_bodies.specs.Claim.{ObjectsAreSound, LengthsAreSound}
use Rattle.c_sound_bodies.proofs.Names.{variable_more, scope_more, scope_named, known_more, named_outer}
use Rattle.c_sound_bodies.proofs.Lengths.{count_stays}
use Rattle.c_sound_bodies.proofs.Growth.{Added, placed_adds, placed_small, extends_same, extends_further, exp_extends}

pub filled_extends : (n : ℕ) (f : Filled) (a : Area) → Extends a (filled n f a)
unfolding filled
filled_extends n f a = let same = held_length n f a.objects in record { objects = omega arith; measuring = refl }

counted_added : (is_static : Bool) (a : Area) (r : ℕ × Area) → Added a r → Added a (r.0, counted_static is_static r.1)
counted_added true a r h = record { number = h.number; last = h.last; is = h.is; objects = h.objects; measuring = h.measuring }
counted_added false a r h = record { number = h.number; last = h.last; is = h.is; objects = h.objects; measuring = h.measuring }

laid_by : (is_static : Bool) (m : Result (ℕ × Area) Fault) (a : Area) (l : ℕ × Area) →
    (m >>= λ r. Ok (r.0, counted_static is_static r.1)) ≡ Ok l → ((r : ℕ × Area) → m ≡ Ok r → Added a r) → Added a l
laid_by is_static (Ok r) a l e h = let same : l ≡ (r.0, counted_static is_static r.1) = cc in
    rw same (counted_added is_static a r (h r refl))
laid_by is_static (Err f) a l e h = absurd (cc)

-- a variable's object is the last
pub laid_adds : (is_static : Bool) (at : ℕ) (name : List ℕ) (align size : ℕ) (a : Area) (l : ℕ × Area) →
    laid is_static at name align size a ≡ Ok l → Added a l
unfolding laid
laid_adds is_static at name align size a l e = laid_by is_static _ a l e
    (λ r is. placed_adds at (label_of is_static name a) align size [] a r is)

small_by : (is_static : Bool) (size : ℕ) (m : Result (ℕ × Area) Fault) (l : ℕ × Area) →
    (m >>= λ r. Ok (r.0, counted_static is_static r.1)) ≡ Ok l → ((r : ℕ × Area) → m ≡ Ok r → size ≤ 1114112) → size ≤ 1114112
small_by is_static size (Ok r) l e h = h r refl
small_by is_static size (Err f) l e h = absurd (cc)

-- and lies in the data area
pub laid_small : (is_static : Bool) (at : ℕ) (name : List ℕ) (align size : ℕ) (a : Area) (l : ℕ × Area) →
    laid is_static at name align size a ≡ Ok l → size ≤ 1114112
unfolding laid
laid_small is_static at name align size a l e = small_by is_static size _ l e
    (λ r is. placed_small at (label_of is_static name a) align size [] a r is)

pub added_extends : (a : Area) (l : ℕ × Area) → Added a l → Extends a l.1
added_extends a l h = let more : length l.1.objects ≡ length a.objects + 1 = h.objects in
    record { objects = omega arith; measuring = h.measuring }

-- an object's variable, or an array of so many bytes, where there are so many objects
abbrev pub IsObjectOf : ℕ → Variable → ℕ → Type 0
IsObjectOf objects (variables.Automatic n) size = ⊥
IsObjectOf objects (variables.Parameter n) size = ⊥
IsObjectOf objects (variables.Global n) size = (n < objects) × (size < 2 ^ 32)
IsObjectOf objects (variables.Static n) size = (n < objects) × (size < 2 ^ 32)
IsObjectOf objects (variables.InBlock o) size = ⊥

object_known : (scope : ℕ → Type 0) (locals parameters objects block : ℕ) (v : Variable) (size : ℕ) → IsObjectOf objects v size →
    IsKnown scope locals parameters objects block v size
object_known scope locals parameters objects block (variables.Automatic n) size h = absurd h
object_known scope locals parameters objects block (variables.Parameter n) size h = absurd h
object_known scope locals parameters objects block (variables.Global n) size h = h
object_known scope locals parameters objects block (variables.Static n) size h = h
object_known scope locals parameters objects block (variables.InBlock o) size h = absurd h

variable_is : (is_static : Bool) (n size objects : ℕ) → size ≤ 1114112 → n < objects → IsObjectOf objects (variable_of is_static n) size
variable_is true n size objects small h = (h, omega arith)
variable_is false n size objects small h = (h, omega arith)

array_is : (t : Option CType) (v : Variable) (size objects : ℕ) → IsObjectOf objects v size → OfVariable (IsObjectOf objects) (array_entry t v size)
array_is None v size objects h = h
array_is (Some t) v size objects h = h

-- a name that stands for no function
abbrev pub IsVariable : Entry → Type 0
IsVariable (entries.Variable t v) = Unit {0}
IsVariable (entries.Array t v size) = Unit {0}
IsVariable (entries.Function n) = ⊥

array_is_variable : (t : Option CType) (v : Variable) (size : ℕ) → IsVariable (array_entry t v size)
array_is_variable None v size = tt
array_is_variable (Some t) v size = tt

-- what a declaration of an object leaves
pub record Declares (name : List ℕ) (s : State) (r : State) : Type 0 where
  pub entry : Entry
  pub variable : IsVariable entry
  pub names : r.scope ≡ with_name name entry s.scope
  pub of : OfVariable (IsObjectOf (length r.area.objects)) entry
  pub locals : r.locals ≡ s.locals
  pub registers : r.registers ≡ s.registers
  pub room : r.room ≡ s.room
  pub extends : Extends s.area r.area

object_more : (objects many : ℕ) → objects ≤ many → (v : Variable) (size : ℕ) → IsObjectOf objects v size → IsObjectOf many v size
object_more objects many l (variables.Automatic n) size h = h
object_more objects many l (variables.Parameter n) size h = h
object_more objects many l (variables.Global n) size h = let below : n < objects = h.0 in (omega arith, h.1)
object_more objects many l (variables.Static n) size h = let below : n < objects = h.0 in (omega arith, h.1)
object_more objects many l (variables.InBlock o) size h = h

declares_is : (name : List ℕ) (e : Entry) (s : State) (n : ℕ) (a : Area) (r : ℕ × State) →
    r ≡ (n, with_area a (named_state name e s)) → Extends s.area a →
    OfVariable (IsObjectOf (length s.area.objects)) e → IsVariable e → Declares name s r.1
declares_is name e s n a r is h of variable = rw is (record {
  entry = e;
  variable = variable;
  names = refl;
  of = variable_more (IsObjectOf (length s.area.objects)) (IsObjectOf (length a.objects))
      (object_more (length s.area.objects) (length a.objects) h.objects) e of;
  locals = refl;
  registers = refl;
  room = refl;
  extends = h;
})

declares_from : (name : List ℕ) (s r : State) (a : Area) → Extends s.area a → Declares name (with_area a s) r → Declares name s r
declares_from name s r a h d = record {
  entry = d.entry;
  variable = d.variable;
  names = d.names;
  of = d.of;
  locals = d.locals;
  registers = d.registers;
  room = d.room;
  extends = extends_further s.area a r.area h d.extends;
}

below_added : (a b : Area) (l : ℕ × Area) → Added a l → Extends l.1 b → l.0 < length b.objects
below_added a b l h e =
    let number : l.0 ≡ length a.objects = h.number in
    let more : length l.1.objects ≡ length a.objects + 1 = h.objects in
    let most : length l.1.objects ≤ length b.objects = e.objects in
    omega arith

module _ (names : List (List ℕ × Entry)) (signatures : List Signature) where
  pub length_extends : (scope : Scope) (e : AnExp) (a : Area) (r : ℕ × Area) → IsLength names signatures scope e a r → Extends a r.1
  length_extends scope e a r j = let k = j.whole in rw (k.whole) (exp_extends names signatures scope e a j.part j.typed)

  element_extends : (scope : Scope) (t : CType) (e : AnExp) (s r : Filled × Area) → IsElement names signatures scope t e s r →
      Extends s.1 r.1
  element_extends scope t e s r j = let k = j.whole in rw (k.whole) (exp_extends names signatures scope e s.1 j.part j.typed)

  elements_extend : (scope : Scope) (t : CType) (es : SomeExps) (s r : Filled × Area) → AreElements names signatures scope t es s r →
      Extends s.1 r.1
  elements_extend scope t no_exps s r j = rw j (extends_same s.1)
  elements_extend scope t (exps e es) s r j = extends_further s.1 j.part.1 r.1 (element_extends scope t e s j.part j.typed)
      (elements_extend scope t es j.part r j.whole)

  holds_extends : (t : CType) (is_array : Bool) (i : Option AnInit) (scope : Scope) (a : Area) (r : Filled × Area) →
      HoldsAtFirst names signatures t is_array i scope a r → Extends a r.1
  holds_extends t is_array None scope a r j = rw j (extends_same a)
  holds_extends t is_array (Some (elements es comma)) scope a r j = elements_extend scope t es _ r j
  holds_extends t true (Some (value e)) scope a r j = rw j (extends_same a)
  holds_extends t false (Some (value e)) scope a r j = element_extends scope t e _ r j

  count_extends : (l : Option AnExp) (i : Option AnInit) (scope : Scope) (a : Area) (r : ℕ × Area) → a.measuring ≡ false →
      IsCount names signatures l i scope a r → Extends a r.1
  count_extends l i scope a r free j = rw (count_stays names signatures l i scope a r free j) (extends_same a)

  literals_extend : (l : Option AnExp) (scope : Scope) (a b : Area) → AreLaid names signatures l scope a b → Extends a b
  literals_extend None scope a b j = rw j (extends_same a)
  literals_extend (Some e) scope a b j = rw (j.whole) (exp_extends names signatures scope e a j.part j.typed)

  filled_declares : (n size : ℕ) (t : CType) (is_array : Bool) (d : ADeclarator) (e : Entry) (s : State) (r : ℕ × State) →
      IsFilled names signatures n size t is_array d e s r → OfVariable (IsObjectOf (length s.area.objects)) e → IsVariable e → Declares d.name s r.1
  filled_declares n size t is_array d e s r j of variable =
      let i = j.typed in
      let held = holds_extends t is_array (init_in d.init) (with_name d.name e s.scope) s.area i.part i.typed in
      let whole : Extends i.part.1 j.part = rw (i.whole) (filled_extends n (filled_to size i.part.0) i.part.1) in
      declares_is d.name e s n j.part r j.whole (extends_further s.area i.part.1 j.part held whole) of variable

  plain_declares : (is_static : Bool) (t : CType) (d : ADeclarator) (s : State) (r : ℕ × State) →
      IsPlainObject names signatures is_static t d s r → Declares d.name s r.1
  plain_declares is_static t d s r j =
      let added = laid_adds is_static d.at d.name (size_of t) (size_of t) s.area j.part j.typed in
      declares_from d.name s r.1 j.part.1 (added_extends s.area j.part added)
      (filled_declares j.part.0 (size_of t) t false d (entries.Variable t (variable_of is_static j.part.0)) (with_area j.part.1 s) r j.whole
      (variable_is is_static j.part.0 0 (length j.part.1.objects) (omega arith) (below_added s.area j.part.1 j.part added (extends_same j.part.1))) tt)

  counted_declares : (is_static : Bool) (t : CType) (d : ADeclarator) (e : Option AnExp) (n : ℕ) (s : State) (r : ℕ × State) →
      IsCountedArray names signatures is_static t d e n s r → Declares d.name s r.1
  counted_declares is_static t d e n s r j =
      let k = j.whole in
      let size = n * size_of t in
      let added = laid_adds is_static d.at d.name (size_of t) (n * size_of t) s.area j.part j.typed in
      let behind = literals_extend e s.scope j.part.1 k.part k.typed in
      declares_from d.name s r.1 k.part (extends_further s.area j.part.1 k.part (added_extends s.area j.part added) behind)
      (filled_declares j.part.0 size t true d (array_entry (pointer_to t) (variable_of is_static j.part.0) size)
      (with_area k.part s) r k.whole
      (array_is (pointer_to t) (variable_of is_static j.part.0) size (length k.part.objects)
      (variable_is is_static j.part.0 size (length k.part.objects) (laid_small is_static d.at d.name (size_of t) (n * size_of t) s.area j.part j.typed)
      (below_added s.area k.part j.part added behind)))
      (array_is_variable (pointer_to t) (variable_of is_static j.part.0) size))

  array_declares : (is_static : Bool) (t : CType) (d : ADeclarator) (e : Option AnExp) (s : State) (r : ℕ × State) →
      s.area.measuring ≡ false → IsArrayObject names signatures is_static t d e s r → Declares d.name s r.1
  array_declares is_static t d e s r free j =
      let k = j.whole in
      declares_from d.name s r.1 j.part.1 (count_extends e (init_in d.init) s.scope s.area j.part free j.typed)
      (counted_declares is_static t d e k.part (with_area j.part.1 s) r k.whole)

  object_by_declares : (is_static : Bool) (t : CType) (d : ADeclarator) (l : Option (Option AnExp)) (s : State) (r : ℕ × State) →
      s.area.measuring ≡ false → IsObjectBy names signatures is_static t d l s r → Declares d.name s r.1
  object_by_declares is_static t d None s r free j = plain_declares is_static t d s r j
  object_by_declares is_static t d (Some e) s r free j = array_declares is_static t d e s r free j

  pub object_declares : (is_static : Bool) (spec : Spec) (d : ADeclarator) (s : State) (r : ℕ × State) → s.area.measuring ≡ false →
      IsObject names signatures is_static spec d s r → Declares d.name s r.1
  object_declares is_static spec d s r free j = object_by_declares is_static (written spec d.stars) d
      (brackets_in d.length) s r free j.whole

pub declares_grows : (name : List ℕ) (s r : State) → Declares name s r → Grows s r
declares_grows name s r h =
    let same : length r.locals ≡ length s.locals = ap length h.locals in
    let block : r.room.length ≡ s.room.length = ap (λ (z : Room). z.length) h.room in
    record {
      locals = omega arith;
      registers = locals_same (length r.locals) (length s.locals) r.registers s.registers same h.registers;
      room = λ small. omega arith;
      stores = ap (λ (z : Room). z.stores) h.room;
      area = h.extends;
      outer = ap (λ (z : Scope). z.outer) h.names ∙ named_outer name h.entry s.scope;
    }

-- names stay in order, and so does the new one
pub declares_order : (scope : ℕ → Type 0) (parameters : ℕ) (name : List ℕ) (s r : State) → InOrder scope parameters s →
    Declares name s r → InOrder scope parameters r
declares_order scope parameters name s r o h =
    let same : length r.locals ≡ length s.locals = ap length h.locals in
    let block : r.room.length ≡ s.room.length = ap (λ (z : Room). z.length) h.room in
    let old = IsKnown scope (length s.locals) parameters (length s.area.objects) s.room.length in
    let new = IsKnown scope (length r.locals) parameters (length r.area.objects) r.room.length in
    let more : s.room.length ≤ 262144 → ScopeOf new s.scope = λ small. scope_more old new s.scope
    (known_more scope scope (length s.locals) parameters (length s.area.objects) s.room.length (length r.locals) (length r.area.objects) r.room.length
    (λ n k. k) (omega arith) h.extends.objects (omega arith)) (o.names small) in
    let one = variable_more (IsObjectOf (length r.area.objects)) new
    (object_known scope (length r.locals) parameters (length r.area.objects) r.room.length) h.entry h.of in
    record { names = λ small. rw (h.names) (scope_named new s.scope name h.entry (more (omega arith)) one); laying = h.extends.measuring ∙ o.laying }

pub objects_are_sound : ObjectsAreSound
objects_are_sound names signatures is_static spec d parameters n s r o e =
    let h = object_declares names signatures is_static spec d s (n, r) o.laying
    ((object_means names signatures is_static spec d s).found (n, r) e) in
    record { order = declares_order no_local parameters d.name s r o h; locals = h.locals; room = h.room; grows = declares_grows d.name s r h }

pub lengths_are_sound : LengthsAreSound
lengths_are_sound names signatures scope e n a b is = length_extends names signatures scope e a (n, b)
    ((length_means names signatures scope e a).found (n, b) is)
