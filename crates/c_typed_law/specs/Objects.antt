-- Declarations of objects: global variables and static locals.
use Rattle.std.specs.Prelude.{◌≡◌, ℕ, ◌*◌, nat_lt, Bool, true, false, List, [], Option, Some, None, Ok, Err}
use Rattle.c_phrases.specs.declared.operator.Spec.{Spec}
use Rattle.c_types.specs.declared.types.CType.{CType}
use Rattle.c_types.specs.declared.fault.TypeKind.TheVariants.{BadInit}
use Rattle.c_types.specs.Answers.{Fault}
use Rattle.c_types.specs.Types.{size_of, pointer_to}
use Rattle.c_typed_scope.specs.declared.entry.Entry.{Entry}
use Rattle.c_typed_scope.specs.declared.entry.Entry.TheVariants as entries
use Rattle.c_typed_scope.specs.declared.entry.Signature.{Signature}
use Rattle.c_typed_scope.specs.Scopes.{Scope, with_name}
use Rattle.c_typed_scope.specs.Layout.{Area}
use Rattle.c_typed_scope.specs.Contents.{Filled, filled_to, filled}
use Rattle.c_phrases.specs.Phrases.{AnExp}
use Rattle.c_phrases.specs.Units.{AnInit, value, elements, ADeclarator}
use Rattle.c_typed_definition.specs.c_typed_expressions.specs.Phrases.{init_in, brackets_in}
use Rattle.c_typed_definition.specs.c_typed_expressions.specs.Expressions.{written}
use Rattle.c_typed_definition.specs.c_typed_expressions.specs.Relations.{Joint, FirstOf, Unless, IsTyped, FirstFault}
use Rattle.c_typed_definition.specs.Forms.{text_of, given_count, own_length}
use Rattle.c_typed_definition.specs.State.{State, with_area, named_state, measuring, variable_of, array_entry, laid, text_contents}
use Rattle.c_typed_law.specs.Tests.{Without, Never}
use Rattle.c_typed_law.specs.Values.{IsLength, LengthFault, IsElement, ElementFault, AreElements, ElementsFault}
use Rattle.c_typed_law.specs.Forms.{IsForm, FormFault}

-- names of the functions that are defined in the text, and their signatures
module _ (names : List (List ℕ × Entry)) (signatures : List Signature) where
  -- the number of elements: the length, whose literals take no room while it is measured, or else as many as the initialiser has
  abbrev pub IsCount : Option AnExp → Option AnInit → Scope → Area → ℕ × Area → Type 0
  IsCount None i scope a r = r ≡ (own_length i, a)
  IsCount (Some e) i scope a r = Joint (IsLength names signatures scope e (measuring true a)) (λ x u. u ≡ (x.0, measuring false x.1)) r

  abbrev pub CountFault : Option AnExp → Option AnInit → Scope → Area → Fault → Type 0
  CountFault None i scope a f = ⊥
  CountFault (Some e) i scope a f = FirstOf (IsLength names signatures scope e (measuring true a))
      (LengthFault names signatures scope e (measuring true a)) (λ x. Never) f

  -- the literals of the length lie behind the array
  abbrev pub AreLaid : Option AnExp → Scope → Area → Area → Type 0
  AreLaid None scope a b = b ≡ a
  AreLaid (Some e) scope a b = Joint (IsTyped names signatures scope e a) (λ x u. u ≡ x.1) b

  abbrev pub LaidFault : Option AnExp → Scope → Area → Fault → Type 0
  LaidFault None scope a f = ⊥
  LaidFault (Some e) scope a f = FirstOf (IsTyped names signatures scope e a) (FirstFault names signatures scope e a) (λ x. Never) f

  -- what an object holds at first: nothing but zeros, the values of a list, the bytes of a literal, or one value
  abbrev pub HoldsAtFirst : CType → Bool → Option AnInit → Scope → Area → Filled × Area → Type 0
  HoldsAtFirst t is_array None scope a r = r ≡ (record { bytes = []; links = [] }, a)
  HoldsAtFirst t is_array (Some (elements es comma)) scope a r = AreElements names signatures scope t es
      (record { bytes = []; links = [] }, a) r
  HoldsAtFirst t true (Some (value e)) scope a r = r ≡ (text_contents (text_of e), a)
  HoldsAtFirst t false (Some (value e)) scope a r = IsElement names signatures scope t e (record { bytes = []; links = [] }, a) r

  abbrev pub HoldsFault : CType → Bool → Option AnInit → Scope → Area → Fault → Type 0
  HoldsFault t is_array None scope a f = ⊥
  HoldsFault t is_array (Some (elements es comma)) scope a f = ElementsFault names signatures scope t es
      (record { bytes = []; links = [] }, a) f
  HoldsFault t true (Some (value e)) scope a f = ⊥
  HoldsFault t false (Some (value e)) scope a f = ElementFault names signatures scope t e (record { bytes = []; links = [] }, a) f

  -- the object of this number and size, whose name is in scope in its own initialiser
  abbrev pub IsFilled : ℕ → ℕ → CType → Bool → ADeclarator → Entry → State → ℕ × State → Type 0
  IsFilled n size t is_array d e s r =
      Joint
      (Joint (HoldsAtFirst t is_array (init_in d.init) (with_name d.name e s.scope) s.area) (λ h a. a ≡ filled n (filled_to size h.0) h.1))
      (λ a u. u ≡ (n, with_area a (named_state d.name e s))) r

  abbrev pub FilledFault : ℕ → ℕ → CType → Bool → ADeclarator → Entry → State → Fault → Type 0
  FilledFault n size t is_array d e s f =
      FirstOf
      (Joint (HoldsAtFirst t is_array (init_in d.init) (with_name d.name e s.scope) s.area) (λ h a. a ≡ filled n (filled_to size h.0) h.1))
      (FirstOf (HoldsAtFirst t is_array (init_in d.init) (with_name d.name e s.scope) s.area)
      (HoldsFault t is_array (init_in d.init) (with_name d.name e s.scope) s.area) (λ h. Never))
      (λ a. Never) f

  -- a variable that is no array: its room, and what it holds
  abbrev pub IsPlainObject : Bool → CType → ADeclarator → State → ℕ × State → Type 0
  IsPlainObject is_static t d s r =
      Joint (λ l. laid is_static d.at d.name (size_of t) (size_of t) s.area ≡ Ok l)
      (λ l. IsFilled l.0 (size_of t) t false d (entries.Variable t (variable_of is_static l.0)) (with_area l.1 s)) r

  abbrev pub PlainObjectFault : Bool → CType → ADeclarator → State → Fault → Type 0
  PlainObjectFault is_static t d s f =
      FirstOf (λ l. laid is_static d.at d.name (size_of t) (size_of t) s.area ≡ Ok l)
      (λ g. laid is_static d.at d.name (size_of t) (size_of t) s.area ≡ Err g)
      (λ l. FilledFault l.0 (size_of t) t false d (entries.Variable t (variable_of is_static l.0)) (with_area l.1 s)) f

  -- an array of this many elements: its room, the literals of its length, and what it holds
  abbrev pub IsCountedArray : Bool → CType → ADeclarator → Option AnExp → ℕ → State → ℕ × State → Type 0
  IsCountedArray is_static t d e n s r =
      Joint (λ l. laid is_static d.at d.name (size_of t) (n * size_of t) s.area ≡ Ok l)
      (λ l. Joint (AreLaid e s.scope l.1) (λ a. IsFilled l.0 (n * size_of t) t true d
      (array_entry (pointer_to t) (variable_of is_static l.0) (n * size_of t)) (with_area a s))) r

  abbrev pub CountedArrayFault : Bool → CType → ADeclarator → Option AnExp → ℕ → State → Fault → Type 0
  CountedArrayFault is_static t d e n s f =
      FirstOf (λ l. laid is_static d.at d.name (size_of t) (n * size_of t) s.area ≡ Ok l)
      (λ g. laid is_static d.at d.name (size_of t) (n * size_of t) s.area ≡ Err g)
      (λ l. FirstOf (AreLaid e s.scope l.1) (LaidFault e s.scope l.1) (λ a.
      FilledFault l.0 (n * size_of t) t true d (array_entry (pointer_to t) (variable_of is_static l.0) (n * size_of t)) (with_area a s))) f

  -- an array: its length, which is no less than its initialiser's, and then the object
  abbrev pub IsArrayObject : Bool → CType → ADeclarator → Option AnExp → State → ℕ × State → Type 0
  IsArrayObject is_static t d e s r =
      Joint (IsCount e (init_in d.init) s.scope s.area)
      (λ m. Joint (Without (nat_lt m.0 (given_count (init_in d.init))) (λ n. n ≡ m.0))
      (λ n. IsCountedArray is_static t d e n (with_area m.1 s))) r

  abbrev pub ArrayObjectFault : Bool → CType → ADeclarator → Option AnExp → State → Fault → Type 0
  ArrayObjectFault is_static t d e s f =
      FirstOf (IsCount e (init_in d.init) s.scope s.area) (CountFault e (init_in d.init) s.scope s.area)
      (λ m. FirstOf (Without (nat_lt m.0 (given_count (init_in d.init))) (λ n. n ≡ m.0))
      (Unless (nat_lt m.0 (given_count (init_in d.init))) d.at BadInit Never)
      (λ n. CountedArrayFault is_static t d e n (with_area m.1 s))) f

  abbrev pub IsObjectBy : Bool → CType → ADeclarator → Option (Option AnExp) → State → ℕ × State → Type 0
  IsObjectBy is_static t d None s r = IsPlainObject is_static t d s r
  IsObjectBy is_static t d (Some e) s r = IsArrayObject is_static t d e s r

  abbrev pub ObjectFaultBy : Bool → CType → ADeclarator → Option (Option AnExp) → State → Fault → Type 0
  ObjectFaultBy is_static t d None s f = PlainObjectFault is_static t d s f
  ObjectFaultBy is_static t d (Some e) s f = ArrayObjectFault is_static t d e s f

  -- a global variable or a static local, and the number of its object
  abbrev pub IsObject : Bool → Spec → ADeclarator → State → ℕ × State → Type 0
  IsObject is_static spec d s r = Joint (IsForm d (written spec d.stars) s.scope)
      (λ ok. IsObjectBy is_static (written spec d.stars) d (brackets_in d.length) s) r

  abbrev pub ObjectFault : Bool → Spec → ADeclarator → State → Fault → Type 0
  ObjectFault is_static spec d s f = FirstOf (IsForm d (written spec d.stars) s.scope) (FormFault d (written spec d.stars) s.scope)
      (λ ok. ObjectFaultBy is_static (written spec d.stars) d (brackets_in d.length) s) f
