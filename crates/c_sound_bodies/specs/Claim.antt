-- What is claimed of the typing of function bodies: the typed statements fit and stand, and what is in scope stays in order.
use Rattle.std.specs.Prelude.{◌≡◌, ℕ, Bool, false, List, ◌++◌, length, Some, slice_get, Ok}
use Rattle.tree_core.specs.declared.program.Object.{Object}
use Rattle.c_phrases.specs.declared.operator.Spec.{Spec}
use Rattle.c_phrases.specs.Phrases.{AnExp}
use Rattle.c_phrases.specs.Units.{ADeclarator, SomeItems}
use Rattle.c_types.specs.declared.types.CType.{CType}
use Rattle.c_program.specs.Statements.{SomeActions, NoActions, MoreActions}
use Rattle.c_program.specs.Programs.{ARoutine}
use Rattle.c_typed_words.specs.Words.{IsToken}
use Rattle.c_typed_words.specs.Phrases.{ItemsOf}
use Rattle.c_sound.specs.Fits.{FitsActs, behind_act, no_local}
use Rattle.c_sound.specs.Stands.{IsThere, Takes, StandsActs}
use Rattle.c_typed_scope.specs.declared.entry.Entry.{Entry}
use Rattle.c_typed_scope.specs.declared.entry.Signature.{Signature}
use Rattle.c_typed_scope.specs.Scopes.{Scope}
use Rattle.c_typed_scope.specs.Layout.{Area}
use Rattle.c_typed_expressions.specs.Calls.{callee_of}
use Rattle.c_typed_law.specs.c_typed_definition.specs.Initialisers.{type_length}
use Rattle.c_typed_law.specs.c_typed_definition.specs.State.{State}
use Rattle.c_typed_law.specs.c_typed_definition.specs.Declarations.{type_object}
use Rattle.c_typed_law.specs.c_typed_definition.specs.Statements.{type_items}
use Rattle.c_sound_bodies.specs.States.{InOrder, Extends, Grows, HasRoom, HasPlaces}

-- behind a row of statements
abbrev pub behind_acts : (ℕ → Type 0) → SomeActions → ℕ → Type 0
behind_acts scope NoActions = scope
behind_acts scope (MoreActions a row) = behind_acts (behind_act scope a) row

-- each function of a text is one of these with as many parameters, or a service
abbrev pub AreDefined : List Signature → List ARoutine → Type 0
AreDefined signatures gs = (n : ℕ) (s : Signature) → slice_get signatures n ≡ Some s → Takes gs (callee_of n) (length s.parameters)

-- what a body is typed as, from one state to another
pub record BodyIsSound (signatures : List Signature) (looping : Bool) (parameters : ℕ) (row : SomeItems) (s : State)
    (acts : SomeActions) (r : State) : Type 0 where
  pub fits : (size : ℕ) → HasRoom size r → ItemsOf IsToken row → FitsActs size no_local looping acts
  pub stands : (gs : List ARoutine) (objects block : ℕ) → HasPlaces objects block r → AreDefined signatures gs →
      StandsActs (IsThere objects parameters block) (Takes gs) objects acts
  pub order : InOrder (behind_acts no_local acts) parameters r
  pub grows : Grows s r

-- The statements of a function's body, where no local is in scope yet, stand, and fit where they are of tokens of the grammar.
abbrev pub BodiesAreSound : Type 0
BodiesAreSound =
    (names : List (List ℕ × Entry)) (signatures : List Signature) (result : CType) (looping : Bool) (row : SomeItems) (parameters : ℕ)
    (s r : State) (acts : SomeActions) →
    InOrder no_local parameters s → type_items names signatures result looping row s ≡ Ok (acts, r) →
    BodyIsSound signatures looping parameters row s acts r

-- what the declaration of an object leaves
pub record ObjectIsSound (parameters : ℕ) (s r : State) : Type 0 where
  pub order : InOrder no_local parameters r
  pub locals : r.locals ≡ s.locals
  pub room : r.room ≡ s.room
  pub grows : Grows s r

-- The declaration of a variable at file level leaves what is in scope in order.
abbrev pub ObjectsAreSound : Type 0
ObjectsAreSound =
    (names : List (List ℕ × Entry)) (signatures : List Signature) (is_static : Bool) (spec : Spec) (d : ADeclarator) (parameters n : ℕ)
    (s r : State) →
    InOrder no_local parameters s → type_object names signatures is_static spec d s ≡ Ok (n, r) → ObjectIsSound parameters s r

-- A length in brackets may add literals.
abbrev pub LengthsAreSound : Type 0
LengthsAreSound =
    (names : List (List ℕ × Entry)) (signatures : List Signature) (scope : Scope) (e : AnExp) (n : ℕ) (a b : Area) →
    type_length names signatures scope e a ≡ Ok (n, b) → Extends a b

-- Objects are added behind those that an area has, which stay as they are.
pub record Adds (a b : Area) : Type 0 where
  pub more : List Object
  pub is : b.objects ≡ a.objects ++ more

-- The statements of a body add objects,
abbrev pub BodiesAdd : Type 0
BodiesAdd =
    (names : List (List ℕ × Entry)) (signatures : List Signature) (result : CType) (looping : Bool) (row : SomeItems) (parameters : ℕ)
    (s r : State) (acts : SomeActions) →
    InOrder no_local parameters s → type_items names signatures result looping row s ≡ Ok (acts, r) → Adds s.area r.area

-- so does the declaration of a variable at file level,
abbrev pub ObjectsAdd : Type 0
ObjectsAdd =
    (names : List (List ℕ × Entry)) (signatures : List Signature) (is_static : Bool) (spec : Spec) (d : ADeclarator) (n : ℕ)
    (s r : State) →
    s.area.measuring ≡ false → type_object names signatures is_static spec d s ≡ Ok (n, r) → Adds s.area r.area

-- and so may a length in brackets.
abbrev pub LengthsAdd : Type 0
LengthsAdd =
    (names : List (List ℕ × Entry)) (signatures : List Signature) (scope : Scope) (e : AnExp) (n : ℕ) (a b : Area) →
    type_length names signatures scope e a ≡ Ok (n, b) → Adds a b
