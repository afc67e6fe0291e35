-- Declarations of automatic arrays, and the values that they and other memory locals become.
use Rattle.std.specs.Prelude.{◌≡◌, ℕ, ◌+◌, ◌-◌, ◌*◌, nat_lt, List, [], ◌∷◌, ◌++◌, Option, Some, None}
use Rattle.c_phrases.specs.Phrases.{AnExp, SomeExps, no_exps, exps}
use Rattle.c_types.specs.declared.types.CType.{CType}
use Rattle.c_types.specs.declared.fault.TypeKind.TheVariants.{BadInit, BadType}
use Rattle.c_types.specs.Answers.{Fault}
use Rattle.c_types.specs.Types.{size_of}
use Rattle.c_typed_definition.specs.c_typed_operators.specs.Rules.{fits}
use Rattle.c_types.specs.Typed.{AnExpression, ConvertTo}
use Rattle.c_typed_scope.specs.declared.entry.Entry.{Entry}
use Rattle.c_typed_scope.specs.declared.entry.Signature.{Signature}
use Rattle.c_phrases.specs.Units.{AnInit, value, elements, ADeclarator}
use Rattle.c_typed_definition.specs.c_program.specs.Statements.{ADeclaration, StoreOf}
use Rattle.c_typed_definition.specs.c_typed_expressions.specs.Phrases.{first, init_in}
use Rattle.c_typed_definition.specs.c_typed_expressions.specs.Relations.{Joint, FirstOf, Unless, IsTyped, FirstFault}
use Rattle.c_typed_definition.specs.Forms.{text_of, given_count, own_length}
use Rattle.c_typed_definition.specs.Rooms.{offset_in}
use Rattle.c_typed_definition.specs.State.{State, with_area}
use Rattle.c_typed_definition.specs.Automatics.{memory_array, zeros, text_stored}
use Rattle.c_typed_law.specs.Tests.{With, Without, Lacking, Never}
use Rattle.c_typed_law.specs.Values.{IsLength, LengthFault}

-- what declarations do, and the state that they leave
abbrev pub Done : Type 0
Done = List ADeclaration × State

-- names of the functions that are defined in the text, and their signatures
module _ (names : List (List ℕ × Entry)) (signatures : List Signature) where
  -- a value is converted to a type
  abbrev pub IsGiven : CType → AnExp → State → AnExpression × State → Type 0
  IsGiven t e s r = Joint (IsTyped names signatures s.scope e s.area) (λ x. Joint (With (fits t x.0) (λ y. y ≡ ConvertTo t x.0))
      (λ y u. u ≡ (y, with_area x.1 s))) r

  abbrev pub GivenFault : CType → AnExp → State → Fault → Type 0
  GivenFault t e s f = FirstOf (IsTyped names signatures s.scope e s.area) (FirstFault names signatures s.scope e s.area)
      (λ x. FirstOf (With (fits t x.0) (λ y. y ≡ ConvertTo t x.0)) (Lacking (fits t x.0) (first e) BadType Never) (λ y. Never)) f

  -- a value is stored at an offset of the block
  abbrev pub IsStored : CType → ℕ → AnExp → List ADeclaration → State → Done → Type 0
  IsStored t o e done s r = Joint (IsGiven t e s) (λ x u. u ≡ (done ++ StoreOf t o x.0 ∷ [], x.1)) r

  -- the values of a list, from left to right, each behind the element before
  abbrev pub AreStored : CType → ℕ → SomeExps → List ADeclaration → State → Done → Type 0
  AreStored t o no_exps done s r = r ≡ (done, s)
  AreStored t o (exps e es) done s r = Joint (IsStored t o e done s) (λ x. AreStored t (o + size_of t) es x.0 x.1) r

  abbrev pub StoredFault : CType → ℕ → SomeExps → List ADeclaration → State → Fault → Type 0
  StoredFault t o no_exps done s f = ⊥
  StoredFault t o (exps e es) done s f = FirstOf (IsStored t o e done s) (FirstOf (IsGiven t e s) (GivenFault t e s) (λ x. Never))
      (λ x. StoredFault t (o + size_of t) es x.0 x.1) f

  -- an array becomes nothing yet, the values of a list, or the bytes of a literal
  abbrev pub IsArrayBegun : CType → ℕ → Option AnInit → List ADeclaration → State → Done → Type 0
  IsArrayBegun t o None done s r = r ≡ (done, s)
  IsArrayBegun t o (Some (elements es comma)) done s r = AreStored t o es done s r
  IsArrayBegun t o (Some (value e)) done s r = r ≡ (done ++ text_stored t o (text_of e), s)

  abbrev pub ArrayBegunFault : CType → ℕ → Option AnInit → List ADeclaration → State → Fault → Type 0
  ArrayBegunFault t o None done s f = ⊥
  ArrayBegunFault t o (Some (elements es comma)) done s f = StoredFault t o es done s f
  ArrayBegunFault t o (Some (value e)) done s f = ⊥

  -- the number of elements: the length, whose literals are objects, or else as many as the initialiser has
  abbrev pub IsAutomaticLength : Option AnExp → Option AnInit → State → ℕ × State → Type 0
  IsAutomaticLength None i s r = r ≡ (own_length i, s)
  IsAutomaticLength (Some e) i s r = Joint (IsLength names signatures s.scope e s.area) (λ x u. u ≡ (x.0, with_area x.1 s)) r

  abbrev pub AutomaticLengthFault : Option AnExp → Option AnInit → State → Fault → Type 0
  AutomaticLengthFault None i s f = ⊥
  AutomaticLengthFault (Some e) i s f =
      FirstOf (IsLength names signatures s.scope e s.area) (LengthFault names signatures s.scope e s.area) (λ x. Never) f

  -- an array, whose length is no less than its initialiser's; its missing elements become 0 behind the others
  abbrev pub IsArray : CType → ADeclarator → Option AnExp → List ADeclaration → State → Done → Type 0
  IsArray t d l done s r =
      Joint (IsAutomaticLength l (init_in d.init) s)
      (λ m. Joint (Without (nat_lt m.0 (given_count (init_in d.init))) (λ n. n ≡ m.0))
      (λ n. Joint (IsArrayBegun t (offset_in (size_of t) m.1.room) (init_in d.init) done (memory_array t (n * size_of t) d m.1))
      (λ x u. u ≡ (
        x.0 ++ zeros t (offset_in (size_of t) m.1.room + given_count (init_in d.init) * size_of t)
            (n - given_count (init_in d.init)),
        x.1,
      )))) r

  abbrev pub ArrayFault : CType → ADeclarator → Option AnExp → List ADeclaration → State → Fault → Type 0
  ArrayFault t d l done s f =
      FirstOf (IsAutomaticLength l (init_in d.init) s) (AutomaticLengthFault l (init_in d.init) s)
      (λ m. FirstOf (Without (nat_lt m.0 (given_count (init_in d.init))) (λ n. n ≡ m.0))
      (Unless (nat_lt m.0 (given_count (init_in d.init))) d.at BadInit Never)
      (λ n. FirstOf (IsArrayBegun t (offset_in (size_of t) m.1.room) (init_in d.init) done (memory_array t (n * size_of t) d m.1))
      (ArrayBegunFault t (offset_in (size_of t) m.1.room) (init_in d.init) done (memory_array t (n * size_of t) d m.1))
      (λ x. Never))) f
