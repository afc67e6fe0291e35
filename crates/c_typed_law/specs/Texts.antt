-- Functions and whole texts: what a text is typed as, and which fault is its first.
use Rattle.std.specs.Prelude.{◌≡◌, ℕ, ◌+◌, nat_lt, Bool, false, is_some, List, [], ◌∷◌, length, Option, Some, None}
use Rattle.c_types.specs.declared.typed.TheConstants.{BLOCK_LIMIT}
use Rattle.c_phrases.specs.declared.operator.Spec.{Spec}
use Rattle.c_types.specs.declared.fault.TypeKind.TheVariants.{DataFull}
use Rattle.c_types.specs.Answers.{Fault}
use Rattle.c_typed_scope.specs.declared.entry.Entry.{Entry}
use Rattle.c_typed_scope.specs.declared.entry.Signature.{Signature}
use Rattle.c_typed_scope.specs.Scopes.{Scope, find}
use Rattle.c_typed_scope.specs.Layout.{Area}
use Rattle.c_phrases.specs.Phrases.{AnExp}
use Rattle.c_phrases.specs.Units.{SomeItems, ADeclarator, AParam, AFunction, ADeclared, function, globals, AnExternal}
use Rattle.c_typed_definition.specs.c_program.specs.Programs.{AProgram}
use Rattle.c_typed_definition.specs.c_typed_expressions.specs.Phrases.{params_in, brackets_in}
use Rattle.c_typed_definition.specs.c_typed_expressions.specs.Expressions.{integer_of, written}
use Rattle.c_typed_definition.specs.c_typed_expressions.specs.Relations.{Joint, FirstOf, Unless}
use Rattle.c_typed_definition.specs.State.{State, with_area}
use Rattle.c_typed_definition.specs.Signatures.{parameter_type, signature_of, known}
use Rattle.c_typed_definition.specs.Headings.{Text, with_state, is_below, with_parameter, with_declared, with_body}
use Rattle.c_typed_definition.specs.Bodies.{end_in, routine_of, entered_function, left_function}
use Rattle.c_typed_definition.specs.Texts.{empty_text}
use Rattle.c_typed_law.specs.Tests.{Without, Never}
use Rattle.c_typed_law.specs.Wholes.{IsWhole, WholeFault}
use Rattle.c_typed_law.specs.Values.{IsLength, LengthFault}
use Rattle.c_typed_law.specs.Objects.{IsObject, ObjectFault}
use Rattle.c_typed_law.specs.Statements.{AreItems, ItemsFault}
use Rattle.c_typed_law.specs.Headings.{IsEarlier, EarlierFault, IsHead, HeadFault, IsParameterForm}
use Rattle.c_typed_law.specs.Headings.{ParameterFormFault, Agrees, AgreesFault}

-- names and signatures of the functions that are defined in the text
module _ (names : List (List ℕ × Entry)) (signatures : List Signature) where
  -- a parameter's length is a constant in range too
  abbrev pub IsParameterLength : Option (Option AnExp) → Scope → Area → Area → Type 0
  IsParameterLength None scope a b = b ≡ a
  IsParameterLength (Some None) scope a b = b ≡ a
  IsParameterLength (Some (Some e)) scope a b = Joint (IsLength names signatures scope e a) (λ x u. u ≡ x.1) b

  abbrev pub ParameterLengthFault : Option (Option AnExp) → Scope → Area → Fault → Type 0
  ParameterLengthFault None scope a f = ⊥
  ParameterLengthFault (Some None) scope a f = ⊥
  ParameterLengthFault (Some (Some e)) scope a f = FirstOf (IsLength names signatures scope e a)
      (LengthFault names signatures scope e a) (λ x. Never) f

  -- a parameter of this number
  abbrev pub IsParameter : Bool → AParam → ℕ → State → State → Type 0
  IsParameter defines p n s r =
      Joint (IsParameterForm p.name defines p s.scope) (λ ok. Joint (IsParameterLength (brackets_in p.length) s.scope s.area)
      (λ a u. u ≡ with_parameter p.name (parameter_type p) n (with_area a s))) r

  abbrev pub ParameterFault : Bool → ℕ → AParam → State → Fault → Type 0
  ParameterFault defines at p s f =
      FirstOf (IsParameterForm p.name defines p s.scope) (ParameterFormFault p.name defines at p s.scope)
      (λ ok. FirstOf (IsParameterLength (brackets_in p.length) s.scope s.area)
      (ParameterLengthFault (brackets_in p.length) s.scope s.area) (λ a. Never)) f

  -- the parameters from left to right, from number n on
  abbrev pub AreParameters : Bool → List AParam → ℕ → State → State → Type 0
  AreParameters defines [] n s r = r ≡ s
  AreParameters defines (p ∷ ps) n s r = Joint (IsParameter defines p n s) (AreParameters defines ps (n + 1)) r

  abbrev pub ParametersFault : Bool → ℕ → List AParam → ℕ → State → Fault → Type 0
  ParametersFault defines at [] n s f = ⊥
  ParametersFault defines at (p ∷ ps) n s f = FirstOf (IsParameter defines p n s) (ParameterFault defines at p s)
      (ParametersFault defines at ps (n + 1)) f

  -- the parameters and the body's outermost block are one scope
  abbrev pub IsBody : Spec → AFunction → Option SomeItems → State → Text → Text → Type 0
  IsBody spec f None s t r = r ≡ with_state (left_function s) t
  IsBody spec f (Some row) s t r =
      Joint (AreItems names signatures (written spec f.stars) false row s) (λ x.
      Without (nat_lt BLOCK_LIMIT x.1.room.length) (λ u. u ≡ with_body (routine_of spec f x.1 x.0) (with_state (left_function x.1) t))) r

  -- DataFull of its memory locals comes behind its other faults, where it ends
  abbrev pub BodyFault : Spec → AFunction → Option SomeItems → State → Text → Fault → Type 0
  BodyFault spec f None s t g = ⊥
  BodyFault spec f (Some row) s t g = FirstOf (AreItems names signatures (written spec f.stars) false row s)
      (ItemsFault names signatures (written spec f.stars) false row s)
      (λ x. Unless (nat_lt BLOCK_LIMIT x.1.room.length) (end_in t) DataFull Never) g

  -- once its name is in scope: its parameters, its agreement with an earlier declaration, and its body
  abbrev pub IsIntroduced : Option ℕ → Spec → AFunction → Text → Text → Type 0
  IsIntroduced earlier spec f t r =
      Joint (AreParameters (is_some f.body) (params_in f.params) 0 (entered_function f t.state)) (λ s.
      Joint (Agrees earlier t.declared (signature_of spec f)) (λ same.
      IsBody spec f f.body s t)) r

  abbrev pub IntroducedFault : Option ℕ → Spec → AFunction → Text → Fault → Type 0
  IntroducedFault earlier spec f t g =
      FirstOf (AreParameters (is_some f.body) (params_in f.params) 0 (entered_function f t.state))
      (ParametersFault (is_some f.body) f.at (params_in f.params) 0 (entered_function f t.state)) (λ s.
      FirstOf (Agrees earlier t.declared (signature_of spec f)) (AgreesFault earlier t.declared (signature_of spec f) f.at) (λ same.
      BodyFault spec f f.body s t)) g

  -- a function: its name, which is no variable's, its result, and then what follows
  abbrev pub IsFunction : Spec → AFunction → Text → Text → Type 0
  IsFunction spec f t r =
      Joint (IsEarlier (find t.state.scope.here f.name)) (λ earlier.
      Joint (IsHead (is_some f.body) (is_below (find names f.name) (length t.bodies + 2)) (integer_of spec) f.stars) (λ ok.
      IsIntroduced earlier spec f (with_declared earlier spec f t))) r

  abbrev pub FunctionFault : Spec → AFunction → Text → Fault → Type 0
  FunctionFault spec f t g =
      FirstOf (IsEarlier (find t.state.scope.here f.name)) (EarlierFault (find t.state.scope.here f.name) f.at) (λ earlier.
      FirstOf (IsHead (is_some f.body) (is_below (find names f.name) (length t.bodies + 2)) (integer_of spec) f.stars)
      (HeadFault (is_some f.body) (is_below (find names f.name) (length t.bodies + 2)) (integer_of spec) f.stars f.at) (λ ok.
      IntroducedFault earlier spec f (with_declared earlier spec f t))) g

  -- the global variables of one declaration from left to right
  abbrev pub AreGlobals : Spec → List ADeclarator → State → State → Type 0
  AreGlobals spec [] s r = r ≡ s
  AreGlobals spec (d ∷ ds) s r = Joint (IsObject names signatures false spec d s) (λ x. AreGlobals spec ds x.1) r

  abbrev pub GlobalsFault : Spec → List ADeclarator → State → Fault → Type 0
  GlobalsFault spec [] s f = ⊥
  GlobalsFault spec (d ∷ ds) s f = FirstOf (IsObject names signatures false spec d s)
      (ObjectFault names signatures false spec d s) (λ x. GlobalsFault spec ds x.1) f

  abbrev pub IsExternalBy : Spec → ADeclared → Text → Text → Type 0
  IsExternalBy spec (function f) t r = IsFunction spec f t r
  IsExternalBy spec (globals ds) t r = Joint (AreGlobals spec ds t.state) (λ s u. u ≡ with_state s t) r

  abbrev pub ExternalFaultBy : Spec → ADeclared → Text → Fault → Type 0
  ExternalFaultBy spec (function f) t g = FunctionFault spec f t g
  ExternalFaultBy spec (globals ds) t g = FirstOf (AreGlobals spec ds t.state) (GlobalsFault spec ds t.state) (λ s. Never) g

  -- the externals in order
  abbrev pub AreExternals : List AnExternal → Text → Text → Type 0
  AreExternals [] t r = r ≡ t
  AreExternals (e ∷ es) t r = Joint (IsExternalBy e.spec e.declared t) (AreExternals es) r

  abbrev pub ExternalsFault : List AnExternal → Text → Fault → Type 0
  ExternalsFault [] t f = ⊥
  ExternalsFault (e ∷ es) t f = FirstOf (IsExternalBy e.spec e.declared t) (ExternalFaultBy e.spec e.declared t) (ExternalsFault es) f

-- The text is well typed, as this program. A call may stand before its function's definition: the functions of the
-- whole text are known in each. Where the bodies of functions end, and the text, is told only by faults.
unfoldable pub IsText : List AnExternal → List ℕ → ℕ → AProgram → Type 0
IsText text ends end p = Joint (AreExternals (known text).names (known text).signatures text (empty_text ends)) (IsWhole end) p

-- The text's first fault is this one: all before it is well typed. NoMain comes behind all others, at the text's end, and before it DataFull of
-- the second stack.
unfoldable pub TextFault : List AnExternal → List ℕ → ℕ → Fault → Type 0
TextFault text ends end f =
    FirstOf (AreExternals (known text).names (known text).signatures text (empty_text ends))
    (ExternalsFault (known text).names (known text).signatures text (empty_text ends)) (λ t. WholeFault t end) f
