-- Declarations of the variables of a block: automatic ones, memory locals among them, and static ones, which are objects.
use Rattle.std.specs.Prelude.{◌≡◌, ℕ, not, ◌&&◌, Bool, true, false, List, [], ◌∷◌, ◌++◌, length, Option, Some, None}
use Rattle.c_phrases.specs.declared.operator.Spec.{Spec}
use Rattle.c_phrases.specs.declared.operator.Storage.{Storage}
use Rattle.c_phrases.specs.declared.operator.Storage.TheVariants as storages
use Rattle.c_types.specs.declared.types.CType.{CType}
use Rattle.c_types.specs.Answers.{Fault}
use Rattle.c_types.specs.Types.{size_of}
use Rattle.c_types.specs.Typed.{Constant}
use Rattle.c_typed_scope.specs.declared.entry.Entry.{Entry}
use Rattle.c_typed_scope.specs.declared.entry.Signature.{Signature}
use Rattle.c_phrases.specs.Phrases.{AnExp}
use Rattle.c_phrases.specs.Units.{AnInit, value, elements, ADeclarator}
use Rattle.c_typed_definition.specs.c_program.specs.Statements.{ADeclaration, KeepOf, ClearOf, BeginOf, StoreOf}
use Rattle.c_typed_definition.specs.c_typed_expressions.specs.Phrases.{init_in, brackets_in}
use Rattle.c_typed_definition.specs.c_typed_expressions.specs.Expressions.{written}
use Rattle.c_typed_definition.specs.c_typed_expressions.specs.Relations.{Joint, FirstOf}
use Rattle.c_typed_definition.specs.Rooms.{offset_in, is_next_addressed}
use Rattle.c_typed_definition.specs.State.{State, with_local, with_register}
use Rattle.c_typed_definition.specs.Automatics.{memory_variable}
use Rattle.c_typed_law.specs.Tests.{Never}
use Rattle.c_typed_law.specs.Arrays.{Done, IsGiven, GivenFault, IsStored, IsArray, ArrayFault}
use Rattle.c_typed_law.specs.Forms.{IsAutomaticForm, AutomaticFormFault}
use Rattle.c_typed_law.specs.Objects.{IsObject, ObjectFault}

-- names of the functions that are defined in the text, and their signatures
module _ (names : List (List ℕ × Entry)) (signatures : List Signature) where
  -- the value that an automatic local begins with; one without a value begins with zero
  abbrev pub IsBegun : CType → ℕ → Option AnInit → List ADeclaration → State → Done → Type 0
  IsBegun t n None done s r = r ≡ (done ++ ClearOf n ∷ [], s)
  IsBegun t n (Some (elements es comma)) done s r = r ≡ (done ++ ClearOf n ∷ [], s)
  IsBegun t n (Some (value e)) done s r = Joint (IsGiven names signatures t e s) (λ x u. u ≡ (done ++ BeginOf n x.0 ∷ [], x.1)) r

  abbrev pub BegunFault : CType → Option AnInit → State → Fault → Type 0
  BegunFault t None s f = ⊥
  BegunFault t (Some (elements es comma)) s f = ⊥
  BegunFault t (Some (value e)) s f = FirstOf (IsGiven names signatures t e s) (GivenFault names signatures t e s) (λ x. Never) f

  -- a memory local is 0, and then becomes its value
  abbrev pub IsMemoryBegun : CType → ℕ → Option AnInit → List ADeclaration → State → Done → Type 0
  IsMemoryBegun t o None done s r = r ≡ (done ++ StoreOf t o (Constant 0) ∷ [], s)
  IsMemoryBegun t o (Some (elements es comma)) done s r = r ≡ (done ++ StoreOf t o (Constant 0) ∷ [], s)
  IsMemoryBegun t o (Some (value e)) done s r = IsStored names signatures t o e (done ++ StoreOf t o (Constant 0) ∷ []) s r

  -- a variable that is no array: a memory local where `&` is applied to it
  abbrev pub IsVariable : Bool → CType → ADeclarator → List ADeclaration → State → Done → Type 0
  IsVariable true t d done s r =
      IsMemoryBegun t (offset_in (size_of t) s.room) (init_in d.init) done (memory_variable t d s) r
  IsVariable false t d done s r = IsBegun t (length s.locals) (init_in d.init) done (with_local t d.name s) r

  abbrev pub VariableFault : Bool → CType → ADeclarator → State → Fault → Type 0
  VariableFault true t d s f = BegunFault t (init_in d.init) (memory_variable t d s) f
  VariableFault false t d s f = BegunFault t (init_in d.init) (with_local t d.name s) f

  abbrev pub IsAutomaticBy : Option (Option AnExp) → Bool → CType → ADeclarator → List ADeclaration → State → Done → Type 0
  IsAutomaticBy None is_register t d done s r = IsVariable (not is_register && is_next_addressed s.room) t d done s r
  IsAutomaticBy (Some l) is_register t d done s r = IsArray names signatures t d l done s r

  abbrev pub AutomaticFaultBy : Option (Option AnExp) → Bool → CType → ADeclarator → List ADeclaration → State → Fault → Type 0
  AutomaticFaultBy None is_register t d done s f = VariableFault (not is_register && is_next_addressed s.room) t d s f
  AutomaticFaultBy (Some l) is_register t d done s f = ArrayFault names signatures t d l done s f

  -- an automatic variable, whose name is in scope in its own initialiser
  abbrev pub IsAutomatic : Bool → Spec → ADeclarator → List ADeclaration → State → Done → Type 0
  IsAutomatic is_register spec d done s r = Joint (IsAutomaticForm is_register d (written spec d.stars) s.scope)
      (λ ok. IsAutomaticBy (brackets_in d.length) is_register (written spec d.stars) d done s) r

  abbrev pub AutomaticFault : Bool → Spec → ADeclarator → List ADeclaration → State → Fault → Type 0
  AutomaticFault is_register spec d done s f = FirstOf (IsAutomaticForm is_register d (written spec d.stars) s.scope)
      (AutomaticFormFault is_register d (written spec d.stars) s.scope)
      (λ ok. AutomaticFaultBy (brackets_in d.length) is_register (written spec d.stars) d done s) f

  -- a declarator of a block, by its storage; a `register` local is an automatic one whose number is noted
  abbrev pub IsLocal : Storage → Spec → ADeclarator → List ADeclaration → State → Done → Type 0
  IsLocal storages.Automatic spec d done s r = IsAutomatic false spec d done s r
  IsLocal (storages.Register at) spec d done s r = IsAutomatic true spec d done (with_register s) r
  IsLocal (storages.Static at) spec d done s r = Joint (IsObject names signatures true spec d s) (λ x u. u ≡ (done ++ KeepOf x.0 ∷ [], x.1)) r

  abbrev pub LocalFault : Storage → Spec → ADeclarator → List ADeclaration → State → Fault → Type 0
  LocalFault storages.Automatic spec d done s f = AutomaticFault false spec d done s f
  LocalFault (storages.Register at) spec d done s f = AutomaticFault true spec d done (with_register s) f
  LocalFault (storages.Static at) spec d done s f = FirstOf (IsObject names signatures true spec d s)
      (ObjectFault names signatures true spec d s) (λ x. Never) f

  -- the declarators of one declaration from left to right, behind those before
  abbrev pub AreLocals : Storage → Spec → List ADeclarator → List ADeclaration → State → Done → Type 0
  AreLocals storage spec [] done s r = r ≡ (done, s)
  AreLocals storage spec (d ∷ ds) done s r = Joint (IsLocal storage spec d done s) (λ x. AreLocals storage spec ds x.0 x.1) r

  abbrev pub LocalsFault : Storage → Spec → List ADeclarator → List ADeclaration → State → Fault → Type 0
  LocalsFault storage spec [] done s f = ⊥
  LocalsFault storage spec (d ∷ ds) done s f = FirstOf (IsLocal storage spec d done s) (LocalFault storage spec d done s)
      (λ x. LocalsFault storage spec ds x.0 x.1) f
