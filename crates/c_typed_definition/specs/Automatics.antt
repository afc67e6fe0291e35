-- The declarations of automatic variables: their kind, their block and what they become.
-- This is how the code computes it; the rules of typing are the relations of c_typed_law.
use Rattle.std.specs.Prelude.{ℕ, ◌+◌, ◌-◌, ◌*◌, ◌==◌, not, ◌&&◌, Bool, true, false, List, [], ◌∷◌, ◌++◌, length, Option, Some, None}
use Rattle.std.specs.Prelude.{Result, Ok, if◌then◌else◌}
use Rattle.c_typed_addressed.specs.c_phrases.specs.declared.operator.Spec.{Spec}
use Rattle.c_typed_addressed.specs.c_phrases.specs.declared.operator.Storage.{Storage}
use Rattle.c_typed_addressed.specs.c_phrases.specs.declared.operator.Storage.TheVariants as storages
use Rattle.c_types.specs.declared.types.CType.{CType}
use Rattle.c_types.specs.declared.typed.Variable.TheVariants as variables
use Rattle.c_types.specs.Answers.{Fault, ◌>>=◌}
use Rattle.c_types.specs.Types.{size_of, pointer_to}
use Rattle.c_types.specs.Typed.{AnExpression, Constant}
use Rattle.c_types.specs.Constants.{converted}
use Rattle.c_typed_operators.specs.Stores.{given}
use Rattle.c_typed_addressed.specs.c_typed_scope.specs.declared.entry.Entry.{Entry}
use Rattle.c_typed_addressed.specs.c_typed_scope.specs.declared.entry.Entry.TheVariants as entries
use Rattle.c_typed_addressed.specs.c_typed_scope.specs.declared.entry.Signature.{Signature}
use Rattle.c_typed_addressed.specs.c_phrases.specs.Phrases.{AnExp, SomeExps, no_exps, exps}
use Rattle.c_typed_addressed.specs.c_phrases.specs.Units.{AnInit, value, elements, ADeclarator}
use Rattle.c_typed_addressed.specs.c_typed_expressions.specs.Phrases.{first, init_in, brackets_in}
use Rattle.c_typed_addressed.specs.c_typed_expressions.specs.Expressions.{written, type_exp}
use Rattle.c_program.specs.Statements.{ADeclaration, KeepOf, ClearOf, BeginOf, StoreOf, ZerosOf}
use Rattle.c_typed_definition.specs.Initialisers.{type_length}
use Rattle.c_typed_definition.specs.Forms.{text_of, given_count, own_length, automatic_form, many}
use Rattle.c_typed_definition.specs.Rooms.{offset_in, is_next_addressed}
use Rattle.c_typed_definition.specs.State.{State, with_area, array_entry, with_local, with_memory, with_register}
use Rattle.c_typed_definition.specs.Declarations.{type_object}

-- what a declaration does, behind what is done before it
abbrev pub Doing : Type 0
Doing = Result (List ADeclaration × State) Fault

-- the variable, or the array of so many bytes, that lies in the block from here on
abbrev pub memory_variable : CType → ADeclarator → State → State
memory_variable t d s = with_memory (size_of t) (size_of t) d.name (entries.Variable t (variables.InBlock (offset_in (size_of t) s.room))) s

abbrev pub memory_array : CType → ℕ → ADeclarator → State → State
memory_array t size d s =
    with_memory (size_of t) size d.name (array_entry (pointer_to t) (variables.InBlock (offset_in (size_of t) s.room)) size) s

-- the elements of an array that are missing, from an offset on, become 0
abbrev pub zeros : CType → ℕ → ℕ → List ADeclaration
zeros t offset count = if count == 0 then [] else ZerosOf t offset count ∷ []

-- an array becomes the bytes of a string literal
abbrev pub text_stores : CType → ℕ → List ℕ → List ADeclaration
text_stores t offset [] = []
text_stores t offset (b ∷ bs) = StoreOf t offset (Constant (converted t b)) ∷ text_stores t (offset + 1) bs

abbrev pub text_stored : CType → ℕ → Option (List ℕ) → List ADeclaration
text_stored t offset None = []
text_stored t offset (Some bytes) = text_stores t offset bytes

module _ (names : List (List ℕ × Entry)) (signatures : List Signature) where
  -- a value that is converted to a type
  abbrev pub type_value : CType → AnExp → State → Result (AnExpression × State) Fault
  type_value t e s = type_exp names signatures s.scope e s.area >>= λ x. given t (first e) x.0 >>= λ y. Ok (y, with_area x.1 s)

  -- the value that an automatic local begins with
  abbrev pub begun : CType → ℕ → Option AnInit → List ADeclaration → State → Doing
  begun t n None done s = Ok (done ++ ClearOf n ∷ [], s)
  begun t n (Some (elements es comma)) done s = Ok (done ++ ClearOf n ∷ [], s)
  begun t n (Some (value e)) done s = type_value t e s >>= λ x. Ok (done ++ BeginOf n x.0 ∷ [], x.1)

  -- a value that is stored in the block
  abbrev pub type_store : CType → ℕ → AnExp → List ADeclaration → State → Doing
  type_store t offset e done s = type_value t e s >>= λ x. Ok (done ++ StoreOf t offset x.0 ∷ [], x.1)

  -- a memory local is 0, and then becomes its value
  abbrev pub memory_begun : CType → ℕ → Option AnInit → List ADeclaration → State → Doing
  memory_begun t offset None done s = Ok (done ++ StoreOf t offset (Constant 0) ∷ [], s)
  memory_begun t offset (Some (elements es comma)) done s = Ok (done ++ StoreOf t offset (Constant 0) ∷ [], s)
  memory_begun t offset (Some (value e)) done s = type_store t offset e (done ++ StoreOf t offset (Constant 0) ∷ []) s

  -- the elements of an array become the values of a list
  abbrev pub type_stores : CType → ℕ → SomeExps → List ADeclaration → State → Doing
  type_stores t offset no_exps done s = Ok (done, s)
  type_stores t offset (exps e es) done s = type_store t offset e done s >>= λ r. type_stores t (offset + size_of t) es r.0 r.1

  -- an array of so many elements becomes what its initialiser says; missing elements become 0 behind the others
  abbrev pub array_begun : CType → ℕ → Option AnInit → List ADeclaration → State → Doing
  array_begun t offset None done s = Ok (done, s)
  array_begun t offset (Some (elements es comma)) done s = type_stores t offset es done s
  array_begun t offset (Some (value e)) done s = Ok (done ++ text_stored t offset (text_of e), s)

  abbrev pub filled_array : CType → ℕ → ℕ → Option AnInit → List ADeclaration → State → Doing
  filled_array t offset count i done s = array_begun t offset i done s >>= λ r.
      Ok (r.0 ++ zeros t (offset + given_count i * size_of t) (count - given_count i), r.1)

  -- the number of elements; the literals in its brackets are objects
  abbrev pub automatic_length : Option AnExp → Option AnInit → State → Result (ℕ × State) Fault
  automatic_length None i s = Ok (own_length i, s)
  automatic_length (Some e) i s = type_length names signatures s.scope e s.area >>= λ r. Ok (r.0, with_area r.1 s)

  unfoldable pub automatic_array : CType → ADeclarator → Option AnExp → List ADeclaration → State → Doing
  automatic_array t d l done s =
      automatic_length l (init_in d.init) s >>= λ m. many d.at (given_count (init_in d.init)) m.0 >>= λ n.
      filled_array t (offset_in (size_of t) m.1.room) n (init_in d.init) done (memory_array t (n * size_of t) d m.1)

  -- a variable that is no array: a memory local where `&` is applied to it
  unfoldable pub automatic_variable : Bool → CType → ADeclarator → List ADeclaration → State → Doing
  automatic_variable true t d done s =
      memory_begun t (offset_in (size_of t) s.room) (init_in d.init) done (memory_variable t d s)
  automatic_variable false t d done s = begun t (length s.locals) (init_in d.init) done (with_local t d.name s)

  abbrev pub automatic_by : Option (Option AnExp) → Bool → CType → ADeclarator → List ADeclaration → State → Doing
  automatic_by None is_register t d done s = automatic_variable (not is_register && is_next_addressed s.room) t d done s
  automatic_by (Some l) is_register t d done s = automatic_array t d l done s

  unfoldable pub type_automatic : Bool → Spec → ADeclarator → List ADeclaration → State → Doing
  type_automatic is_register spec d done s = automatic_form is_register d (written spec d.stars) s.scope >>= λ ok.
      automatic_by (brackets_in d.length) is_register (written spec d.stars) d done s

  abbrev pub type_local : Storage → Spec → ADeclarator → List ADeclaration → State → Doing
  type_local storages.Automatic spec d done s = type_automatic false spec d done s
  type_local (storages.Register at) spec d done s = type_automatic true spec d done (with_register s)
  type_local (storages.Static at) spec d done s = type_object names signatures true spec d s >>= λ r. Ok (done ++ KeepOf r.0 ∷ [], r.1)

  -- the declarators of one declaration, one after another, behind those that are done
  abbrev pub type_locals : Storage → Spec → List ADeclarator → List ADeclaration → State → Doing
  type_locals storage spec [] done s = Ok (done, s)
  type_locals storage spec (d ∷ ds) done s = type_local storage spec d done s >>= λ r. type_locals storage spec ds r.0 r.1
