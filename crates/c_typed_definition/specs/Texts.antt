-- The types of a whole text.
-- This is how the code computes it; the rules of typing are the relations of c_typed_law.
use Rattle.std.specs.Prelude.{ℕ, ◌+◌, ◌==◌, nat_lt, Bool, true, false, ◌&&◌, ◌||◌, is_some, List, [], ◌∷◌}
use Rattle.std.specs.Prelude.{length, codes, Option, Some, None, option_map, Result, Ok, if◌then◌else◌}
use Rattle.std.specs.Str.{bytes_eq}
use Rattle.c_typed_addressed.specs.gg_base.specs.declared.limits.TheConstants.{AREA_START}
use Rattle.c_typed_addressed.specs.c_phrases.specs.declared.operator.Spec.{Spec}
use Rattle.c_types.specs.declared.types.CType.TheVariants as types
use Rattle.c_types.specs.declared.types.Integer.TheVariants as ints
use Rattle.c_types.specs.declared.fault.TypeKind.TheVariants.{NoMain}
use Rattle.c_types.specs.Answers.{Fault, bad, ◌>>=◌}
use Rattle.c_types.specs.Types.{same_type}
use Rattle.c_typed_addressed.specs.c_typed_scope.specs.declared.entry.Entry.{Entry}
use Rattle.c_typed_addressed.specs.c_typed_scope.specs.declared.entry.Signature.{Signature}
use Rattle.c_typed_addressed.specs.c_phrases.specs.Phrases.{AnExp}
use Rattle.c_typed_addressed.specs.c_phrases.specs.Units.{SomeItems, ADeclarator, AParam, AFunction, ADeclared, function, globals, AnExternal}
use Rattle.c_typed_addressed.specs.c_typed_expressions.specs.Phrases.{params_in, brackets_in}
use Rattle.c_typed_addressed.specs.c_typed_scope.specs.Scopes.{Scope, find}
use Rattle.c_typed_addressed.specs.c_typed_scope.specs.Layout.{Area}
use Rattle.c_typed_addressed.specs.c_typed_expressions.specs.Expressions.{integer_of, written}
use Rattle.c_typed_definition.specs.Initialisers.{type_length}
use Rattle.c_typed_addressed.specs.c_typed_scope.specs.Stack.{with_stack}
use Rattle.c_typed_definition.specs.Rooms.{no_room}
use Rattle.c_typed_definition.specs.State.{State, with_area}
use Rattle.c_typed_definition.specs.Declarations.{type_object}
use Rattle.c_typed_definition.specs.Statements.{type_items}
use Rattle.c_program.specs.Programs.{ARoutine, AProgram}
use Rattle.c_typed_definition.specs.Signatures.{parameter_type, signature_of, services, service_names, known}
use Rattle.c_typed_definition.specs.Headings.{Text, earlier_by, is_below, head_of, parameter_form, with_parameter}
use Rattle.c_typed_definition.specs.Headings.{agrees, with_state, with_declared, with_body}
use Rattle.c_typed_definition.specs.Bodies.{fits_stack, end_in, routine_of, entered_function, left_function}

module _ (names : List (List ℕ × Entry)) (signatures : List Signature) where
  -- a length in a parameter's brackets, and its literals
  abbrev pub parameter_length : Option (Option AnExp) → Scope → Area → Result Area Fault
  parameter_length None scope a = Ok a
  parameter_length (Some None) scope a = Ok a
  parameter_length (Some (Some e)) scope a = type_length names signatures scope e a >>= λ r. Ok (r.1)

  unfoldable pub type_parameter : Bool → ℕ → AParam → ℕ → State → Result State Fault
  type_parameter defines at p n s = parameter_form p.name defines at p s.scope >>= λ ok.
      parameter_length (brackets_in p.length) s.scope s.area >>= λ a. Ok (with_parameter p.name (parameter_type p) n (with_area a s))

  -- the parameters, from number n on
  abbrev pub type_parameters : Bool → ℕ → List AParam → ℕ → State → Result State Fault
  type_parameters defines at [] n s = Ok s
  type_parameters defines at (p ∷ ps) n s = type_parameter defines at p n s >>= λ next. type_parameters defines at ps (n + 1) next

  -- The parameters and the body's outermost block are one scope.
  abbrev pub type_body : Spec → AFunction → Option SomeItems → State → Text → Result Text Fault
  type_body spec f None s t = Ok (with_state (left_function s) t)
  type_body spec f (Some row) s t = type_items names signatures (written spec f.stars) false row s >>= λ r.
      fits_stack (end_in t) r.1.room >>= λ ok. Ok (with_body (routine_of spec f r.1 r.0) (with_state (left_function r.1) t))

  -- its parameters, its agreement with the earlier declaration, and its body, once its name is in scope
  unfoldable pub type_introduced : Option ℕ → Spec → AFunction → Text → Result Text Fault
  type_introduced earlier spec f t =
      type_parameters (is_some f.body) f.at (params_in f.params) 0 (entered_function f t.state) >>= λ s.
      agrees earlier t.declared (signature_of spec f) f.at >>= λ same.
      type_body spec f f.body s t

  unfoldable pub type_function : Spec → AFunction → Text → Result Text Fault
  type_function spec f t =
      earlier_by (find t.state.scope.here f.name) f.at >>= λ earlier.
      head_of (is_some f.body) (is_below (find names f.name) (length t.bodies + 2)) (integer_of spec) f.stars f.at >>= λ ok.
      type_introduced earlier spec f (with_declared earlier spec f t)

  abbrev pub type_globals : Spec → List ADeclarator → State → Result State Fault
  type_globals spec [] s = Ok s
  type_globals spec (d ∷ ds) s = type_object names signatures false spec d s >>= λ r. type_globals spec ds r.1

  abbrev pub type_declared : Spec → ADeclared → Text → Result Text Fault
  type_declared spec (function f) t = type_function spec f t
  type_declared spec (globals ds) t = type_globals spec ds t.state >>= λ s. Ok (with_state s t)

  abbrev pub type_external : AnExternal → Text → Result Text Fault
  type_external e t = type_declared e.spec e.declared t

  abbrev pub type_externals : List AnExternal → Text → Result Text Fault
  type_externals [] t = Ok t
  type_externals (e ∷ es) t = type_external e t >>= λ next. type_externals es next

abbrev pub is_main : ARoutine → Bool
is_main b = bytes_eq b.name (codes "main") && (same_type b.result (types.Integer ints.Int) && (length b.parameters == 0))

abbrev pub behind : Option ℕ → Option ℕ
behind o = option_map (λ n. n + 1) o

-- the number of the function where a run begins
abbrev pub main_of : List ARoutine → Option ℕ
main_of [] = None
main_of (b ∷ bs) = if is_main b then Some 0 else behind (main_of bs)

-- some function has memory locals
abbrev pub any_block : List ARoutine → Bool
any_block [] = false
any_block (b ∷ bs) = nat_lt 0 b.block || any_block bs

-- then the second stack lies behind the other objects
abbrev pub stacked_if : Bool → ℕ → Area → Result Area Fault
stacked_if true end a = with_stack end a
stacked_if false end a = Ok a

abbrev pub whole_by : Option ℕ → ℕ → List ARoutine → Area → Result AProgram Fault
whole_by None end bodies a = bad end NoMain
whole_by (Some n) end bodies a = Ok (record { objects = a.objects; routines = bodies; main = n })

abbrev pub whole : ℕ → Text → Result AProgram Fault
whole end t = stacked_if (any_block t.bodies) end t.state.area >>= λ a. whole_by (main_of t.bodies) end t.bodies a

abbrev pub empty_text : List ℕ → Text
empty_text ends = record {
  state = record {
    scope = record { outer = []; here = service_names };
    locals = [];
    registers = [];
    room = no_room;
    area =
        record { objects = []; end = AREA_START; literals = 0; statics = 0; measuring = false };
  };
  declared = services;
  bodies = [];
  ends = ends;
}

-- Where the bodies of functions end, and the end of the text: NoMain comes there after all other faults, before it DataFull of the stack.
unfoldable pub type_text : List AnExternal → List ℕ → ℕ → Result AProgram Fault
type_text text ends end = type_externals (known text).names (known text).signatures text (empty_text ends) >>= λ t. whole end t
