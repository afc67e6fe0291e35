-- The heading of a function: its earlier declaration, its result and its parameters.
-- This is how the code computes it; the rules of typing are the relations of c_typed_law.
use Rattle.std.specs.Prelude.{ℕ, nat_lt, Bool, true, false, ◌&&◌, List, [], ◌∷◌}
use Rattle.std.specs.Prelude.{◌++◌, length, slice_get, Option, Some, None, Result, Ok, if◌then◌else◌}
use Rattle.c_typed_addressed.specs.c_phrases.specs.declared.operator.Spec.{Spec}
use Rattle.c_typed_addressed.specs.c_phrases.specs.declared.operator.Spec.TheVariants as specs
use Rattle.c_typed_addressed.specs.c_phrases.specs.declared.tree.Named.{Named}
use Rattle.c_types.specs.declared.types.CType.{CType}
use Rattle.c_types.specs.declared.types.Integer.{Integer}
use Rattle.c_types.specs.declared.typed.Variable.TheVariants as variables
use Rattle.c_types.specs.declared.fault.TypeKind.TheVariants.{Twice, BadType}
use Rattle.c_types.specs.Answers.{Fault, bad}
use Rattle.c_types.specs.Types.{same_type, is_scalar, size_of}
use Rattle.c_typed_addressed.specs.c_typed_scope.specs.declared.entry.Entry.{Entry}
use Rattle.c_typed_addressed.specs.c_typed_scope.specs.declared.entry.Entry.TheVariants as entries
use Rattle.c_typed_addressed.specs.c_typed_scope.specs.declared.entry.Signature.{Signature}
use Rattle.c_typed_addressed.specs.c_phrases.specs.Units.{AParam, AFunction}
use Rattle.c_typed_addressed.specs.c_typed_scope.specs.Scopes.{Scope, is_taken}
use Rattle.c_typed_addressed.specs.c_typed_expressions.specs.Expressions.{written}
use Rattle.c_typed_definition.specs.Rooms.{is_parameter_addressed, offset_in, with_parameter_in}
use Rattle.c_typed_definition.specs.State.{State, named_state, with_room}
use Rattle.c_program.specs.Programs.{ARoutine}
use Rattle.c_typed_definition.specs.Signatures.{signature_of}

-- the text so far: what is in scope, the functions that were declared, and those that are typed; and the offsets where the bodies of the
-- text's functions end, in order
pub record Text : Type 0 where
  pub state : State
  pub declared : List Signature
  pub bodies : List ARoutine
  pub ends : List ℕ

abbrev pub same_types : List CType → List CType → Bool
same_types [] [] = true
same_types [] (t ∷ ts) = false
same_types (s ∷ ss) [] = false
same_types (s ∷ ss) (t ∷ ts) = same_type s t && same_types ss ts

abbrev pub same_signature : Signature → Signature → Bool
same_signature a b = same_type a.result b.result && same_types a.parameters b.parameters

-- the earlier declaration of a function; a variable of its name is Twice
abbrev pub earlier_by : Option Entry → ℕ → Result (Option ℕ) Fault
earlier_by None at = Ok None
earlier_by (Some (entries.Function n)) at = Ok (Some n)
earlier_by (Some (entries.Variable t v)) at = bad at Twice
earlier_by (Some (entries.Array t v n)) at = bad at Twice

-- whether a function's number is below k
abbrev pub is_below : Option Entry → ℕ → Bool
is_below None k = false
is_below (Some (entries.Function n)) k = nat_lt n k
is_below (Some (entries.Variable t v)) k = false
is_below (Some (entries.Array t v n)) k = false

-- A function is defined once, and its result is no void with stars. The services are defined beforehand, and the
-- functions are numbered behind them in the order of their first definitions.
abbrev pub head_by : Option Integer → List ℕ → ℕ → Result (Unit {0}) Fault
head_by (Some b) stars at = Ok tt
head_by None [] at = Ok tt
head_by None (s ∷ ss) at = bad at BadType

unfoldable pub head_of : Bool → Bool → Option Integer → List ℕ → ℕ → Result (Unit {0}) Fault
head_of defines defined b stars at = if defines && defined then bad at Twice else head_by b stars at

abbrev pub word_of : Spec → ℕ
word_of (specs.Int at) = at
word_of (specs.Char at) = at
word_of (specs.Short at int) = at
word_of (specs.UnsignedChar at char) = at
word_of (specs.UnsignedShort at short int) = at
word_of (specs.Void at) = at

-- a parameter's name and type: its name, else the word void, else the function's name
abbrev pub parameter_form : Option Named → Bool → ℕ → AParam → Scope → Result (Unit {0}) Fault
parameter_form (Some n) defines at p s = if is_taken s n.name then bad n.at Twice else if is_scalar (written p.spec p.stars)
    then Ok tt else bad n.at BadType
parameter_form None defines at p s = if is_scalar (written p.spec p.stars) then (if defines then bad at BadType else Ok tt)
    else bad (word_of p.spec) BadType

abbrev pub with_parameter : Option Named → CType → ℕ → State → State
with_parameter None t n s = s
with_parameter (Some name) t n s =
    if is_parameter_addressed n s.room
    then with_room (with_parameter_in t n s.room)
    (named_state name.name (entries.Variable t (variables.InBlock (offset_in (size_of t) s.room))) s)
    else named_state name.name (entries.Variable t (variables.Parameter n)) s

-- at most 32 parameters, and the types of the earlier declaration
abbrev pub agrees_by : Option Signature → Signature → ℕ → Result (Unit {0}) Fault
agrees_by None mine at = Ok tt
agrees_by (Some s) mine at = if same_signature s mine then Ok tt else bad at BadType

abbrev pub agrees_with : Option ℕ → List Signature → Signature → ℕ → Result (Unit {0}) Fault
agrees_with None declared mine at = Ok tt
agrees_with (Some n) declared mine at = agrees_by (slice_get declared n) mine at

unfoldable pub agrees : Option ℕ → List Signature → Signature → ℕ → Result (Unit {0}) Fault
agrees earlier declared mine at = if nat_lt 32 (length mine.parameters) then bad at BadType else agrees_with earlier declared mine at

abbrev pub with_state : State → Text → Text
with_state s t = record { state = s; declared = t.declared; bodies = t.bodies; ends = t.ends }

-- the function's name is in scope from here on
abbrev pub with_declared : Option ℕ → Spec → AFunction → Text → Text
with_declared (Some n) spec f t = t
with_declared None spec f t = record {
  state = named_state f.name (entries.Function (length t.declared)) t.state;
  declared =
      t.declared ++ signature_of spec f ∷ [];
  bodies = t.bodies;
  ends = t.ends;
}

abbrev pub with_body : ARoutine → Text → Text
with_body b t = record { state = t.state; declared = t.declared; bodies = t.bodies ++ b ∷ []; ends = t.ends }
