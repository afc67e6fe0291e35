-- The types that headings write, and the functions that are defined in a text.
-- This is how the code computes it; the rules of typing are the relations of c_typed_law.
use Rattle.std.specs.Prelude.{ℕ, is_some, List, [], ◌∷◌}
use Rattle.std.specs.Prelude.{◌++◌, length, map, codes, Option, Some, None, if◌then◌else◌}
use Rattle.c_typed_addressed.specs.c_phrases.specs.declared.operator.Spec.{Spec}
use Rattle.c_types.specs.declared.types.CType.{CType}
use Rattle.c_types.specs.declared.types.CType.TheVariants as types
use Rattle.c_types.specs.declared.types.Integer.{Integer}
use Rattle.c_types.specs.declared.types.Integer.TheVariants as ints
use Rattle.c_typed_addressed.specs.c_typed_scope.specs.declared.entry.Entry.{Entry}
use Rattle.c_typed_addressed.specs.c_typed_scope.specs.declared.entry.Entry.TheVariants as entries
use Rattle.c_typed_addressed.specs.c_typed_scope.specs.declared.entry.Signature.{Signature}
use Rattle.c_typed_addressed.specs.c_phrases.specs.Units.{AParam, SomeParams, AFunction, ADeclared, function, globals, AnExternal}
use Rattle.c_typed_addressed.specs.c_typed_expressions.specs.Phrases.{params_in, brackets_in}
use Rattle.c_typed_addressed.specs.c_typed_scope.specs.Scopes.{find}
use Rattle.c_typed_addressed.specs.c_typed_expressions.specs.Expressions.{integer_of, written}

-- A parameter that is written as an array is a pointer.
abbrev pub array_parameter : Option Integer → ℕ → CType
array_parameter None n = types.Void
array_parameter (Some b) n = types.Pointer b n

abbrev pub parameter_type : AParam → CType
parameter_type p = if is_some (brackets_in p.length) then array_parameter (integer_of p.spec) (length p.stars) else written p.spec p.stars

-- the types that a heading writes
abbrev pub heading : Spec → List ℕ → SomeParams → Signature
heading spec stars taken = record { result = written spec stars; parameters = map parameter_type (params_in taken) }

abbrev pub signature_of : Spec → AFunction → Signature
signature_of spec f = heading spec f.stars f.params

-- putchar and getchar are declared beforehand
abbrev pub services : List Signature
services = record { result = types.Integer ints.Int; parameters = types.Integer ints.Int ∷ [] } ∷ record
    { result = types.Integer ints.Int; parameters = [] } ∷ []

abbrev pub service_names : List (List ℕ × Entry)
service_names = (codes "putchar", entries.Function 0) ∷ (codes "getchar", entries.Function 1) ∷ []

-- the functions that are defined in the text, the first of each name
pub record Known : Type 0 where
  pub names : List (List ℕ × Entry)
  pub signatures : List Signature

abbrev pub with_function : Spec → AFunction → Known → Known
with_function spec f k = if is_some (find k.names f.name) then k else record
    { names = k.names ++ (f.name, entries.Function (length k.signatures)) ∷ []; signatures = k.signatures ++ signature_of spec f ∷ [] }

abbrev pub known_by : Spec → ADeclared → Known → Known
known_by spec (globals ds) k = k
known_by spec (function f) k = if is_some f.body then with_function spec f k else k

abbrev pub known_with : AnExternal → Known → Known
known_with e k = known_by e.spec e.declared k

abbrev pub known_from : List AnExternal → Known → Known
known_from [] k = k
known_from (e ∷ es) k = known_from es (known_with e k)

abbrev pub known : List AnExternal → Known
known text = known_from text (record { names = service_names; signatures = services })
