-- What the form of a declarator tells by itself.
-- This is how the code computes it; the rules of typing are the relations of c_typed_law.
use Rattle.std.specs.Prelude.{not, ℕ, ◌+◌, ◌==◌, ◌&&◌, is_some, nat_lt, Bool, true, false, List, length, Option, Some, None}
use Rattle.std.specs.Prelude.{Result, Ok, if◌then◌else◌}
use Rattle.c_types.specs.declared.types.CType.{CType}
use Rattle.c_types.specs.declared.fault.TypeKind.TheVariants.{Twice, BadInit, BadType}
use Rattle.c_types.specs.Answers.{Fault, bad}
use Rattle.c_types.specs.Types.{size_of, is_scalar}
use Rattle.c_typed_addressed.specs.c_phrases.specs.Phrases.{AnExp, str, paren}
use Rattle.c_typed_addressed.specs.c_phrases.specs.Units.{AnInit, value, elements, ADeclarator}
use Rattle.c_typed_addressed.specs.c_typed_scope.specs.Scopes.{Scope, is_taken}
use Rattle.c_typed_addressed.specs.c_typed_expressions.specs.Phrases.{init_in, brackets_in}
use Rattle.c_typed_addressed.specs.c_typed_expressions.specs.Calls.{count}

-- the bytes of a string literal, also in parentheses
unfoldable pub text_of : AnExp → Option (List ℕ)
text_of (str b at) = Some b
text_of (paren o e) = text_of e
text_of _ = None

-- an array's initialiser is a list that is not empty, or for one-byte elements a string literal; any other variable's is one value
abbrev pub text_fits : Option (List ℕ) → CType → Bool
text_fits None t = false
text_fits (Some b) t = size_of t == 1

abbrev pub array_form : CType → Option AnExp → Option AnInit → Bool
array_form t None None = false
array_form t (Some e) None = true
array_form t l (Some (elements es comma)) = not (count es == 0)
array_form t l (Some (value e)) = text_fits (text_of e) t

abbrev pub form_fits : CType → Option (Option AnExp) → Option AnInit → Bool
form_fits t None None = true
form_fits t None (Some (value e)) = true
form_fits t None (Some (elements es comma)) = false
form_fits t (Some l) i = array_form t l i

-- how many elements an array's initialiser has, and how many one without a length gets
abbrev pub text_length : Option (List ℕ) → ℕ
text_length None = 0
text_length (Some b) = length b

abbrev pub given_count : Option AnInit → ℕ
given_count None = 0
given_count (Some (elements es comma)) = count es
given_count (Some (value e)) = text_length (text_of e)

abbrev pub own_length : Option AnInit → ℕ
own_length None = 0
own_length (Some (elements es comma)) = count es
own_length (Some (value e)) = text_length (text_of e) + 1

-- what a declarator's own form tells, in order
unfoldable pub form_of : ADeclarator → CType → Scope → Result (Unit {0}) Fault
form_of d t s =
    if is_taken s d.name then bad d.at Twice
    else if form_fits t (brackets_in d.length) (init_in d.init) then (if is_scalar t then Ok tt else bad d.at BadType)
    else bad d.at BadInit

-- no array is declared `register`
abbrev pub is_automatic : Bool → Option (Option AnExp) → CType → Bool
is_automatic is_register l t = is_scalar t && not (is_register && is_some l)

unfoldable pub automatic_form : Bool → ADeclarator → CType → Scope → Result (Unit {0}) Fault
automatic_form is_register d t s =
    if is_taken s d.name then bad d.at Twice
    else if form_fits t (brackets_in d.length) (init_in d.init)
    then (if is_automatic is_register (brackets_in d.length) t then Ok tt else bad d.at BadType)
    else bad d.at BadInit

-- no more elements than the array has
unfoldable pub many : ℕ → ℕ → ℕ → Result ℕ Fault
many at count length = if nat_lt length count then bad at BadInit else Ok length
