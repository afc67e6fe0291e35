-- The declarations of variables that are objects: their lengths, their places and their initialisers.
-- This is how the code computes it; the rules of typing are the relations of c_typed_law.
use Rattle.std.specs.Prelude.{ℕ, ◌*◌, Bool, true, false, List, [], Option, Some, None, Result, Ok}
use Rattle.c_typed_addressed.specs.c_phrases.specs.declared.operator.Spec.{Spec}
use Rattle.c_types.specs.declared.types.CType.{CType}
use Rattle.c_types.specs.Answers.{Fault, ◌>>=◌}
use Rattle.c_types.specs.Types.{size_of, pointer_to}
use Rattle.c_typed_addressed.specs.c_typed_scope.specs.declared.entry.Entry.{Entry}
use Rattle.c_typed_addressed.specs.c_typed_scope.specs.declared.entry.Entry.TheVariants as entries
use Rattle.c_typed_addressed.specs.c_typed_scope.specs.declared.entry.Signature.{Signature}
use Rattle.c_typed_addressed.specs.c_phrases.specs.Phrases.{AnExp}
use Rattle.c_typed_addressed.specs.c_phrases.specs.Units.{AnInit, value, elements, ADeclarator}
use Rattle.c_typed_addressed.specs.c_typed_expressions.specs.Phrases.{init_in, brackets_in}
use Rattle.c_typed_addressed.specs.c_typed_scope.specs.Scopes.{Scope, with_name}
use Rattle.c_typed_addressed.specs.c_typed_scope.specs.Layout.{Area}
use Rattle.c_typed_addressed.specs.c_typed_expressions.specs.Expressions.{written, type_exp}
use Rattle.c_typed_addressed.specs.c_typed_scope.specs.Contents.{Filled, filled_to, filled}
use Rattle.c_typed_definition.specs.Initialisers.{type_length, type_element, type_elements}
use Rattle.c_typed_definition.specs.Forms.{text_of, given_count, own_length, form_of, many}
use Rattle.c_typed_definition.specs.State.{State, with_area, named_state, measuring, variable_of, array_entry, laid, text_contents}

module _ (names : List (List ℕ × Entry)) (signatures : List Signature) where
  -- The number of elements. While it is measured, its literals take no room: they lie behind the array.
  abbrev pub length_in : Option AnExp → Option AnInit → Scope → Area → Result (ℕ × Area) Fault
  length_in None i scope a = Ok (own_length i, a)
  length_in (Some e) i scope a = type_length names signatures scope e (measuring true a) >>= λ r. Ok (r.0, measuring false r.1)

  -- the literals of a length
  abbrev pub literals_in : Option AnExp → Scope → Area → Result Area Fault
  literals_in None scope a = Ok a
  literals_in (Some e) scope a = type_exp names signatures scope e a >>= λ x. Ok (x.1)

  -- what an object holds at first
  abbrev pub contents_of : CType → Bool → Option AnInit → Scope → Area → Result (Filled × Area) Fault
  contents_of t is_array None scope a = Ok (record { bytes = []; links = [] }, a)
  contents_of t is_array (Some (elements es comma)) scope a = type_elements names signatures scope t es
      (record { bytes = []; links = [] }, a)
  contents_of t true (Some (value e)) scope a = Ok (text_contents (text_of e), a)
  contents_of t false (Some (value e)) scope a = type_element names signatures scope t e (record { bytes = []; links = [] }, a)

  abbrev pub finished : ℕ → ℕ → CType → Bool → Option AnInit → Scope → Area → Result Area Fault
  finished n size t is_array i scope a = contents_of t is_array i scope a >>= λ r. Ok (filled n (filled_to size r.0) r.1)

  -- the variable of an object is in scope, and then the object gets what it holds at first
  unfoldable pub object_with : ℕ → ℕ → CType → Bool → ADeclarator → Entry → State → Result (ℕ × State) Fault
  object_with n size t is_array d e s =
      finished n size t is_array (init_in d.init) (with_name d.name e s.scope) s.area >>= λ a.
      Ok (n, with_area a (named_state d.name e s))

  -- the object of a variable that is no array
  unfoldable pub plain_object : Bool → CType → ADeclarator → State → Result (ℕ × State) Fault
  plain_object is_static t d s =
      laid is_static d.at d.name (size_of t) (size_of t) s.area >>= λ r.
      object_with r.0 (size_of t) t false d (entries.Variable t (variable_of is_static r.0)) (with_area r.1 s)

  -- the object of an array of this many elements
  unfoldable pub counted_array : Bool → CType → ADeclarator → Option AnExp → ℕ → State → Result (ℕ × State) Fault
  counted_array is_static t d l n s =
      laid is_static d.at d.name (size_of t) (n * size_of t) s.area >>= λ r.
      literals_in l s.scope r.1 >>= λ a.
      object_with r.0 (n * size_of t) t true d (array_entry (pointer_to t) (variable_of is_static r.0) (n * size_of t)) (with_area a s)

  unfoldable pub array_object : Bool → CType → ADeclarator → Option AnExp → State → Result (ℕ × State) Fault
  array_object is_static t d l s =
      length_in l (init_in d.init) s.scope s.area >>= λ m. many d.at (given_count (init_in d.init)) m.0 >>= λ n.
      counted_array is_static t d l n (with_area m.1 s)

  abbrev pub object_by : Bool → CType → ADeclarator → Option (Option AnExp) → State → Result (ℕ × State) Fault
  object_by is_static t d None s = plain_object is_static t d s
  object_by is_static t d (Some l) s = array_object is_static t d l s

  -- a global variable or a static local, and the number of its object
  unfoldable pub type_object : Bool → Spec → ADeclarator → State → Result (ℕ × State) Fault
  type_object is_static spec d s =
      form_of d (written spec d.stars) s.scope >>= λ ok. object_by is_static (written spec d.stars) d (brackets_in d.length) s
