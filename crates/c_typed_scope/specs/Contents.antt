-- Constants that are wanted: lengths, and the bytes and links of what an object holds at first.
-- wanted, element_of and its parts are how the code computes it; the rules of typing are the relations of c_typed_law (IsWritten for one
-- element), which cite the other definitions here.
use Rattle.std.specs.Prelude.{ℕ, zero, suc, ◌-◌, ◌/◌, ◌%◌, ◌^◌, nat_lt, ◌&&◌, List, [], ◌∷◌, ◌++◌, length}
use Rattle.std.specs.Prelude.{slice_get, Option, Some, None, Result, Ok, if◌then◌else◌}
use Rattle.std.proofs.Math.ListN.{replicate}
use Rattle.tree_core.specs.declared.program.Object.{Object}
use Rattle.tree_core.specs.declared.program.Link.{Link}
use Rattle.c_types.specs.declared.types.CType.{CType}
use Rattle.c_types.specs.declared.types.CType.TheVariants as types
use Rattle.c_types.specs.declared.types.Integer.{Integer}
use Rattle.c_types.specs.declared.typed.Variable.TheVariants as variables
use Rattle.c_types.specs.declared.fault.TypeKind.TheVariants.{BadConst, BadType}
use Rattle.c_types.specs.Answers.{Fault, bad, ◌>>=◌}
use Rattle.c_types.specs.Types.{same_type, integer_size, is_integer}
use Rattle.c_types.specs.Typed.{APlace, VariableAt, AnExpression, LiteralAt, ArrayAt, AddressOf, type_of, is_null}
use Rattle.c_types.specs.Constants.{constant_of}
use Rattle.c_typed_scope.specs.Layout.{Area}

abbrev pub wanted : {A : Type 0} → Option A → ℕ → Result A Fault
wanted None place = bad place BadConst
wanted (Some v) place = Ok v

-- a length is from 1 to `AREA_LIMIT`
abbrev pub in_range : Option ℕ → Option ℕ
in_range None = None
in_range (Some v) = if nat_lt 0 v && nat_lt v 1048577 then Some v else None

unfoldable pub length_of : AnExpression → Option ℕ
length_of x = if is_integer (type_of x) then in_range (constant_of x) else None

-- the object whose address a pointer may be initialised with: a literal, a global array, or & of a global variable
abbrev pub linked_place : APlace → Option ℕ
linked_place (VariableAt t (variables.Global n)) = Some n
linked_place _ = None

unfoldable pub linked : AnExpression → Option ℕ
linked (LiteralAt n size) = Some n
linked (ArrayAt t (variables.Global n) size) = Some n
linked (AddressOf t p) = linked_place p
linked _ = None

-- the low bytes of a number, the lowest first
abbrev pub low_bytes : ℕ → ℕ → List ℕ
low_bytes zero v = []
low_bytes (suc n) v = (v % 2 ^ 8) ∷ low_bytes n (v / 2 ^ 8)

-- the bytes and links that an initialiser has written so far
pub record Filled : Type 0 where
  pub bytes : List ℕ
  pub links : List Link

abbrev pub with_value : ℕ → ℕ → Filled → Filled
with_value size v f = record { bytes = f.bytes ++ low_bytes size v; links = f.links }

abbrev pub address_in : Option Object → ℕ
address_in None = 0
address_in (Some o) = o.address

-- where an object lies
abbrev pub address_at : List Object → ℕ → ℕ
address_at objects n = address_in (slice_get objects n)

abbrev pub with_link : List Object → ℕ → Filled → Filled
with_link objects n f = record {
  bytes = f.bytes ++ low_bytes 4 (address_at objects n);
  links = f.links
      ++ record { at = length f.bytes; object = n } ∷ [];
}

-- missing elements are 0
abbrev pub filled_to : ℕ → Filled → Filled
filled_to size f = record { bytes = f.bytes ++ replicate (size - length f.bytes) 0; links = f.links }

-- an object with what it holds at first
abbrev pub holding : Filled → Object → Object
holding f o = record { label = o.label; address = o.address; size = o.size; align = o.align; bytes = f.bytes; links = f.links }

-- the object of this number with what it holds at first
abbrev pub with_contents : ℕ → Filled → List Object → List Object
with_contents n f [] = []
with_contents zero f (o ∷ os) = holding f o ∷ os
with_contents (suc n) f (o ∷ os) = o ∷ with_contents n f os

unfoldable pub filled : ℕ → Filled → Area → Area
filled n f a = record {
  objects = with_contents n f a.objects;
  end = a.end;
  literals = a.literals;
  statics = a.statics;
  measuring = a.measuring;
}

-- an initialiser of an integer type is a constant
abbrev pub integer_element : Integer → ℕ → AnExpression → Filled → Result Filled Fault
integer_element b place x f = wanted (constant_of x) place >>= λ v. if is_integer (type_of x) then Ok
    (with_value (integer_size b) v f) else bad place BadType

abbrev pub linked_element : CType → ℕ → AnExpression → List Object → Filled → Result Filled Fault
linked_element t place x objects f = wanted (linked x) place >>= λ n. if same_type t (type_of x) then Ok (with_link objects n f)
    else bad place BadType

-- an initialiser of a pointer type is the null constant or an object's address
abbrev pub pointer_element : CType → ℕ → AnExpression → List Object → Filled → Result Filled Fault
pointer_element t place x objects f = if is_null x then Ok (with_value 4 0 f) else linked_element t place x objects f

-- one element, behind those that are written
unfoldable pub element_of : CType → ℕ → AnExpression → List Object → Filled → Result Filled Fault
element_of types.Void place x objects f = bad place BadType
element_of (types.Integer b) place x objects f = integer_element b place x f
element_of (types.Pointer b n) place x objects f = pointer_element (types.Pointer b n) place x objects f
