-- The types of the C subset: which are the same, how many bytes they take, and what a place keeps of a value.
-- These are rules themselves, those of C with the sizes of the VAX; the relations of typing and the meaning of programs cite them.
use Rattle.std.specs.Prelude.{ℕ, ◌+◌, ◌-◌, ◌<◌, ◌^◌, Bool, true, false, ◌&&◌, ◌==◌, Option, Some, None, if◌then◌else◌}
use Rattle.gg_base.specs.Arithmetic.{sext8, sext16, zext8, zext16}
use Rattle.c_types.specs.declared.types.Integer.{Integer}
use Rattle.c_types.specs.declared.types.Integer.TheVariants as ints
use Rattle.c_types.specs.declared.types.CType.{CType}
use Rattle.c_types.specs.declared.types.CType.TheVariants as types

abbrev pub integer_number : Integer → ℕ
integer_number ints.Char = 0
integer_number ints.UnsignedChar = 1
integer_number ints.Short = 2
integer_number ints.UnsignedShort = 3
integer_number ints.Int = 4

unfoldable pub same_integer : Integer → Integer → Bool
same_integer a b = integer_number a == integer_number b

unfoldable pub same_type : CType → CType → Bool
same_type types.Void types.Void = true
same_type types.Void (types.Integer b) = false
same_type types.Void (types.Pointer b n) = false
same_type (types.Integer a) types.Void = false
same_type (types.Integer a) (types.Integer b) = same_integer a b
same_type (types.Integer a) (types.Pointer b n) = false
same_type (types.Pointer a m) types.Void = false
same_type (types.Pointer a m) (types.Integer b) = false
same_type (types.Pointer a m) (types.Pointer b n) = same_integer a b && (m == n)

-- what a pointer points to
unfoldable pub target : Integer → ℕ → CType
target b n = if n == 0 then types.Integer b else types.Pointer b (n - 1)

-- the type of a place's address
unfoldable pub pointer_to : CType → Option CType
pointer_to types.Void = None
pointer_to (types.Integer b) = Some (types.Pointer b 0)
pointer_to (types.Pointer b n) = Some (types.Pointer b (n + 1))

-- a place's address has a type, whose stars 64 bits count
abbrev pub HasPointer : CType → Type 0
HasPointer types.Void = ⊥
HasPointer (types.Integer b) = Unit {0}
HasPointer (types.Pointer b n) = n + 1 < 2 ^ 64

unfoldable pub integer_size : Integer → ℕ
integer_size ints.Char = 1
integer_size ints.UnsignedChar = 1
integer_size ints.Short = 2
integer_size ints.UnsignedShort = 2
integer_size ints.Int = 4

-- the bytes of a value
unfoldable pub size_of : CType → ℕ
size_of types.Void = 0
size_of (types.Integer b) = integer_size b
size_of (types.Pointer b n) = 4

-- what a place holds once a value is stored: the low bytes, with their sign copied where the type is signed
unfoldable pub kept : Integer → ℕ → ℕ
kept ints.Char v = sext8 v
kept ints.UnsignedChar v = zext8 v
kept ints.Short v = sext16 v
kept ints.UnsignedShort v = zext16 v
kept ints.Int v = v

unfoldable pub is_integer : CType → Bool
is_integer types.Void = false
is_integer (types.Integer b) = true
is_integer (types.Pointer b n) = false

-- an integer or a pointer
unfoldable pub is_scalar : CType → Bool
is_scalar types.Void = false
is_scalar (types.Integer b) = true
is_scalar (types.Pointer b n) = true
