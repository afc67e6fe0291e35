-- How large objects are: one that does not fit into the data area, and the size of an integer or a pointer.
use Rattle.std.proofs.Common.{◌≡◌, ℕ, ◌+◌, ◌-◌, ◌*◌, ◌/◌, ◌<◌, ◌≤◌, Bool, List, refl, arith, nat_lt, true}
use Rattle.std.proofs.lemmas.Bool.Decides.{nat_tests}
use Rattle.std.proofs.Math.Nat.{div-mul-le_self}
use Rattle.c_types.specs.declared.fault.TypeKind.TheVariants.{DataFull}
use Rattle.c_types.specs.declared.types.CType.{CType}
use Rattle.c_types.specs.declared.types.CType.TheVariants as types
use Rattle.c_types.specs.declared.types.Integer.{Integer}
use Rattle.c_types.specs.declared.types.Integer.TheVariants as ints
use Rattle.c_types.specs.Types.{is_scalar, integer_size, size_of}
use Rattle.c_types.specs.Answers.{bad}
use Rattle.c_typed_scope.specs.Layout.{Area, aligned, placed}
use Rattle.c_typed_definition.specs.State.{laid}

is_above : (n m : ℕ) → 1114112 < m → nat_lt 1114112 (n + m) ≡ true
is_above n m lt = grind (arith, nat_tests)

pub too_large : (is_static : Bool) (at : ℕ) (name : List ℕ) (align size : ℕ) (a : Area) → 1114112 < size → laid is_static at name align size a ≡ bad at DataFull
unfolding laid placed
too_large is_static at name align size a lt = rw (is_above (aligned a.end align) size lt) refl

integer_some : (b : Integer) → 1 ≤ integer_size b
unfolding integer_size
integer_some ints.Char = omega arith
integer_some ints.UnsignedChar = omega arith
integer_some ints.Short = omega arith
integer_some ints.UnsignedShort = omega arith
integer_some ints.Int = omega arith

pub scalar_some : (t : CType) → is_scalar t ≡ true → 1 ≤ size_of t
unfolding size_of is_scalar
scalar_some types.Void h = absurd (cc)
scalar_some (types.Integer b) h = integer_some b
scalar_some (types.Pointer b n) h = omega arith

-- the next multiple of a number of at most 4 is not far
pub aligned_near : (n m : ℕ) → 1 ≤ m → m ≤ 4 → (n + (m - 1)) / m * m ≤ n + 3
aligned_near n m some few = omega (arith, div-mul-le_self (n + (m - 1)) m)
