-- Sizes of types are small numbers.
use Rattle.std.proofs.Common.{◌<◌, ◌^◌, arith}
use Rattle.c_types.specs.declared.types.CType.{CType}
use Rattle.c_types.specs.Types.{size_of, target, integer_size}
use Rattle.c_types.specs.Constants.{scale}
use Rattle.c_types.specs.declared.types.CType.TheVariants as types
use Rattle.c_types.specs.declared.types.Integer.TheVariants as ints

pub size_small : (t : CType) → size_of t < 2 ^ 32
unfolding size_of integer_size
size_small types.Void = omega arith
size_small (types.Integer ints.Char) = omega arith
size_small (types.Integer ints.UnsignedChar) = omega arith
size_small (types.Integer ints.Short) = omega arith
size_small (types.Integer ints.UnsignedShort) = omega arith
size_small (types.Integer ints.Int) = omega arith
size_small (types.Pointer i n) = omega arith

pub scale_small : (t : CType) → scale t < 2 ^ 32
unfolding scale
scale_small types.Void = omega arith
scale_small (types.Integer i) = omega arith
scale_small (types.Pointer i n) = size_small (target i n)
