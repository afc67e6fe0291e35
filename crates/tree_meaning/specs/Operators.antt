-- What the operators of trees make of numbers.
use Rattle.std.specs.Prelude.{ℕ, ◌%◌, Option, Some, None}
use Rattle.gg_base.specs.Arithmetic.{add32, sub32, mul32, and32, or32, xor32, neg32, com32, sext8, sext16, zext8}
use Rattle.gg_base.specs.Arithmetic.{zext16, div32, shifted_left, shifted_right}
use Rattle.tree_core.specs.declared.token.Tok.{Tok}
use Rattle.tree_core.specs.declared.token.Tok.TheVariants as tok
use Rattle.tree_meaning.specs.declared.value.Value.{Value}
use Rattle.tree_meaning.specs.declared.value.Value.TheVariants.{Number, ZeroDivisor, Wild}

-- a quotient, or a zero divisor
abbrev pub quotient : Option ℕ → Value
quotient None = ZeroDivisor
quotient (Some q) = Number q

-- the remainder has the dividend's sign: a - (a / b) * b
abbrev pub remainder : ℕ → ℕ → Option ℕ → Value
remainder a b None = ZeroDivisor
remainder a b (Some q) = Number (sub32 a (mul32 q b))

-- an operator with two kids
abbrev pub operated : Tok → ℕ → ℕ → Value
operated tok.Plus x y = Number (add32 x y)
operated tok.Minus x y = Number (sub32 x y)
operated tok.Mul x y = Number (mul32 x y)
operated tok.Div x y = quotient (div32 x y)
operated tok.Mod x y = remainder x y (div32 x y)
operated tok.And x y = Number (and32 x y)
operated tok.Or x y = Number (or32 x y)
operated tok.Xor x y = Number (xor32 x y)
operated tok.Lsh x y = Number (shifted_left (y % 32) x)
operated tok.Rsh x y = Number (shifted_right (y % 32) x)
operated t x y = Wild

-- an operator with one kid
abbrev pub converted : Tok → ℕ → Value
converted tok.Neg x = Number (neg32 x)
converted tok.Com x = Number (com32 x)
converted tok.Sxb x = Number (sext8 x)
converted tok.Zxb x = Number (zext8 x)
converted tok.Sxw x = Number (sext16 x)
converted tok.Zxw x = Number (zext16 x)
converted tok.Ncb x = Number (zext8 x)
converted tok.Ncw x = Number (zext16 x)
converted t x = Wild
