-- What instructions compute of longwords are longwords.
use Rattle.std.proofs.Common.{ℕ, ◌+◌, ◌-◌, ◌*◌, ◌/◌, ◌%◌, ◌^◌, ◌<◌, Bool, true, false, cond, Option, Some, None, arith}
use Rattle.std.specs.Int.Bits.{and_lt}
use Rattle.std.proofs.lemmas.Nat.{or_lt, xor_lt, mod_below}
use Rattle.std.proofs.Math.Nat.{div-le_self}
use Rattle.gg_base.specs.declared.size.Size.{Size}
use Rattle.gg_base.specs.declared.size.Size.TheVariants.{Byte, Word, Long}
use Rattle.gg_base.specs.Arithmetic.{add32, sub32, mul32, neg32, com32, zext8, zext16, magnitude, same_sign, div32}
use Rattle.gg_base.proofs.Words.{neg_small, ash_small, magnitude_small}
use Rattle.gg_base.specs.Sizes.{low}
use Rattle.vax_machine.specs.declared.function.Computed.{Computed}
use Rattle.vax_machine.specs.declared.function.Function.{Function}
use Rattle.vax_machine.specs.declared.function.Function.TheVariants as functions
use Rattle.vax_machine.specs.Memory.{merged}
use Rattle.vax_machine.specs.Functions.{extended, quotient, applied}

pub add_small : (a b : ℕ) → add32 a b < 2 ^ 32
add_small a b = mod_below (a + b) (2 ^ 32) (omega arith)

pub sub_small : (a b : ℕ) → sub32 a b < 2 ^ 32
sub_small a b = mod_below (a + (2 ^ 32 - b)) (2 ^ 32) (omega arith)

pub mul_small : (a b : ℕ) → mul32 a b < 2 ^ 32
mul_small a b = mod_below (a * b) (2 ^ 32) (omega arith)

com_small : (a : ℕ) → com32 a < 2 ^ 32
com_small a = omega arith

pub low_small : (s : Size) (v : ℕ) → v < 2 ^ 32 → low s v < 2 ^ 32
low_small Byte v h = omega (arith, mod_below v (2 ^ 8) (omega arith))
low_small Word v h = omega (arith, mod_below v (2 ^ 16) (omega arith))
low_small Long v h = h

pub merged_small : (s : Size) (old v : ℕ) → old < 2 ^ 32 → v < 2 ^ 32 → merged s old v < 2 ^ 32
merged_small Byte old v h g = omega (arith, h)
merged_small Word old v h g = omega (arith, h)
merged_small Long old v h g = g

pub either_small : (b : Bool) (x y : ℕ) → x < 2 ^ 32 → y < 2 ^ 32 → cond b x y < 2 ^ 32
either_small true x y h g = h
either_small false x y h g = g

extended_small : (s : Size) (v : ℕ) → v < 2 ^ 32 → extended s v < 2 ^ 32
extended_small Byte v h =
    let b : v % 2 ^ 8 < 2 ^ 8 = mod_below v (2 ^ 8) (omega arith) in
    either_small _ (zext8 v) (zext8 v + (2 ^ 32 - 2 ^ 8)) (omega (arith, b)) (omega (arith, b))
extended_small Word v h =
    let b : v % 2 ^ 16 < 2 ^ 16 = mod_below v (2 ^ 16) (omega arith) in
    either_small _ (zext16 v) (zext16 v + (2 ^ 32 - 2 ^ 16)) (omega (arith, b)) (omega (arith, b))
extended_small Long v h = h

-- a number, where there is one
abbrev SmallSome : Option ℕ → Type 0
SmallSome None = Unit {0}
SmallSome (Some n) = n < 2 ^ 32

-- a result, where there is one
abbrev pub SmallResult : Option Computed → Type 0
SmallResult None = Unit {0}
SmallResult (Some c) = c.value < 2 ^ 32

div_by : (z s : Bool) (q : ℕ) → q < 2 ^ 32 → SmallSome (cond z None (cond s (Some q) (Some (neg32 q))))
div_by true s q h = tt
div_by false true q h = h
div_by false false q h = neg_small q

quotient_small : (o : Option ℕ) → SmallSome o → SmallResult (quotient o)
quotient_small None h = tt
quotient_small (Some q) h = h

div_small : (a b : ℕ) → a < 2 ^ 32 → SmallResult (quotient (div32 a b))
div_small a b h =
    let m = magnitude_small a h in
    let d = div-le_self (magnitude a) (magnitude b) in
    quotient_small (div32 a b) (div_by _ (same_sign a b) (magnitude a / magnitude b) (omega (arith, m, d)))

pub applied_small : (f : Function) (a b : ℕ) (c : Bool) → a < 2 ^ 32 → b < 2 ^ 32 → SmallResult (applied f a b c)
applied_small (functions.Copy size) a b c h g = h
applied_small functions.Clear a b c h g = omega arith
applied_small functions.Negate a b c h g = neg_small a
applied_small functions.Complement a b c h g = com_small a
applied_small (functions.SignExtend size) a b c h g = extended_small size a h
applied_small (functions.Truncate size) a b c h g = low_small size a h
applied_small functions.Add a b c h g = add_small a b
applied_small functions.Subtract a b c h g = sub_small b a
applied_small functions.Multiply a b c h g = mul_small a b
applied_small functions.Divide a b c h g = div_small b a g
applied_small functions.Increment a b c h g = add_small a 1
applied_small functions.Decrement a b c h g = sub_small a 1
applied_small functions.BitSet a b c h g = or_lt 32 a b h g
applied_small functions.BitClear a b c h g = and_lt 32 b (com32 a) g (com_small a)
applied_small functions.ExclusiveOr a b c h g = xor_lt 32 a b h g
applied_small functions.BitTest a b c h g = and_lt 32 a b h g
applied_small functions.Shift a b c h g = ash_small a b g
applied_small (functions.Compare size) a b c h g = omega arith
applied_small (functions.CompareWithZero size) a b c h g = omega arith
