-- Arithmetic on 32 bits. A longword is a number below 2^32; read as signed, those from 2^31 on are negative.
use Rattle.std.specs.Prelude.{ℕ, ◌+◌, ◌-◌, ◌*◌, ◌/◌, ◌%◌, ◌^◌, ◌==◌, nat_lt, nat_le, min, bit_and, bit_or, bit_xor}
use Rattle.std.specs.Prelude.{Bool, not, ◌||◌, ◌&&◌, Option, Some, None, if◌then◌else◌}

abbrev pub add32 : ℕ → ℕ → ℕ
add32 a b = (a + b) % 2 ^ 32

abbrev pub sub32 : ℕ → ℕ → ℕ
sub32 a b = (a + (2 ^ 32 - b)) % 2 ^ 32

abbrev pub mul32 : ℕ → ℕ → ℕ
mul32 a b = (a * b) % 2 ^ 32

abbrev pub and32 : ℕ → ℕ → ℕ
and32 a b = bit_and a b

abbrev pub or32 : ℕ → ℕ → ℕ
or32 a b = bit_or a b

abbrev pub xor32 : ℕ → ℕ → ℕ
xor32 a b = bit_xor a b

abbrev pub neg32 : ℕ → ℕ
neg32 a = (2 ^ 32 - a) % 2 ^ 32

abbrev pub com32 : ℕ → ℕ
com32 a = 2 ^ 32 - 1 - a

-- the low byte and the low word, with zeros above
abbrev pub zext8 : ℕ → ℕ
zext8 a = a % 2 ^ 8

abbrev pub zext16 : ℕ → ℕ
zext16 a = a % 2 ^ 16

-- the low byte and the low word, with their sign copied
abbrev pub sext8 : ℕ → ℕ
sext8 a = if nat_lt (zext8 a) (2 ^ 7) then zext8 a else zext8 a + (2 ^ 32 - 2 ^ 8)

abbrev pub sext16 : ℕ → ℕ
sext16 a = if nat_lt (zext16 a) (2 ^ 15) then zext16 a else zext16 a + (2 ^ 32 - 2 ^ 16)

abbrev pub is_negative : ℕ → Bool
is_negative a = nat_le (2 ^ 31) a

-- the absolute value of a signed number
abbrev pub magnitude : ℕ → ℕ
magnitude a = if is_negative a then neg32 a else a

-- both are negative, or neither is
abbrev pub same_sign : ℕ → ℕ → Bool
same_sign a b = (is_negative a && is_negative b) || not (is_negative a || is_negative b)

-- the quotient of the magnitudes, negative where the signs differ
abbrev pub div32 : ℕ → ℕ → Option ℕ
div32 a b =
    if b == 0 then None
    else if same_sign a b then Some (magnitude a / magnitude b)
    else Some (neg32 (magnitude a / magnitude b))

-- zeros come in from the right
abbrev pub shifted_left : ℕ → ℕ → ℕ
shifted_left places a = if nat_lt places 32 then (a * 2 ^ places) % 2 ^ 32 else 0

-- copies of the sign come in from the left
abbrev pub shifted_right : ℕ → ℕ → ℕ
shifted_right places a =
    if is_negative a then com32 (com32 a / 2 ^ min places 31) else a / 2 ^ min places 31

-- by the signed low byte of the count: left where it is positive, right where it is negative
abbrev pub ash32 : ℕ → ℕ → ℕ
ash32 count a =
    if nat_lt (zext8 count) (2 ^ 7) then shifted_left (zext8 count) a
    else shifted_right (2 ^ 8 - zext8 count) a
