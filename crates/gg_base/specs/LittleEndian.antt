-- Numbers in memory: the lowest byte first, at any address.
use Rattle.std.specs.Prelude.{ℕ, ◌+◌, ◌*◌, ◌%◌, ◌^◌, List, ◌++◌, take, drop, slice_index, slice_set}
use Rattle.std.specs.Int.{w16, w32, to_le_bytes, from_le_bytes}
use Rattle.gg_base.specs.declared.size.Size.{Size}
use Rattle.gg_base.specs.declared.size.Size.TheVariants.{Byte, Word, Long}

-- the number that stands at a place of some bytes
abbrev pub number_in : Size → List ℕ → ℕ → ℕ
number_in Byte bytes at = slice_index bytes at
number_in Word bytes at = from_le_bytes w16 (take 2 (drop at bytes))
number_in Long bytes at = from_le_bytes w32 (take 4 (drop at bytes))

-- the bytes with the low part of a number put there
abbrev pub with_number : Size → List ℕ → ℕ → ℕ → List ℕ
with_number Byte bytes at v = slice_set bytes at (v % 2 ^ 8)
with_number Word bytes at v = take at bytes ++ (to_le_bytes w16 (v % 2 ^ 16) ++ drop (at + 2) bytes)
with_number Long bytes at v = take at bytes ++ (to_le_bytes w32 v ++ drop (at + 4) bytes)

-- the number at an address of a memory that tells the byte at each address
abbrev pub word_of : (ℕ → ℕ) → ℕ → ℕ
word_of byte address = byte address + 2 ^ 8 * byte (address + 1)

abbrev pub number_of : (ℕ → ℕ) → Size → ℕ → ℕ
number_of byte Byte address = byte address
number_of byte Word address = word_of byte address
number_of byte Long address = word_of byte address + 2 ^ 16 * word_of byte (address + 2)
