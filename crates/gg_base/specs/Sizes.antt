-- Sizes of operands and objects.
use Rattle.std.specs.Prelude.{ℕ, ◌%◌, ◌^◌}
use Rattle.gg_base.specs.declared.size.Size.{Size}
use Rattle.gg_base.specs.declared.size.Size.TheVariants.{Byte, Word, Long}

-- how many bytes an operand of a size takes
abbrev pub bytes_of : Size → ℕ
bytes_of Byte = 1
bytes_of Word = 2
bytes_of Long = 4

-- the low part of a number at a size
abbrev pub low : Size → ℕ → ℕ
low Byte v = v % 2 ^ 8
low Word v = v % 2 ^ 16
low Long v = v
