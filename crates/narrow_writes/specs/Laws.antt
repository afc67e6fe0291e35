-- A number of any size that is put into a list of bytes, at a place where there is room for a longword.
use Rattle.std.specs.Prelude.{◌≡◌, ◌⊎◌, ℕ, ◌+◌, ◌^◌, ◌<◌, ◌≤◌, List, length}
use Rattle.gg_base.specs.declared.size.Size.{Size}
use Rattle.gg_base.specs.declared.size.Size.TheVariants.{Long}
use Rattle.gg_base.specs.Sizes.{bytes_of, low}
use Rattle.gg_base.specs.LittleEndian.{number_in, with_number}
use Rattle.vax_machine_lists.specs.Sound.{AllBelow}

-- the longword that stands there then
abbrev pub merged_long : Size → List ℕ → ℕ → ℕ → ℕ
merged_long size bytes place v = number_in Long (with_number size bytes place v) place

pub record NarrowWritesAreLong : Type 0 where
  -- its low part stands there
  pub there : (size : Size) (bytes : List ℕ) (place v : ℕ) → place + 4 ≤ length bytes → v < 2 ^ 32
      → number_in size (with_number size bytes place v) place ≡ low size v
  -- a number of any size outside what was put stays
  pub outside : (size other : Size) (bytes : List ℕ) (place at v : ℕ) → place + 4 ≤ length bytes
      → (at + bytes_of other ≤ place) ⊎ (place + bytes_of size ≤ at)
      → number_in other (with_number size bytes place v) at ≡ number_in other bytes at
  -- it is as if a longword were put there
  pub long : (size : Size) (bytes : List ℕ) (place v : ℕ) → AllBelow 256 bytes → place + 4 ≤ length bytes
      → with_number size bytes place v ≡ with_number Long bytes place (merged_long size bytes place v)
