-- The copies of a rule: one for each size, in which three signs stand for what belongs to the size.
use Rattle.std.specs.Prelude.{ℕ, ◌==◌, List, [], ◌∷◌, codes, map, if◌then◌else◌}
use Rattle.std.specs.List.{flat_map}
use Rattle.gg_base.specs.declared.size.Size.{Size}
use Rattle.gg_base.specs.declared.size.Size.TheVariants as sizes
use Rattle.md_types.specs.declared.types.ExpandedLine.{ExpandedLine}

-- the size's letter, its capital, and the constant that is its number of bytes
abbrev pub letter : Size → List ℕ
letter sizes.Byte = codes "b"
letter sizes.Word = codes "w"
letter sizes.Long = codes "l"

abbrev pub capital : Size → List ℕ
capital sizes.Byte = codes "B"
capital sizes.Word = codes "W"
capital sizes.Long = codes "L"

abbrev pub constant : Size → List ℕ
constant sizes.Byte = codes "One"
constant sizes.Word = codes "Two"
constant sizes.Long = codes "Four"

-- `@` is the letter, `^` the capital, `~` the constant; each other byte is itself
abbrev pub byte_for : Size → ℕ → List ℕ
byte_for z b =
    if b == 64 then letter z
    else if b == 94 then capital z
    else if b == 126 then constant z else b ∷ []

abbrev pub line_for : Size → ExpandedLine → ExpandedLine
line_for z l = record { bytes = flat_map (byte_for z) l.bytes; from = l.from }

-- these lines once for each of these sizes, in order
abbrev pub copies : List Size → List ExpandedLine → List ExpandedLine
copies zs rule = flat_map (λ (z : Size). map (line_for z) rule) zs
