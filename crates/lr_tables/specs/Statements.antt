-- The class of statements.
use Rattle.std.specs.Prelude.{ℕ, ◌+◌, List, [], ◌∷◌, codes, if◌then◌else◌}
use Rattle.std.specs.Str.{bytes_eq}
use Rattle.md_reader.specs.declared.types.Class.{Class}

-- the number of the class `stmt`, counted on from a number
abbrev pub stmt_from : ℕ → List Class → ℕ
stmt_from n [] = 0
stmt_from n (c ∷ cs) = if bytes_eq c.name (codes "stmt") then n else stmt_from (n + 1) cs

abbrev pub stmt_of : List Class → ℕ
stmt_of classes = stmt_from 0 classes
