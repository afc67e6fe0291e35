-- The line that refuses a source.
use Rattle.std.specs.Prelude.{ℕ, List, ◌++◌, codes}
use Rattle.std.specs.Fmt.{decimal}
use Rattle.gg_base.specs.declared.place.Place.{Place}
use Rattle.c_typed.specs.declared.source.SourceKind.{SourceKind}
use Rattle.c_typed.specs.Sources.{kind_name}

-- the place of the first fault, and its kind
abbrev pub fault_line : Place → SourceKind → List ℕ
fault_line place kind =
    codes "ggvax: " ++ (decimal place.line ++ (codes ":" ++ (decimal place.column ++ (codes ": " ++ (kind_name kind ++ codes "\n")))))
