-- What each line in front of the rules does to what was read so far, or what is wrong with it.
use Rattle.std.specs.Prelude.{ℕ, Bool, true, ◌==◌, ◌&&◌, nat_le, List, [], ◌∷◌, ◌++◌, length, Option, Some, None}
use Rattle.std.specs.Prelude.{Result, Ok, Err, codes, if◌then◌else◌}
use Rattle.std.specs.List.{list_any}
use Rattle.md_reader_text.specs.Words.{same}
use Rattle.md_reader_pieces.specs.declared.piece.Piece.{Piece}
use Rattle.md_reader_pieces.specs.declared.piece.Line.{Line}
use Rattle.md_reader_pieces.specs.Pieces.{text_of, pieces}
use Rattle.md_reader.specs.declared.types.Kind.{Kind}
use Rattle.md_reader.specs.declared.types.Class.{Class}
use Rattle.md_reader.specs.declared.types.Sym.TheVariants as grammar_symbol
use Rattle.md_reader.specs.declared.faults.DescKind.{DescKind}
use Rattle.md_reader.specs.declared.faults.DescKind.TheVariants as kinds
use Rattle.md_reader.specs.declared.forms.Saved.{Saved}
use Rattle.md_reader.specs.declared.reading.Stage.{Stage}
use Rattle.md_reader.specs.declared.reading.Stage.TheVariants as stage
use Rattle.md_reader.specs.Symbols.{class_of}
use Rattle.md_reader.specs.Forms.{spill_form, saved_number}
use Rattle.md_reader.specs.Restrictions.{is_nothing}
use Rattle.md_reader.specs.Rows.{line_fits}
use Rattle.md_reader.specs.State.{State}

abbrev pub line_at : ℕ → List Piece → Line
line_at n ps = record { line = n; pieces = ps }

-- the class `stmt` of statements
abbrev pub is_stmt : Class → Bool
is_stmt c = same c.name (codes "stmt") && is_nothing (Some c.kind)

abbrev pub has_stmt : List Class → Bool
has_stmt classes = list_any is_stmt classes

-- `version 1`, `target vax`, `pool ..`
abbrev pub pool_step : State → Option ℕ → Result State DescKind
pool_step s None = Err kinds.BadWord
pool_step s (Some m) = Ok (record s { stage = stage.Classes; pool = m })

-- `class ..`
abbrev pub new_class : State → List ℕ → Kind → Option ℕ → Result State DescKind
new_class s name kind (Some i) = Err kinds.Twice
new_class s name kind None = Ok (record s { classes = s.classes ++ record { name = name; kind = kind } ∷ [] })

abbrev pub class_step : State → List ℕ → Kind → Result State DescKind
class_step s name kind = if nat_le 64 (length s.classes) then Err kinds.Limit else new_class s name kind (class_of s.classes name)

-- `spill ..` and `reload ..`
abbrev pub stage_behind : List Line → Stage
stage_behind spills = if length spills == 7 then stage.Rules else stage.Spills

abbrev pub spill_pieces : State → ℕ → Option (List Piece) → Result State DescKind
spill_pieces s n None = Err kinds.BadHole
spill_pieces s n (Some ps) =
    if line_fits true (grammar_symbol.Class 0 ∷ []) ps then Ok (record s
    { stage = stage_behind s.spills; spills = s.spills ++ line_at n ps ∷ [] })
    else Err kinds.BadHole

abbrev pub spill_text : State → ℕ → Option (List ℕ) → Result State DescKind
spill_text s n None = Err kinds.BadWord
spill_text s n (Some t) = spill_pieces s n (pieces t)

abbrev pub spill_line : State → ℕ → Option (Saved × List (List ℕ)) → Result State DescKind
spill_line s n None = Err kinds.BadWord
spill_line s n (Some x) =
    if saved_number x.0 == length s.spills then (if has_stmt s.classes then spill_text s n (text_of x.1) else Err kinds.MissingStmt)
    else Err kinds.BadWord

abbrev pub class_line : State → ℕ → Option (List ℕ × Kind) → List (List ℕ) → Result State DescKind
class_line s n (Some x) ws = class_step s x.0 x.1
class_line s n None ws = spill_line s n (spill_form ws)
