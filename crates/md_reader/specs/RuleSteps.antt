-- What each line of a rule does to what was read so far, or what is wrong with it.
use Rattle.std.specs.Prelude.{ℕ, Bool, false, ◌==◌, nat_le, List, [], ◌∷◌, ◌++◌, length, Option, Some, None, Result}
use Rattle.std.specs.Prelude.{Ok, Err, if◌then◌else◌}
use Rattle.md_reader_pieces.specs.declared.piece.Piece.{Piece}
use Rattle.md_reader_pieces.specs.Pieces.{text_of, pieces}
use Rattle.tree_core.specs.declared.token.Sort.{Sort}
use Rattle.md_reader.specs.declared.types.Sym.{Sym}
use Rattle.md_reader.specs.declared.types.Sym.TheVariants as grammar_symbol
use Rattle.md_reader.specs.declared.types.Restriction.{Restriction}
use Rattle.md_reader.specs.declared.types.Give.{Give}
use Rattle.md_reader.specs.declared.types.Give.TheVariants as give
use Rattle.md_reader.specs.declared.faults.DescKind.{DescKind}
use Rattle.md_reader.specs.declared.faults.DescKind.TheVariants as kinds
use Rattle.md_reader.specs.declared.reading.Stage.TheVariants as stage
use Rattle.md_reader.specs.Patterns.{kind_at, sort_of_symbol, sorted_test, walk, count}
use Rattle.md_reader.specs.Symbols.{class_of, symbols_of}
use Rattle.md_reader.specs.RuleForms.{do_form, give_form, plain_give}
use Rattle.md_reader.specs.Restrictions.{restriction_fits}
use Rattle.md_reader.specs.Rows.{line_fits, pieces_fit, shape_fits, plain_fits, is_bare}
use Rattle.md_reader.specs.State.{State}
use Rattle.md_reader.specs.HeadSteps.{line_at}

-- `rule ..`
abbrev pub begun : State → ℕ → List Sym → Bool → State
begun s left right register = record s {
  stage = stage.Template;
  left = left;
  right = right;
  restrictions = [];
  lines = [];
  register = register;
}

abbrev pub sort_step : State → ℕ → List Sym → Bool → Option Sort → Result State DescKind
sort_step s left right z None = Err kinds.WrongSort
sort_step s left right z (Some sort) =
    if is_bare s.classes right then Err kinds.WrongSort
    else if walk (sorted_test s.classes) (sort ∷ []) right then Ok (begun s left right z)
    else Err kinds.WrongSort

abbrev pub right_step : State → ℕ → Bool → Option (List Sym) → Result State DescKind
right_step s left z None = Err kinds.UnknownToken
right_step s left z (Some right) = if count 1 right then sort_step s left right z (sort_of_symbol s.classes (grammar_symbol.Class left))
    else Err kinds.NotATree

abbrev pub left_step : State → Bool → List (List ℕ) → Option ℕ → Result State DescKind
left_step s z ws None = Err kinds.UnknownClass
left_step s z ws (Some left) = right_step s left z (symbols_of s.classes ws)

abbrev pub rule_step : State → Bool → List ℕ → List (List ℕ) → Result State DescKind
rule_step s z class ws =
    if nat_le 1000 (length s.rules) then Err kinds.Limit
    else if nat_le (length ws) 16 then left_step s z ws (class_of s.classes class)
    else Err kinds.Limit

abbrev pub rule_line : State → Bool → Option (List ℕ × List (List ℕ)) → Result State DescKind
rule_line s z None = Err kinds.BadWord
rule_line s z (Some x) = rule_step s z x.0 x.1

-- `if ..`, which stands in front of the `do` lines
abbrev pub if_step : State → Restriction → Result State DescKind
if_step s r =
    if length s.lines == 0 then
    (if nat_le 4 (length s.restrictions) then Err kinds.Limit
    else if restriction_fits s.classes s.right r then Ok (record s { restrictions = s.restrictions ++ r ∷ [] })
    else Err kinds.BadIf)
    else Err kinds.BadWord

-- `do ..`
abbrev pub do_pieces : State → ℕ → Option (List Piece) → Result State DescKind
do_pieces s n None = Err kinds.BadHole
do_pieces s n (Some ps) =
    if line_fits s.register s.right ps then Ok (record s { lines = s.lines ++ line_at n ps ∷ [] }) else Err kinds.BadHole

abbrev pub do_text : State → ℕ → Option (List ℕ) → Result State DescKind
do_text s n None = Err kinds.BadWord
do_text s n (Some t) = if nat_le 8 (length s.lines) then Err kinds.Limit else do_pieces s n (pieces t)

-- `give ..`
abbrev pub ended_rule : State → Give → State
ended_rule s g = record s {
  stage = stage.Rules;
  rules = s.rules ++ record { left = s.left; right = s.right; restrictions = s.restrictions; lines = s.lines; give = g } ∷ [];
  right = [];
  restrictions = [];
  lines = [];
}

abbrev pub shape_step : State → ℕ → Option (List Piece) → Result State DescKind
shape_step s n None = Err kinds.BadHole
shape_step s n (Some ps) =
    if pieces_fit false s.right ps then
    (if shape_fits s.classes s.right (kind_at s.classes s.left) ps then Ok (ended_rule s (give.Shape (line_at n ps))) else Err
    kinds.BadGive)
    else Err kinds.BadHole

abbrev pub give_step : State → ℕ → List ℕ → Option Give → Result State DescKind
give_step s n w None = shape_step s n (pieces w)
give_step s n w (Some g) = if plain_fits (kind_at s.classes s.left) g then Ok (ended_rule s g) else Err kinds.BadGive

abbrev pub give_line : State → ℕ → Option (List ℕ) → Result State DescKind
give_line s n None = Err kinds.BadWord
give_line s n (Some w) = give_step s n w (plain_give w)

abbrev pub do_line : State → ℕ → Option (List (List ℕ)) → List (List ℕ) → Result State DescKind
do_line s n (Some ws) line = do_text s n (text_of ws)
do_line s n None line = give_line s n (give_form line)

abbrev pub if_line : State → ℕ → Option Restriction → List (List ℕ) → Result State DescKind
if_line s n (Some r) ws = if_step s r
if_line s n None ws = do_line s n (do_form ws) ws
