-- The table of kinds: what may be wrong with a line at the point where it stands, in the order in which it is answered.
use Rattle.std.specs.Prelude.{◌≡◌, ℕ, ◌||◌, ◌&&◌, not, nat_le, Bool, true, false, List, [], ◌∷◌, length, Option, Some, None}
use Rattle.std.specs.Prelude.{is_none, is_some, Result, Ok, Err, if◌then◌else◌}
use Rattle.tree_core.specs.declared.token.Sort.{Sort}
use Rattle.md_reader_pieces.specs.Pieces.{pieces}
use Rattle.md_reader.specs.declared.types.Class.{Class}
use Rattle.md_reader.specs.declared.types.Sym.{Sym}
use Rattle.md_reader.specs.declared.types.Sym.TheVariants as grammar_symbol
use Rattle.md_reader.specs.declared.types.Give.{Give}
use Rattle.md_reader.specs.declared.faults.DescKind.{DescKind}
use Rattle.md_reader.specs.declared.faults.DescKind.TheVariants as kinds
use Rattle.md_reader.specs.declared.reading.Stage.{Stage}
use Rattle.md_reader.specs.declared.reading.Stage.TheVariants as stage
use Rattle.md_reader.specs.Patterns.{kind_at, sort_of_symbol, sorted_test, walk, count}
use Rattle.md_reader.specs.Symbols.{class_of, symbols_of}
use Rattle.md_types.specs.Forms.{is_skipped}
use Rattle.md_reader.specs.RuleForms.{plain_give}
use Rattle.md_reader.specs.Restrictions.{restriction_fits}
use Rattle.md_reader.specs.Rows.{line_fits, pieces_fit, shape_fits, plain_fits, is_bare}
use Rattle.md_reader.specs.State.{State, Content}
use Rattle.md_reader.specs.HeadSteps.{has_stmt}
use Rattle.md_reader.specs.Steps.{line_step}
use Rattle.md_reader.specs.Reads.{closed}
use Rattle.md_reader_kinds.specs.Sayings.{Saying, Head, NewClass, Spill, NewRule, If, Do, Giving, said}

-- there is one, and it fails
abbrev pub fails : {A : Type 0} → (A → Bool) → Option A → Bool
fails test None = false
fails test (Some a) = not (test a)

-- none is there, or it fails
abbrev pub lacks : {A : Type 0} → (A → Bool) → Option A → Bool
lacks test None = true
lacks test (Some a) = not (test a)

-- a kid's sort doesn't fit, or the pattern's own, or the right side is a class of kind Nothing
abbrev pub wrong_sorts : List Class → Option Sort → List Sym → Bool
wrong_sorts classes None syms = true
wrong_sorts classes (Some x) syms = is_bare classes syms || not (walk (sorted_test classes) (x ∷ []) syms)

abbrev pub wrong_sort : List Class → Option ℕ → Option (List Sym) → Bool
wrong_sort classes None syms = false
wrong_sort classes (Some left) None = false
wrong_sort classes (Some left) (Some syms) = wrong_sorts classes (sort_of_symbol classes (grammar_symbol.Class left)) syms

-- an operand has a bad hole, or isn't what a rule of the class gives
abbrev pub bad_operand : State → Option Give → List ℕ → Bool
bad_operand s (Some g) w = false
bad_operand s None w = lacks (pieces_fit false s.right) (pieces w)

abbrev pub bad_give : State → Option Give → List ℕ → Bool
bad_give s (Some g) w = not (plain_fits (kind_at s.classes s.left) g)
bad_give s None w = fails (shape_fits s.classes s.right (kind_at s.classes s.left)) (pieces w)

pub record Row : Type 0 where
  pub kind : DescKind
  pub applies : Bool

abbrev pub row : DescKind → Bool → Row
row kind applies = record { kind = kind; applies = applies }

-- the kinds that may apply to a line that says this, in order; a line whose form isn't allowed is no saying
abbrev pub rows : State → Bool → Option Saying → List Row
rows s z None = row kinds.BadWord true ∷ []
rows s z (Some Head) = []
rows s z (Some (NewClass name kind)) = row kinds.Limit (nat_le 64 (length s.classes)) ∷ row kinds.Twice
    (is_some (class_of s.classes name)) ∷ []
rows s z (Some (Spill text)) =
    row kinds.MissingStmt (not (has_stmt s.classes)) ∷
    row kinds.BadWord (is_none text) ∷
    row kinds.BadHole (fails (λ (t : List ℕ). not (lacks (line_fits true (grammar_symbol.Class 0 ∷ [])) (pieces t))) text) ∷ []
rows s z (Some (NewRule class right)) =
    row kinds.Limit (nat_le 1000 (length s.rules) || not (nat_le (length right) 16)) ∷
    row kinds.UnknownClass (is_none (class_of s.classes class)) ∷
    row kinds.UnknownToken (is_none (symbols_of s.classes right)) ∷
    row kinds.NotATree (fails (count 1) (symbols_of s.classes right)) ∷
    row kinds.WrongSort (wrong_sort s.classes (class_of s.classes class) (symbols_of s.classes right)) ∷ []
rows s z (Some (If r)) = row kinds.Limit (nat_le 4 (length s.restrictions)) ∷ row kinds.BadIf
    (not (restriction_fits s.classes s.right r)) ∷ []
rows s z (Some (Do text)) = row kinds.Limit (nat_le 8 (length s.lines)) ∷ row kinds.BadHole
    (lacks (line_fits s.register s.right) (pieces text)) ∷ []
rows s z (Some (Giving w)) = row kinds.BadHole (bad_operand s (plain_give w) w) ∷ row kinds.BadGive (bad_give s (plain_give w) w) ∷ []

-- the first that applies
abbrev pub first : List Row → Option DescKind
first [] = None
first (r ∷ rs) = if r.applies then Some r.kind else first rs

-- what is wrong with a line, if it is
abbrev pub kind_of : Result State DescKind → Option DescKind
kind_of (Ok t) = None
kind_of (Err k) = Some k

-- The reader answers the first kind that applies to a line, and takes the line exactly where none does, whatever the word of the machine
-- is. A line that says nothing is taken.
abbrev pub FirstKindIsAnswered : Type 0
FirstKindIsAnswered = (target : List ℕ) (s : State) (n : ℕ) (ws : List (List ℕ)) (z : Bool) → is_skipped ws ≡ false
    → kind_of (line_step target s n ws z) ≡ first (rows s z (said target s ws))

-- what was read before the lines end
abbrev pub is_at : Stage → Stage → Bool
is_at stage.Version stage.Version = true
is_at stage.Target stage.Target = true
is_at stage.Pool stage.Pool = true
is_at stage.Classes stage.Classes = true
is_at stage.Spills stage.Spills = true
is_at stage.Rules stage.Rules = true
is_at stage.Template stage.Template = true
is_at g h = false

-- the kinds that may apply where the lines end, in front of a bad `each` line or at the text's end: what is missing, in its order
abbrev pub end_rows : Stage → State → Option ℕ → List Row
end_rows g s bad =
    row kinds.BadEach (is_some bad) ∷
    row kinds.MissingVersion (is_at stage.Version g) ∷
    row kinds.MissingTarget (is_at stage.Target g) ∷
    row kinds.MissingPool (is_at stage.Pool g) ∷
    row kinds.MissingStmt (is_at stage.Classes g && not (has_stmt s.classes)) ∷
    row kinds.MissingSpill (is_at stage.Classes g || (is_at stage.Spills g && nat_le (length s.spills) 6)) ∷
    row kinds.MissingReload (is_at stage.Spills g) ∷
    row kinds.MissingRule (is_at stage.Rules g && not (nat_le 1 (length s.rules))) ∷
    row kinds.MissingGive (is_at stage.Template g) ∷ []

abbrev pub end_kind : Result Content (ℕ × DescKind) → Option DescKind
end_kind (Ok d) = None
end_kind (Err x) = Some x.1

-- And so it does where the lines end: a bad `each` line goes before what is missing.
abbrev pub FirstKindAtTheEnd : Type 0
FirstKindAtTheEnd = (s : State) (n : ℕ) (bad : Option ℕ) → end_kind (closed bad n s) ≡ first (end_rows s.stage s bad)
