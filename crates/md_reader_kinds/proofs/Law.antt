-- Each line's kind is the first of its row.
use Rattle.std.proofs.Common.{◌≡◌, ℕ, ◌==◌, Bool, true, false, List, [], ◌∷◌, length, Option, Some, None, refl, ap, ◌∙◌}
use Rattle.std.specs.Prelude.{is_none, is_some, Result, Ok, Err, nat_le, not, ◌||◌, if◌then◌else◌}
use Rattle.tree_core.specs.declared.token.Sort.{Sort}
use Rattle.md_reader_pieces.specs.declared.piece.Piece.{Piece}
use Rattle.md_reader_pieces.specs.Pieces.{text_of, pieces}
use Rattle.md_reader.specs.declared.types.Kind.{Kind}
use Rattle.md_reader.specs.declared.types.Sym.{Sym}
use Rattle.md_reader.specs.declared.types.Sym.TheVariants as grammar_symbol
use Rattle.md_reader.specs.declared.types.Restriction.{Restriction}
use Rattle.md_reader.specs.declared.types.Give.{Give}
use Rattle.md_reader.specs.declared.faults.DescKind.{DescKind}
use Rattle.md_reader.specs.declared.faults.DescKind.TheVariants as kinds
use Rattle.md_reader.specs.declared.forms.Saved.{Saved}
use Rattle.md_reader.specs.declared.reading.Stage.{Stage}
use Rattle.md_reader.specs.declared.reading.Stage.TheVariants as stage
use Rattle.md_reader.specs.Patterns.{kind_at, sort_of_symbol, sorted_test, walk, count}
use Rattle.md_reader.specs.Symbols.{class_of, symbols_of}
use Rattle.md_reader.specs.Forms.{is_version, is_target, pool_form, class_form, spill_form, saved_number}
use Rattle.md_reader.specs.RuleForms.{rule_form, if_form, do_form, give_form, plain_give}
use Rattle.md_reader.specs.Restrictions.{restriction_fits}
use Rattle.md_reader.specs.Rows.{line_fits, pieces_fit, shape_fits, plain_fits, is_bare}
use Rattle.md_reader.specs.State.{State, Content}
use Rattle.md_reader.specs.HeadSteps.{has_stmt, pool_step, new_class, class_step, spill_pieces, spill_text}
use Rattle.md_reader.specs.HeadSteps.{spill_line, class_line}
use Rattle.md_reader.specs.RuleSteps.{sort_step, right_step, left_step, rule_step, rule_line, if_step, do_pieces}
use Rattle.md_reader.specs.RuleSteps.{do_text, shape_step, give_step, give_line, do_line, if_line}
use Rattle.md_reader.specs.Steps.{step, step_at}
use Rattle.md_reader.specs.Reads.{content_of, ended_at}
use Rattle.std.specs.Option.{option_map}
use Rattle.md_reader_kinds.specs.Sayings.{Saying, Head, NewClass, Spill, NewRule, If, Do, Giving, head_if, spill_said}
use Rattle.md_reader_kinds.specs.Sayings.{class_said, do_said, if_said, said_at}
use Rattle.md_reader_kinds.specs.Table.{fails, lacks, bad_operand, bad_give, wrong_sorts}
use Rattle.md_reader_kinds.specs.Table.{wrong_sort, Row, row, rows, first, kind_of, end_rows, end_kind, FirstKindIsAnswered}
use Rattle.md_reader_kinds.specs.Table.{FirstKindAtTheEnd}

module _ (s : State) (n : ℕ) (z : Bool) where
  abbrev Kind_of : Result State DescKind → Option Saying → Type 0
  Kind_of r o = kind_of r ≡ first (rows s z o)

  head : (b : Bool) (t : State) → Kind_of (if b then Ok t else Err kinds.BadWord) (head_if b)
  head true t = refl
  head false t = refl

  -- ---- classes and spill lines

  new : (name : List ℕ) (kind : Kind) (o : Option ℕ) → kind_of (new_class s name kind o) ≡ first (row kinds.Twice (is_some o) ∷ [])
  new name kind None = refl
  new name kind (Some i) = refl

  class_kind : (name : List ℕ) (kind : Kind) → Kind_of (class_step s name kind) (Some (NewClass name kind))
  class_kind name kind = by (nat_le 64 (length s.classes))
    where
      by : (b : Bool) → kind_of (if b then Err kinds.Limit else new_class s name kind (class_of s.classes name)) ≡ first (row kinds.Limit b ∷ row kinds.Twice (is_some (class_of s.classes name)) ∷ [])
      by true = refl
      by false = new name kind (class_of s.classes name)

  abbrev spill_rows : Bool → Option (List ℕ) → List Row
  spill_rows b text =
      row kinds.MissingStmt (not b) ∷
      row kinds.BadWord (is_none text) ∷
      row kinds.BadHole (fails (λ (t : List ℕ). not (lacks (line_fits true (grammar_symbol.Class 0 ∷ [])) (pieces t))) text) ∷ []

  spill_hole : (o : Option (List Piece)) → kind_of (spill_pieces s n o) ≡ first (row kinds.BadHole (not (not (lacks (line_fits true (grammar_symbol.Class 0 ∷ [])) o))) ∷ [])
  spill_hole None = refl
  spill_hole (Some ps) = by (line_fits true (grammar_symbol.Class 0 ∷ []) ps) _
    where
      by : (b : Bool) (t : State) → kind_of (if b then Ok t else Err kinds.BadHole) ≡ first (row kinds.BadHole (not (not (not b))) ∷ [])
      by true t = refl
      by false t = refl

  spill_kind : (b : Bool) (text : Option (List ℕ)) → kind_of (if b then spill_text s n text else Err kinds.MissingStmt) ≡ first (spill_rows b text)
  spill_kind false text = refl
  spill_kind true None = refl
  spill_kind true (Some t) = spill_hole (pieces t)

  spill_line_kind : (o : Option (Saved × List (List ℕ))) → Kind_of (spill_line s n o) (spill_said s o)
  spill_line_kind None = refl
  spill_line_kind (Some x) = by (saved_number x.0 == length s.spills)
    where
      by : (b : Bool) → Kind_of (if b then (if has_stmt s.classes then spill_text s n (text_of x.1) else Err kinds.MissingStmt) else Err kinds.BadWord) (if b then Some (Spill (text_of x.1)) else None)
      by true = spill_kind (has_stmt s.classes) (text_of x.1)
      by false = refl

  class_line_kind : (o : Option (List ℕ × Kind)) (ws : List (List ℕ)) → Kind_of (class_line s n o ws) (class_said s o ws)
  class_line_kind (Some x) ws = class_kind x.0 x.1
  class_line_kind None ws = spill_line_kind (spill_form ws)

  -- ---- rules

  sort_kind : (left : ℕ) (right : List Sym) (o : Option Sort) → kind_of (sort_step s left right z o) ≡ first (row kinds.WrongSort (wrong_sorts s.classes o right) ∷ [])
  sort_kind left right None = refl
  sort_kind left right (Some x) = by (is_bare s.classes right) (walk (sorted_test s.classes) (x ∷ []) right) _
    where
      by : (b c : Bool) (t : State) → kind_of (if b then Err kinds.WrongSort else if c then Ok t else Err kinds.WrongSort) ≡ first (row kinds.WrongSort (b || not c) ∷ [])
      by true c t = refl
      by false true t = refl
      by false false t = refl

  right_kind : (left : ℕ) (o : Option (List Sym)) → kind_of (right_step s left z o)
      ≡ first (row kinds.UnknownToken (is_none o) ∷ row kinds.NotATree (fails (count 1) o) ∷ row kinds.WrongSort (wrong_sort s.classes (Some left) o) ∷ [])
  right_kind left None = refl
  right_kind left (Some right) = by (count 1 right)
    where
      by : (b : Bool) → kind_of (if b then sort_step s left right z (sort_of_symbol s.classes (grammar_symbol.Class left)) else Err kinds.NotATree)
          ≡ first (row kinds.NotATree (not b) ∷ row kinds.WrongSort (wrong_sorts s.classes (sort_of_symbol s.classes (grammar_symbol.Class left)) right) ∷ [])
      by true = sort_kind left right (sort_of_symbol s.classes (grammar_symbol.Class left))
      by false = refl

  abbrev left_rows : List (List ℕ) → Option ℕ → List Row
  left_rows ws o =
      row kinds.UnknownClass (is_none o) ∷
      row kinds.UnknownToken (is_none (symbols_of s.classes ws)) ∷
      row kinds.NotATree (fails (count 1) (symbols_of s.classes ws)) ∷
      row kinds.WrongSort (wrong_sort s.classes o (symbols_of s.classes ws)) ∷ []

  left_kind : (ws : List (List ℕ)) (o : Option ℕ) → kind_of (left_step s z ws o) ≡ first (left_rows ws o)
  left_kind ws None = refl
  left_kind ws (Some left) = right_kind left (symbols_of s.classes ws)

  rule_kind : (class : List ℕ) (ws : List (List ℕ)) → Kind_of (rule_step s z class ws) (Some (NewRule class ws))
  rule_kind class ws = by (nat_le 1000 (length s.rules)) (nat_le (length ws) 16) _ (left_rows ws (class_of s.classes class)) (left_kind ws (class_of s.classes class))
    where
      by : (b c : Bool) (r : Result State DescKind) (rs : List Row) → kind_of r ≡ first rs
          → kind_of (if b then Err kinds.Limit else if c then r else Err kinds.Limit) ≡ first (row kinds.Limit (b || not c) ∷ rs)
      by true c r rs h = refl
      by false true r rs h = h
      by false false r rs h = refl

  rule_line_kind : (o : Option (List ℕ × List (List ℕ))) → Kind_of (rule_line s z o) (option_map (λ (x : List ℕ × List (List ℕ)). NewRule x.0 x.1) o)
  rule_line_kind None = refl
  rule_line_kind (Some x) = rule_kind x.0 x.1

  -- ---- templates

  if_kind : (r : Restriction) → Kind_of (if_step s r) (if length s.lines == 0 then Some (If r) else None)
  if_kind r = by (length s.lines == 0) _ (inner (nat_le 4 (length s.restrictions)) (restriction_fits s.classes s.right r) _)
    where
      inner : (c d : Bool) (t : State) → kind_of (if c then Err kinds.Limit else if d then Ok t else Err kinds.BadIf) ≡ first (row kinds.Limit c ∷ row kinds.BadIf (not d) ∷ [])
      inner true d t = refl
      inner false true t = refl
      inner false false t = refl

      by : (b : Bool) (o : Result State DescKind) → kind_of o ≡ first (rows s z (Some (If r))) → Kind_of (if b then o else Err kinds.BadWord) (if b then Some (If r) else None)
      by true o h = h
      by false o h = refl

  do_hole : (o : Option (List Piece)) → kind_of (do_pieces s n o) ≡ first (row kinds.BadHole (lacks (line_fits s.register s.right) o) ∷ [])
  do_hole None = refl
  do_hole (Some ps) = by (line_fits s.register s.right ps) _
    where
      by : (b : Bool) (t : State) → kind_of (if b then Ok t else Err kinds.BadHole) ≡ first (row kinds.BadHole (not b) ∷ [])
      by true t = refl
      by false t = refl

  do_kind : (o : Option (List ℕ)) → Kind_of (do_text s n o) (option_map Do o)
  do_kind None = refl
  do_kind (Some t) = by (nat_le 8 (length s.lines))
    where
      by : (b : Bool) → kind_of (if b then Err kinds.Limit else do_pieces s n (pieces t)) ≡ first (row kinds.Limit b ∷ row kinds.BadHole (lacks (line_fits s.register s.right) (pieces t)) ∷ [])
      by true = refl
      by false = do_hole (pieces t)

  abbrev give_rows : Option Give → Option (List Piece) → List Row
  give_rows (Some g) o = row kinds.BadHole false ∷ row kinds.BadGive (not (plain_fits (kind_at s.classes s.left) g)) ∷ []
  give_rows None o =
      row kinds.BadHole (lacks (pieces_fit false s.right) o) ∷
      row kinds.BadGive (fails (shape_fits s.classes s.right (kind_at s.classes s.left)) o) ∷ []

  shape_kind : (o : Option (List Piece)) → kind_of (shape_step s n o) ≡ first (give_rows None o)
  shape_kind None = refl
  shape_kind (Some ps) = by (pieces_fit false s.right ps) (shape_fits s.classes s.right (kind_at s.classes s.left) ps) _
    where
      by : (b c : Bool) (t : State) → kind_of (if b then (if c then Ok t else Err kinds.BadGive) else Err kinds.BadHole) ≡ first (row kinds.BadHole (not b) ∷ row kinds.BadGive (not c) ∷ [])
      by true true t = refl
      by true false t = refl
      by false c t = refl

  give_kind : (w : List ℕ) (o : Option Give) → kind_of (give_step s n w o) ≡ first (row kinds.BadHole (bad_operand s o w) ∷ row kinds.BadGive (bad_give s o w) ∷ [])
  give_kind w None = shape_kind (pieces w)
  give_kind w (Some g) = by (plain_fits (kind_at s.classes s.left) g) _
    where
      by : (b : Bool) (t : State) → kind_of (if b then Ok t else Err kinds.BadGive) ≡ first (row kinds.BadGive (not b) ∷ [])
      by true t = refl
      by false t = refl

  give_line_kind : (o : Option (List ℕ)) → Kind_of (give_line s n o) (option_map Giving o)
  give_line_kind None = refl
  give_line_kind (Some w) = give_kind w (plain_give w)

  do_line_kind : (o : Option (List (List ℕ))) (ws : List (List ℕ)) → Kind_of (do_line s n o ws) (do_said o ws)
  do_line_kind (Some t) ws = do_kind (text_of t)
  do_line_kind None ws = give_line_kind (give_form ws)

  if_line_kind : (o : Option Restriction) (ws : List (List ℕ)) → Kind_of (if_line s n o ws) (if_said s o ws)
  if_line_kind (Some r) ws = if_kind r
  if_line_kind None ws = do_line_kind (do_form ws) ws

  pool_kind : (o : Option ℕ) → Kind_of (pool_step s o) (option_map (λ (m : ℕ). Head) o)
  pool_kind None = refl
  pool_kind (Some m) = refl

  step_kind : (target : List ℕ) (g : Stage) (ws : List (List ℕ)) → Kind_of (step_at target g s n ws z) (said_at target g s ws)
  step_kind target stage.Version ws = head (is_version ws) _
  step_kind target stage.Target ws = head (is_target target ws) _
  step_kind target stage.Pool ws = pool_kind (pool_form ws)
  step_kind target stage.Classes ws = class_line_kind (class_form ws) ws
  step_kind target stage.Spills ws = spill_line_kind (spill_form ws)
  step_kind target stage.Rules ws = rule_line_kind (rule_form ws)
  step_kind target stage.Template ws = if_line_kind (if_form ws) ws

pub first_kind_is_answered : FirstKindIsAnswered
first_kind_is_answered target s n ws z e =
    ap (λ (b : Bool). kind_of (if b then Ok s else step target s n ws z)) e ∙ step_kind s n z target s.stage ws

-- where the lines end
spill_or_stmt : (n : ℕ) (b : Bool) → end_kind (if b then Err (n, kinds.MissingSpill) else Err (n, kinds.MissingStmt)) ≡ (if not b then Some kinds.MissingStmt else Some kinds.MissingSpill)
spill_or_stmt n true = refl
spill_or_stmt n false = refl

spill_or_reload : (n : ℕ) (b : Bool) → end_kind (if b then Err (n, kinds.MissingSpill) else Err (n, kinds.MissingReload)) ≡ (if b then Some kinds.MissingSpill else Some kinds.MissingReload)
spill_or_reload n true = refl
spill_or_reload n false = refl

whole_or_rule : (d : Content) (n : ℕ) (b : Bool) → end_kind (if b then Ok d else Err (n, kinds.MissingRule)) ≡ (if not b then Some kinds.MissingRule else None)
whole_or_rule d n true = refl
whole_or_rule d n false = refl

ended_kind : (g : Stage) (s : State) (n : ℕ) → end_kind (ended_at g n s) ≡ first (end_rows g s None)
ended_kind stage.Version s n = refl
ended_kind stage.Target s n = refl
ended_kind stage.Pool s n = refl
ended_kind stage.Classes s n = spill_or_stmt n (has_stmt s.classes)
ended_kind stage.Spills s n = spill_or_reload n (nat_le (length s.spills) 6)
ended_kind stage.Rules s n = whole_or_rule (content_of s) n (nat_le 1 (length s.rules))
ended_kind stage.Template s n = refl

pub first_kind_at_the_end : FirstKindAtTheEnd
first_kind_at_the_end s n None = ended_kind s.stage s n
first_kind_at_the_end s n (Some bad) = refl
