-- The names that the lines of a template spell: of labels, and of functions with a call's number of arguments.
use Rattle.std.specs.Prelude.{◌≡◌, ℕ, ◌≤◌, ◌<◌, ◌^◌, ◌||◌, Bool, true, false, List, [], ◌∷◌, Option, Some, None}
use Rattle.std.specs.List.{AllByRecursion, list_any}
use Rattle.std.specs.Option.{option_or}
use Rattle.judging_laws.specs.sel_target.specs.tree_core.specs.declared.program.TreeFn.{TreeFn}
use Rattle.judging_laws.specs.sel_target.specs.tree_core.specs.declared.program.TreeProgram.{TreeProgram}
use Rattle.judging_laws.specs.sel_target.specs.tree_core.specs.Names.{label_name, function_label}
use Rattle.judging_laws.specs.md_reader_pieces.specs.declared.piece.Piece.{Piece}
use Rattle.judging_laws.specs.md_reader_pieces.specs.declared.piece.Piece.TheVariants as piece
use Rattle.judging_laws.specs.md_reader.specs.declared.types.Sym.{Sym}
use Rattle.judging_laws.specs.md_reader.specs.Rows.{any_symbol, line_fits}
use Rattle.judging_laws.specs.md_reader.specs.Restrictions.{is_branch, is_jump, is_call}
use Rattle.judging_laws.specs.sel_target.specs.declared.attr.Attr.{Attr}
use Rattle.judging_laws.specs.sel_target.specs.declared.attr.Attr.TheVariants as attr
use Rattle.judging_laws.specs.vax_templates.specs.FilledLines.{label_of_att, callee_of_att, callee_name}
use Rattle.judging_laws.specs.vax_templates.specs.vax_core.specs.Valid.{is_name}

module _ {O : Type 0} where
  abbrev pub label_in : Attr O → Option ℕ
  label_in (attr.Token l) = label_of_att l.att
  label_in a = None

  -- the label of a rule's branch or jump
  abbrev pub label_among : List (Attr O) → Option ℕ
  label_among [] = None
  label_among (a ∷ as') = option_or (label_in a) (label_among as')

  abbrev pub callee_in : Attr O → Option (ℕ × ℕ)
  callee_in (attr.Token l) = callee_of_att l.att
  callee_in a = None

  -- what a call calls, and with how many arguments
  abbrev pub callee_among : List (Attr O) → Option (ℕ × ℕ)
  callee_among [] = None
  callee_among (a ∷ as') = option_or (callee_in a) (callee_among as')

  -- a label to go to, and a function to call
  pub record CanGo (hs : List (Attr O)) : Type 0 where
    pub label : ℕ
    pub found : label_among hs ≡ Some label
    pub spelled : is_name (label_name label) ≡ true

  pub record CanCall (q : TreeProgram) (hs : List (Attr O)) : Type 0 where
    pub function : ℕ
    pub count : ℕ
    pub found : callee_among hs ≡ Some (function, count)
    pub few : count ≤ 255
    pub spelled : is_name (callee_name q function) ≡ true

-- what is written where a line names a label, or a call
abbrev pub is_label_piece : Piece → Bool
is_label_piece piece.Label = true
is_label_piece p = false

abbrev pub is_count_piece : Piece → Bool
is_count_piece piece.Count = true
is_count_piece p = false

-- a line that names a label or a call has one
pub record Names {O : Type 0} (q : TreeProgram) (hs : List (Attr O)) (ps : List Piece) : Type 0 where
  pub label : list_any is_label_piece ps ≡ true → CanGo hs
  pub callee : list_any is_count_piece ps ≡ true → CanCall q hs

-- the names of a program's functions can be spelled
abbrev pub FunctionsAreSpelled : TreeProgram → Type 0
FunctionsAreSpelled q = AllByRecursion (λ (f : TreeFn). is_name (function_label f.name) ≡ true) q.functions

-- What a line of a rule names can be spelled, and it names a label or a function only where the rule has one.
pub record NamesAreSpelled : Type 0 where
  pub label : (n : ℕ) → n < 2 ^ 32 → is_name (label_name n) ≡ true
  pub function : (q : TreeProgram) (n : ℕ) → FunctionsAreSpelled q → is_name (callee_name q n) ≡ true
  pub label_allowed : (register : Bool) (right : List Sym) (ps : List Piece) → line_fits register right ps ≡ true
      → list_any is_label_piece ps ≡ true → (any_symbol is_branch right || any_symbol is_jump right) ≡ true
  pub callee_allowed : (register : Bool) (right : List Sym) (ps : List Piece) → line_fits register right ps ≡ true
      → list_any is_count_piece ps ≡ true → any_symbol is_call right ≡ true
