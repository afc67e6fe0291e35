-- The entries of a state's row: places among its own lists, and numbers of states.
use Rattle.std.specs.Prelude.{◌≡◌, ℕ, ◌+◌, ◌-◌, ◌<◌, ◌≤◌, List, [], ◌∷◌, ◌++◌, Option, Some, None, Bool, true, false, ◌==◌, length, map}
use Rattle.std.specs.Prelude.{fold, unwrap_or, if◌then◌else◌}
use Rattle.std.specs.Cmp.Lexicographic.{pointwise}
use Rattle.std.specs.List.{All, position_from}
use Rattle.lr_tables.specs.declared.numbering.TheConstants.{MAX_STATES}
use Rattle.lr_tables.specs.declared.types.Choice.{Choice}
use Rattle.lr_tables.specs.declared.types.Choice.TheVariants as choice
use Rattle.lr_tables.specs.View.{RowView}

abbrev pub same_choice : Choice → Choice → Bool
same_choice (choice.Shift p) (choice.Shift q) = p == q
same_choice (choice.Reduce m) (choice.Reduce n) = m == n
same_choice choice.Accept choice.Accept = true
same_choice x y = false

abbrev pub same_choices : List Choice → List Choice → Bool
same_choices xs ys = pointwise same_choice xs ys

-- the place of a list among lists
abbrev pub place_of : List (List Choice) → List Choice → Option ℕ
place_of lists cs = position_from (same_choices cs) 0 lists

-- one list more, where it has no place there
abbrev pub unless_placed : Option ℕ → List (List Choice) → List Choice → List (List Choice)
unless_placed (Some n) lists cs = lists
unless_placed None lists cs = lists ++ cs ∷ []

abbrev pub with_list : List (List Choice) → List Choice → List (List Choice)
with_list lists cs = unless_placed (place_of lists cs) lists cs

-- a state's own lists: its different lists, in order of first token
unfoldable pub own_lists : List (List Choice) → List (List Choice)
own_lists actions = fold with_list [] actions

abbrev pub action_entry : List (List Choice) → List Choice → ℕ
action_entry lists cs = unwrap_or (place_of lists cs) 0

unfoldable pub action_entries : RowView → List ℕ
action_entries r = map (action_entry (own_lists r.actions)) r.actions

-- nowhere is 0
abbrev pub goto_entry : Option ℕ → ℕ
goto_entry None = 0
goto_entry (Some q) = q + 1

abbrev pub target_of_entry : ℕ → Option ℕ
target_of_entry e = if e == 0 then None else Some (e - 1)

unfoldable pub goto_entries : RowView → List ℕ
goto_entries r = map goto_entry r.targets

-- no state, or one of `MAX_STATES`
abbrev pub IsBelow : Option ℕ → Type 0
IsBelow None = Unit {0}
IsBelow (Some q) = q < MAX_STATES

-- a row for the 40 tokens and so many symbols
pub record IsEven (width : ℕ) (r : RowView) : Type 0 where
  pub tokens : length r.actions ≡ 40
  pub symbols : length r.targets ≡ width
  pub below : All IsBelow r.targets

pub record AreEven (rows : List RowView) : Type 0 where
  pub width : ℕ
  pub few : width ≤ 104
  pub each : All (IsEven width) rows
