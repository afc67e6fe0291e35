-- The tables as they are kept: two packed tables, and each state's own lists.
use Rattle.std.specs.Prelude.{◌≡◌, ℕ, List, length, map}
use Rattle.pack_rows.specs.Packed.{AreRows, packed}
use Rattle.md_reader.specs.declared.types.Rule.{Rule}
use Rattle.lr_tables.specs.declared.kept.Kept.{Kept}
use Rattle.lr_tables.specs.View.{RowView}
use Rattle.lr_tables.specs.Numbering.{found}
use Rattle.lr_tables.specs.Rows.{row_of}
use Rattle.lr_tables.specs.Built.{IsRows}
use Rattle.lr_tables.specs.Entries.{own_lists, action_entries, goto_entries}

-- these rows are kept so
pub record IsKept (rows : List RowView) (k : Kept) : Type 0 where
  pub lists : k.lists.items ≡ map (λ (r : RowView). own_lists r.actions) rows
  pub actions : k.actions ≡ packed (map action_entries rows)
  pub gotos : k.gotos ≡ packed (map goto_entries rows)
  pub action_rows : AreRows (map action_entries rows)
  pub goto_rows : AreRows (map goto_entries rows)

-- the rows of the first so many item sets
unfoldable pub rows_to : List Rule → ℕ → ℕ → ℕ → List RowView
rows_to rules stmt classes n = map (row_of rules stmt classes (found rules stmt classes n)) (found rules stmt classes n)

-- what is kept are the rows of all item sets
pub record AreTables (rules : List Rule) (stmt classes : ℕ) (k : Kept) : Type 0 where
  pub are_rows : IsRows rules stmt classes (rows_to rules stmt classes (length k.lists.items))
  pub kept : IsKept (rows_to rules stmt classes (length k.lists.items)) k
