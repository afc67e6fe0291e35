-- The rows of the tables are those of the kernels that are found.
use Rattle.std.specs.Prelude.{◌≡◌, ℕ, ◌≤◌, List, length, map}
use Rattle.lr_tables.specs.declared.numbering.TheConstants.{MAX_STATES}
use Rattle.md_reader.specs.declared.types.Rule.{Rule}
use Rattle.lr_tables.specs.View.{RowView}
use Rattle.lr_tables.specs.Numbering.{found}
use Rattle.lr_tables.specs.Rows.{row_of}

pub record IsRows (rules : List Rule) (stmt classes : ℕ) (table : List RowView) : Type 0 where
  pub few : length table ≤ MAX_STATES
  pub many : length (found rules stmt classes (length table)) ≡ length table
  pub each : table ≡ map (row_of rules stmt classes (found rules stmt classes (length table))) (found rules stmt classes (length table))
