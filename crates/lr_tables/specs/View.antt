-- The tables as contracts see them.
use Rattle.std.specs.Prelude.{ℕ, List, Option}
use Rattle.md_reader.specs.State.{Content}
use Rattle.lr_tables.specs.declared.types.Choice.{Choice}

-- a row: for each symbol the state to which it leads, for each token what may be done
pub record RowView : Type 0 where
  pub targets : List (Option ℕ)
  pub actions : List (List Choice)

pub record TableView : Type 0 where
  pub content : Content
  pub rows : List RowView
