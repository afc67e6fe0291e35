-- How many sums a description has.
use Rattle.std.specs.Prelude.{◌≡◌, ℕ, ◌≤◌}
use Rattle.gg_base.specs.declared.limits.TheConstants.{SUMMARY_LIMIT}
use Rattle.md_reader.specs.State.{Content}
use Rattle.lr_tables.specs.View.{TableView}
use Rattle.lr_tables.specs.Promises.{IsNumbered}
use Rattle.lr_check_found.specs.lr_check_sets.specs.Table.{automaton_of}
use Rattle.lr_check_found.specs.Count.{HasMore}
use Rattle.lr_check_decided.specs.Decided.{HasSums}

-- the set of sums has so many tuples, no two of them the same, and these are no more than `SUMMARY_LIMIT`
pub record IsCounted (t : TableView) (n : ℕ) : Type 0 where
  pub sums : HasSums (automaton_of t) n
  pub within : n ≤ SUMMARY_LIMIT

-- a description's tables, of which there is one alone, have more than `SUMMARY_LIMIT` sums
pub record HasTooManySums (d : Content) : Type 0 where
  pub tables : TableView
  pub of : tables.content ≡ d
  pub numbered : IsNumbered tables
  pub many : HasMore (automaton_of tables) SUMMARY_LIMIT
