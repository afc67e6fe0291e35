-- What the check of tables counts.
use Rattle.std.specs.Prelude.{◌↔◌, ℕ, List, length}
use Rattle.gg_base.specs.declared.limits.TheConstants.{SUMMARY_LIMIT}
use Rattle.lr_check_found.specs.tree_core.specs.declared.token.Tok.{Tok}
use Rattle.lr_check_found.specs.md_reader.specs.declared.types.Sym.{Sym}
use Rattle.lr_check_found.specs.md_reader.specs.Valid.{IsValid}
use Rattle.lr_checked.specs.lr_tables.specs.Statements.{stmt_of}
use Rattle.lr_checked.specs.lr_tables.specs.View.{TableView}
use Rattle.lr_checked.specs.lr_tables.specs.Leads.{Leads}
use Rattle.lr_checked.specs.lr_tables.specs.Promises.{IsNumbered}
use Rattle.lr_check_found.specs.lr_check_sets.specs.Sums.{Sum}
use Rattle.lr_check_found.specs.lr_check_sets.specs.Table.{automaton_of}
use Rattle.lr_check_found.specs.Count.{HasMore}
use Rattle.lr_checked.specs.Counted.{IsCounted, HasTooManySums}
use Rattle.lr_checked_sets.specs.Summaries.{Summary}
use Rattle.lr_checked_sets.specs.Counting.{HasMoreSummaries, HasSummaries, HasItemSets}

-- a stack that leads to the state, and has the summary
pub record HasSummary (t : TableView) (q : ℕ) (k b : Tok) (s : List Sym) : Type 0 where
  pub stack : List Sym
  pub leads : Leads t stack q
  pub is_summary : Summary t.content.rules (stmt_of t.content.classes) stack k b s

-- The sums of the states of a description's tables are the summaries of its item sets:
pub record AreOfItemSets (t : TableView) : Type 0 where
  -- a summary is a sum of the state to which its stack leads
  pub sums : (a : List Sym) (q : ℕ) (k b : Tok) (s : List Sym) → Leads t a q
      → Summary t.content.rules (stmt_of t.content.classes) a k b s → Sum (automaton_of t) q k b s
  -- each sum of a state is a summary of some stack that leads to it
  pub stacks : (q : ℕ) (k b : Tok) (s : List Sym) → Sum (automaton_of t) q k b s → HasSummary t q k b s
  -- there are more of the ones than so many exactly where there are more of the others
  pub more : (n : ℕ) → HasMore (automaton_of t) n ↔ HasMoreSummaries t.content n
  -- so their number, as it is answered, is the number of summaries, and too many are too many summaries
  pub counted : (n : ℕ) → IsCounted t n → HasSummaries t.content n
  pub too_many : HasTooManySums t.content ↔ HasMoreSummaries t.content SUMMARY_LIMIT

abbrev pub SumsAreOfItemSets : Type 0
SumsAreOfItemSets = (t : TableView) → IsValid t.content → IsNumbered t → AreOfItemSets t

-- There are as many states as item sets.
abbrev pub StatesAreCounted : Type 0
StatesAreCounted = (t : TableView) → IsValid t.content → IsNumbered t → HasItemSets t.content (length t.rows)
