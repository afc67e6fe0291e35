-- The states of a description's tables are its item sets.
use Rattle.std.specs.Prelude.{◌≡◌, ◌↔◌, ℕ, ◌<◌, List, length}
use Rattle.md_reader.specs.declared.types.Sym.{Sym}
use Rattle.md_reader.specs.Valid.{IsValid}
use Rattle.lr_tables.specs.declared.item.Item.{Item}
use Rattle.lr_tables.specs.Items.{Items}
use Rattle.lr_tables.specs.Statements.{stmt_of}
use Rattle.lr_tables.specs.View.{TableView}
use Rattle.lr_tables.specs.Leads.{Leads}
use Rattle.lr_tables.specs.Promises.{IsNumbered}
use Rattle.lr_tables.specs.Over.{SameItems}

-- a stack that leads to the state, and an item that is valid for it
pub record HasStack (t : TableView) (q : ℕ) : Type 0 where
  pub stack : List Sym
  pub leads : Leads t stack q
  pub item : Item
  pub valid : Items t.content.rules (stmt_of t.content.classes) stack item

pub record AreItemSets (t : TableView) : Type 0 where
  -- each state has a stack
  pub stacks : (q : ℕ) → q < length t.rows → HasStack t q
  -- each stack with a valid item leads to a state
  pub states : (a : List Sym) (i : Item) → Items t.content.rules (stmt_of t.content.classes) a i → (q : ℕ) × Leads t a q
  -- which has a row
  pub rows : (a : List Sym) (q : ℕ) → Leads t a q → q < length t.rows
  -- two stacks lead to one state exactly where their items are the same
  pub same : (a b : List Sym) (q p : ℕ) → Leads t a q → Leads t b p → (q ≡ p) ↔ SameItems t.content.rules (stmt_of t.content.classes) a b

abbrev pub StatesAreItemSets : Type 0
StatesAreItemSets = (t : TableView) → IsValid t.content → IsNumbered t → AreItemSets t
