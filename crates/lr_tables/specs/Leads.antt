-- To which state a stack leads.
use Rattle.std.specs.Prelude.{◌≡◌, ℕ, List, [], ◌∷◌, Option, Some, None, slice_get, slice_index_or}
use Rattle.tree_core.specs.declared.token.Tok.{Tok}
use Rattle.md_reader.specs.declared.types.Sym.{Sym}
use Rattle.lr_tables.specs.declared.types.Choice.{Choice}
use Rattle.lr_tables.specs.Symbols.{number, symbol_number}
use Rattle.lr_tables.specs.View.{RowView, TableView}

abbrev pub target_in : Option RowView → ℕ → Option ℕ
target_in None n = None
target_in (Some r) n = slice_index_or r.targets n None

-- the state to which a state leads over a symbol
abbrev pub target_at : TableView → ℕ → Sym → Option ℕ
target_at t q X = target_in (slice_get t.rows q) (symbol_number X)

abbrev pub actions_in : Option RowView → ℕ → List Choice
actions_in None n = []
actions_in (Some r) n = slice_index_or r.actions n []

-- what may be done at a state and a next token
abbrev pub actions_at : TableView → ℕ → Tok → List Choice
actions_at t q k = actions_in (slice_get t.rows q) (number k)

-- the stack, whose top stands first, leads from the start to the state
pub data Leads (t : TableView) : List Sym → ℕ → Type 0 where
  nowhere : Leads t [] 0
  further : {a : List Sym} {q p : ℕ} {X : Sym} → Leads t a q → target_at t q X ≡ Some p → Leads t (X ∷ a) p
