-- What the tables promise of a description.
use Rattle.std.specs.Prelude.{ℕ, List, Option, length}
use Rattle.tree_core.specs.declared.token.Tok.{Tok}
use Rattle.md_reader.specs.declared.types.Sym.{Sym}
use Rattle.md_reader.specs.State.{Content}
use Rattle.lr_tables.specs.declared.types.Choice.{Choice}
use Rattle.lr_tables.specs.Statements.{stmt_of}
use Rattle.lr_tables.specs.View.{TableView}
use Rattle.lr_tables.specs.Leads.{Leads}
use Rattle.lr_tables.specs.Candidates.{Candidates, Goes}
use Rattle.lr_tables.specs.Over.{HasTooMany}
use Rattle.lr_tables.specs.Built.{IsRows}

-- at each stack that leads to the state these are the candidates of its items, in order
abbrev pub AreCandidates : TableView → ℕ → Tok → List Choice → Type 0
AreCandidates t state token choices =
    (a : List Sym) → Leads t a state → Candidates t.content.rules (stmt_of t.content.classes) t a token choices

-- at each stack that leads to the state, that is where the class leads
abbrev pub LeadsOn : TableView → ℕ → ℕ → Option ℕ → Type 0
LeadsOn t state class target =
    (a : List Sym) → Leads t a state → Goes t.content.rules (stmt_of t.content.classes) t a class target

-- the description has more than `MAX_STATES` item sets
abbrev pub HasTooManySets : Content → Type 0
HasTooManySets d = HasTooMany d.rules (stmt_of d.classes)

-- the states are the item sets as they are found, breadth first, and the rows are theirs: how the code
-- computes them, on which the promises above rest
abbrev pub IsNumbered : TableView → Type 0
IsNumbered t = IsRows t.content.rules (stmt_of t.content.classes) (length t.content.classes) t.rows
