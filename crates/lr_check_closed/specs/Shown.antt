-- Rows that show an automaton to have no fault.
use Rattle.std.specs.Prelude.{List}
use Rattle.lr_check_found.specs.lr_check_sets.specs.Automaton.{Automaton}
use Rattle.lr_check_found.specs.lr_check_sets.specs.Closed.{IsClosed, IsFine}
use Rattle.lr_check_found.specs.Lists.{ListsView}
use Rattle.lr_check_rows.specs.declared.rows.Row.{Row}
use Rattle.lr_check_closed.specs.Sets.{HasPlace, HasSettling, HasSum}

-- the rows are closed under the rules of the sets
abbrev pub AreClosed : Automaton → ListsView → List Row → Type 0
AreClosed A v rows = IsClosed A (HasPlace rows) (HasSettling v rows) (HasSum v rows)

-- the rows show no fault
abbrev pub AreFine : Automaton → ListsView → List Row → Type 0
AreFine A v rows = IsFine A (HasPlace rows) (HasSettling v rows)

pub record IsShown (A : Automaton) (v : ListsView) (rows : List Row) : Type 0 where
  pub closed : AreClosed A v rows
  pub fine : AreFine A v rows
