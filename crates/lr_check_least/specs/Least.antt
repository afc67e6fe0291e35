-- The least sets are closed under their rules, as a program's marks are asked to be.
use Rattle.lr_check_sets.specs.Automaton.{Automaton}
use Rattle.lr_check_sets.specs.Sums.{Place, Settling, Sum}
use Rattle.lr_check_sets.specs.Closed.{IsClosed}

-- so one look at a rule, with what it asks for, shows its result to be in the sets
abbrev pub LeastAreClosed : Type 0
LeastAreClosed = (A : Automaton) → IsClosed A (Place A) (Settling A) (Sum A)
