use Rattle.lr_tables.proofs.Loops.{stands_some, stands_none}
use Rattle.lr_tables.proofs.sets.stands_before.Goals as goal

pub returns-in-Some : goal.returns-in-Some
returns-in-Some c = rw c.symbol_number.ensures (stands_some _ _ _ c.in-Some.ensures)

pub returns-in-None : goal.returns-in-None
returns-in-None c = stands_none _ _ c.in-None.ensures
