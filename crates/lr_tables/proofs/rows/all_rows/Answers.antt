use Rattle.lr_tables.proofs.RowTurns.{rows_all}
use Rattle.lr_tables.proofs.rows.all_rows.Goals as goal

pub returns-clause-rows : goal.returns-clause-rows
returns-clause-rows c = rows_all _ _ _ c.in_ok-sets.sets.keys _ c.in_ok-sets.ensures.few c.in_ok-sets.ensures.found c.in_ok-rows.ensures
