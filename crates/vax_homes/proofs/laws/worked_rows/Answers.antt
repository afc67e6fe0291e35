use Rattle.vax_homes.proofs.Rows.{rows}
use Rattle.vax_homes.proofs.laws.worked_rows.Goals as goal

-- src/laws.rt
pub returns : goal.returns
returns c = rows
