use Rattle.vax_machine.proofs.Rows.{row_there}
use Rattle.vax_machine.proofs.program.Program.row.Goals as goal

pub returns : goal.returns
returns c = row_there c.args.self.now.rows.items c.args.self.now.items.now c.args.place c.index.result.now c.args.self.now.rows_are c.requires c.index.ensures
