use Rattle.pack_rows.proofs.Looking.{found_at, found_not}
use Rattle.pack_rows.proofs.packed.place_of.Goals as goal

pub returns-in-Ok : goal.returns-in-Ok
returns-in-Ok c = found_at c.args.columns.now c.args.from c.args.to c.args.column c.requires.ordered c.requires.within c.requires.rising c.in-Ok.place c.in-Ok.ensures.position

pub returns-in-Err : goal.returns-in-Err
returns-in-Err c = found_not c.args.columns.now c.args.from c.args.to c.args.column c.requires.ordered c.requires.within c.requires.rising c.in-Err.field-0 c.in-Err.ensures.position
