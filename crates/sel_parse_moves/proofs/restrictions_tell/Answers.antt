use Rattle.sel_parse_moves.proofs.Told as law
use Rattle.sel_parse_moves.proofs.restrictions_tell.Goals as goal

pub returns : goal.returns
returns g c = law.restrictions_tell g.S.Selector.selecting
