use Rattle.sel_parse_moves.proofs.Told as law
use Rattle.sel_parse_moves.proofs.facts_join.Goals as goal

pub returns : goal.returns
returns g c = law.facts_join g.S.Selector.selecting _
