use Rattle.sel_parse_moves.proofs.Moves as law
use Rattle.sel_parse_moves.proofs.parses_accept.Goals as goal

pub returns : goal.returns
returns g c = λ d. law.parse_accepts g.S.Selector.selecting d
