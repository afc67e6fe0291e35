use Rattle.sel_parse_moves.proofs.Moves as law
use Rattle.sel_parse_moves.proofs.moves_mean_tree.Goals as goal

pub returns : goal.returns
returns g c = λ d objects s t c. law.moves_mean_tree d objects g.S.Selector.selecting s t c (g.S.Selector.interprets d.classes d.rules objects t)
