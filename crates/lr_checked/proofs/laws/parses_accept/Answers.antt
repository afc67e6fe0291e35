use Rattle.lr_checked.proofs.Law as Laws
use Rattle.lr_checked.proofs.laws.parses_accept.Goals as goal

pub returns : goal.returns
returns g c = Laws.parses_accept g.A.Answers.answering
