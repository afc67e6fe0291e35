use Rattle.gg_headline.proofs.Running as laws
use Rattle.gg_headline.proofs.exact.runs_come_to.Goals as goal

pub returns : goal.returns
returns c = laws.runs_come_to
