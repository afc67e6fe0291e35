use Rattle.gg_headline.proofs.Running as laws
use Rattle.gg_headline.proofs.exact.runs_tell_all.Goals as goal

pub returns : goal.returns
returns c = laws.runs_tell_all
