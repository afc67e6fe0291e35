use Rattle.gg_headline.proofs.Telling as laws
use Rattle.gg_headline.proofs.laws.runs_tell.Goals as goal

pub returns : goal.returns
returns c = laws.runs_tell
