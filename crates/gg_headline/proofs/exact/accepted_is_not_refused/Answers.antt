use Rattle.gg_headline.proofs.Compiling as laws
use Rattle.gg_headline.proofs.exact.accepted_is_not_refused.Goals as goal

pub returns : goal.returns
returns g c = laws.accepted_is_not_refused _
