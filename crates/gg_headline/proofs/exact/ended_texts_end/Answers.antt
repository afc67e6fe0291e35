use Rattle.gg_headline.proofs.Running as laws
use Rattle.gg_headline.proofs.exact.ended_texts_end.Goals as goal

pub returns : goal.returns
returns c = laws.ended_texts_end
