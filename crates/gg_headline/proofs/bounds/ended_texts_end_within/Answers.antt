use Rattle.gg_headline.proofs.Bounding as laws
use Rattle.gg_headline.proofs.bounds.ended_texts_end_within.Goals as goal

pub returns : goal.returns
returns g c = laws.ended_texts_end_within _
