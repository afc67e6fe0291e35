use Rattle.gg_headline.proofs.Texts as laws
use Rattle.gg_headline.proofs.exact.texts_are_one.Goals as goal

pub returns : goal.returns
returns g c = search laws.texts_are_one
