use Rattle.gg_headline.proofs.Telling as laws
use Rattle.gg_headline.proofs.laws.texts_are_taken.Goals as goal

pub returns : goal.returns
returns c = laws.texts_are_taken
