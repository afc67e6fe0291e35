use Rattle.gg_headline.proofs.Running as laws
use Rattle.gg_headline.proofs.exact.endless_texts_write.Goals as goal

pub returns : goal.returns
returns c = laws.endless_texts_write
