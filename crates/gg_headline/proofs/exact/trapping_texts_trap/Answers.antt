use Rattle.gg_headline.proofs.Running as laws
use Rattle.gg_headline.proofs.exact.trapping_texts_trap.Goals as goal

pub returns : goal.returns
returns c = laws.trapping_texts_trap
