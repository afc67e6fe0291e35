use Rattle.gg_headline.proofs.Bounding as laws
use Rattle.gg_headline.proofs.bounds.trapping_texts_trap_within.Goals as goal

pub returns : goal.returns
returns g c = laws.trapping_texts_trap_within _
