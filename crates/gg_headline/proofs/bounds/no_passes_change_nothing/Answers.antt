use Rattle.gg_headline.proofs.Bounding as laws
use Rattle.gg_headline.proofs.bounds.no_passes_change_nothing.Goals as goal

pub returns : goal.returns
returns g c = search laws.no_passes_change_nothing
