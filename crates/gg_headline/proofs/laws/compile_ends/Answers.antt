use Rattle.gg_headline.proofs.Ending as laws
use Rattle.gg_headline.proofs.laws.compile_ends.Goals as goal

pub returns : goal.returns
returns g c = laws.compile_ends _
