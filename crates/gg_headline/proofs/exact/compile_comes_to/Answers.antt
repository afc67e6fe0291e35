use Rattle.gg_headline.proofs.Compiling as laws
use Rattle.gg_headline.proofs.exact.compile_comes_to.Goals as goal

pub returns : goal.returns
returns g c = laws.compile_comes_to _
