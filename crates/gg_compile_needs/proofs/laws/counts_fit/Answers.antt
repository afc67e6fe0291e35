use Rattle.gg_compile_needs.proofs.laws.counts_fit.Goals as goal
use Rattle.gg_compile_needs.proofs.Law.{counts_fit}

pub returns : goal.returns
returns c = counts_fit
