use Rattle.gg_compile_counts.proofs.laws.labels_are_few.Goals as goal
use Rattle.gg_compile_counts.proofs.Labels.{labels_are_few}

pub returns : goal.returns
returns c = labels_are_few
