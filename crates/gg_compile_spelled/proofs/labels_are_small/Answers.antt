use Rattle.gg_compile_spelled.proofs.labels_are_small.Goals as goal
use Rattle.gg_compile_spelled.proofs.Law.{labels_are_small}

pub returns : goal.returns
returns c = labels_are_small
