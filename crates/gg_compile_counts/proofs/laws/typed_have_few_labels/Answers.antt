use Rattle.gg_compile_counts.proofs.laws.typed_have_few_labels.Goals as goal
use Rattle.gg_compile_counts.proofs.Law.{typed_have_few_labels}

pub returns : goal.returns
returns c = typed_have_few_labels
