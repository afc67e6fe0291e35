use Rattle.gg_compile_law.proofs.Names.{code_labels_differ}
use Rattle.gg_compile_law.proofs.laws.code_labels_differ.Goals as goal

pub returns : goal.returns
returns c = code_labels_differ
