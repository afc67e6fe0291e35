use Rattle.gg_compile_names.proofs.Standing as law
use Rattle.gg_compile_names.proofs.laws.labels_stand.Goals as goal

pub returns : goal.returns
returns c = law.labels_stand
