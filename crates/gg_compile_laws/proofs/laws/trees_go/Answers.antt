use Rattle.gg_compile_laws.proofs.Going as law
use Rattle.gg_compile_laws.proofs.laws.trees_go.Goals as goal

pub returns : goal.returns
returns c = law.trees_go
