use Rattle.gg_compile_laws.proofs.Ready as law
use Rattle.gg_compile_laws.proofs.laws.each_tree_has_code.Goals as goal

pub returns : goal.returns
returns c = law.each_tree_has_code
