use Rattle.gg_compile_keeps.proofs.Law as law
use Rattle.gg_compile_keeps.proofs.laws.selected_codes_keep_trees.Goals as goal

pub returns : goal.returns
returns c = law.selected_codes_keep_trees
