use Rattle.gg_compile_names.proofs.Lines as law
use Rattle.gg_compile_names.proofs.laws.selected_names_are_there.Goals as goal

pub returns : goal.returns
returns c = law.selected_names_are_there
