use Rattle.gg_compile_arguments.proofs.Arguments as law
use Rattle.gg_compile_arguments.proofs.laws.selected_arguments_fit.Goals as goal

pub returns : goal.returns
returns c = law.selected_arguments_fit
