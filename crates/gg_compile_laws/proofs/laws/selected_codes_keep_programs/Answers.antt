use Rattle.gg_compile_laws.proofs.Keeping as law
use Rattle.gg_compile_laws.proofs.laws.selected_codes_keep_programs.Goals as goal

pub returns : goal.returns
returns c = law.selected_codes_keep_programs
