use Rattle.gg_compile_laws.proofs.Programs as law
use Rattle.gg_compile_laws.proofs.laws.selected_codes_can_be_written.Goals as goal

pub returns : goal.returns
returns c = law.selected_codes_can_be_written
