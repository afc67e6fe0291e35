use Rattle.gg_compile_laws.proofs.laws.typed_codes_keep_programs.Goals as goal
use Rattle.gg_compile_laws.proofs.Limits.{typed_codes_keep_programs}

pub returns : goal.returns
returns c = typed_codes_keep_programs
