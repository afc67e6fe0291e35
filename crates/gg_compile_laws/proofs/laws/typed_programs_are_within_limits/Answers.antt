use Rattle.gg_compile_laws.proofs.laws.typed_programs_are_within_limits.Goals as goal
use Rattle.gg_compile_laws.proofs.Limits.{typed_programs_are_within_limits}

pub returns : goal.returns
returns c = typed_programs_are_within_limits
