use Rattle.gg_compile_laws.proofs.laws.typed_programs_are_ready.Goals as goal
use Rattle.gg_compile_laws.proofs.Typed.{typed_programs_are_ready}

pub returns : goal.returns
returns c = typed_programs_are_ready
