use Rattle.gg_compile_spelled.proofs.typed_have_names.Goals as goal
use Rattle.gg_compile_spelled.proofs.Sources.{typed_have_names}

pub returns : goal.returns
returns c = typed_have_names
