use Rattle.line_names.proofs.Law.{names_are_spelled}
use Rattle.line_names.proofs.laws.names_are_spelled.Goals as goal

pub returns : goal.returns
returns c = names_are_spelled
