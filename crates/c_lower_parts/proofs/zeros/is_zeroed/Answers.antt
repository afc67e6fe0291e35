use Rattle.std.proofs.Common.{ap}
use Rattle.std.specs.Prelude.{not}
use Rattle.c_lower_parts.proofs.zeros.is_zeroed.Goals as goal

pub returns : goal.returns
returns c = ap not c.is_overwritten.ensures
