use Rattle.std.proofs.Common.{rules}
use Rattle.c_lower_parts.proofs.Onto.{rooted}
use Rattle.c_lower_parts.proofs.spelling.spelled.Goals as goal

pub returns : goal.returns
returns c = rooted c.args.one.now c.in_default.not-Label c.from_vec.result (search rules)
