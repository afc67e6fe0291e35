use Rattle.std.proofs.Common.{arith}
use Rattle.c_syntax.proofs.Seen.{has_token}
use Rattle.c_syntax.proofs.units.nothing_behind.Goals as goal

pub returns-in-len1-up-clause-other : goal.returns-in-len1-up-clause-other
returns-in-len1-up-clause-other c = (c.not_here.ensures, has_token c.args.tokens.now (omega (arith, c.in-len1-up.len_at_least)))
