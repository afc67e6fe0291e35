use Rattle.rule_heads.proofs.Firsts.{heads_are_first}
use Rattle.rule_heads.proofs.laws.heads_are_first.Goals as goal

pub returns : goal.returns
returns c = heads_are_first
