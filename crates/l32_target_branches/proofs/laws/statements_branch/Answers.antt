use Rattle.l32_target_branches.proofs.Law.{statements_branch}
use Rattle.l32_target_branches.proofs.laws.statements_branch.Goals as goal

pub returns : goal.returns
returns c = statements_branch
