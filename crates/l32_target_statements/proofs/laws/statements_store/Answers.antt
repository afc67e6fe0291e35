use Rattle.l32_target_statements.proofs.Law.{statements_store}
use Rattle.l32_target_statements.proofs.laws.statements_store.Goals as goal

pub returns : goal.returns
returns c = statements_store
