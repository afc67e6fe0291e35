-- The lemma of `Law`.
use Rattle.vax_target_statements.proofs.Law.{statements_do}
use Rattle.vax_target_statements.proofs.laws.statements_do.Goals as goal

pub returns : goal.returns
returns c = statements_do
