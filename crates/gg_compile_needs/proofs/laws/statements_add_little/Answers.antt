use Rattle.gg_compile_needs.proofs.laws.statements_add_little.Goals as goal
use Rattle.gg_compile_needs.proofs.Adding.{statements_add_little}

pub returns : goal.returns
returns c = statements_add_little
