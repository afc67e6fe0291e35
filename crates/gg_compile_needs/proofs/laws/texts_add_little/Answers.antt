use Rattle.gg_compile_needs.proofs.laws.texts_add_little.Goals as goal
use Rattle.gg_compile_needs.proofs.Adding.{texts_add_little}

pub returns : goal.returns
returns c = texts_add_little
