use Rattle.gg_compile_law.proofs.Demo.{demo_follows}
use Rattle.gg_compile_law.proofs.laws.demo_follows.Goals as goal

pub returns : goal.returns
returns c = demo_follows
